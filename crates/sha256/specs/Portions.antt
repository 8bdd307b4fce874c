-- Document 01: hashing in portions, for every state. A state is eight words, a tail of 64 bytes and the number of bytes taken.
use Rattle.std.specs.Prelude.{ℕ, ◌+◌, ◌%◌, ◌≡◌, Bool, List, [], ◌∷◌, length, set, leb, eqb}
use Rattle.base.specs.Choice.{pick}
use Rattle.base.specs.Bytes.{zeros}
use Rattle.base.specs.Limits.{max_hashed}
use Rattle.base.specs.Row.{first_of}
use Rattle.compression.specs.declared.Words.{Words}
use Rattle.sha256.specs.declared.Hash.{Hash}
use Rattle.compression.specs.Constants.{initial}
use Rattle.sha256.specs.Padding.{padding, blocks_of, words}
use Rattle.compression.specs.Compression.{compressed}
use Rattle.sha256.specs.Digest.{digest_of, digest, blocks_hashed}

-- a state whose tail is empty
abbrev pub cleared : Words → ℕ → Hash
cleared v taken = record { words = v; tail = zeros 64; taken = taken }

-- a state that has taken nothing
abbrev pub new_hash : Hash
new_hash = cleared initial 0

-- one byte more: it goes to the tail, and a full tail is compressed and cleared
unfoldable pub pushed : Hash → ℕ → Hash
pushed s byte =
    let tail : List ℕ = set s.tail (s.taken % 64) byte in
    pick (eqb (s.taken % 64) 63)
    (cleared (compressed s.words (words 16 tail)) (s.taken + 1))
    (record { words = s.words; tail = tail; taken = s.taken + 1 })

unfoldable pub pushed_all : Hash → List ℕ → Hash
pushed_all s [] = s
pushed_all s (byte ∷ bytes) = pushed_all (pushed s byte) bytes

-- how often `pushed` compresses a full tail
unfoldable pub compressions : Hash → List ℕ → ℕ
compressions s [] = 0
compressions s (byte ∷ bytes) = pick (eqb (s.taken % 64) 63) 1 0 + compressions (pushed s byte) bytes

-- 5: over 2^61 − 1 bytes in all
abbrev pub too_many : Hash → ℕ → Bool
too_many s more = leb (max_hashed + 1) (s.taken + more)

-- row 'Hashing', a portion: its number, and the state afterwards
unfoldable pub update_row : Hash → List ℕ → ℕ
update_row s part = first_of ((too_many s (length part), 5) ∷ [])

unfoldable pub update_state : Hash → List ℕ → Hash
update_state s part = pick (too_many s (length part)) s (pushed_all s part)

-- portions one after another: the state after them, and that each is done
unfoldable pub updated_all : Hash → List (List ℕ) → Hash
updated_all s [] = s
updated_all s (part ∷ parts) = updated_all (update_state s part) parts

unfoldable pub AllDone : Hash → List (List ℕ) → Type 0
AllDone s [] = Unit
AllDone s (part ∷ parts) = (update_row s part ≡ 0) × AllDone (update_state s part) parts

-- the compressions of all portions
unfoldable pub compressions_all : Hash → List (List ℕ) → ℕ
compressions_all s [] = 0
compressions_all s (part ∷ parts) = compressions s part + compressions_all (update_state s part) parts

-- row 'Hashing', the end: its number, and the digest, 32 zero bytes where it is refused
unfoldable pub finish_row : Hash → ℕ
finish_row s = first_of ((too_many s 0, 5) ∷ [])

unfoldable pub finish_digest : Hash → List ℕ
finish_digest s = pick (too_many s 0) (zeros 32) (digest_of (pushed_all s (padding s.taken)).words)

-- W-207: the blocks of a message of so many bytes (as many are compressed with its portions and at the end: `portions-counted`), 0 where it
-- is refused
unfoldable pub finish_blocks : Hash → ℕ
finish_blocks s = pick (too_many s 0) 0 (blocks_of s.taken)

-- the end hands the state back as it was, refused or not
abbrev pub finish_state : Hash → Hash
finish_state s = s

-- one call for a whole message: its number, and the digest, 32 zero bytes where it is refused
unfoldable pub digest_row : List ℕ → ℕ
digest_row message = first_of ((too_many new_hash (length message), 5) ∷ [])

unfoldable pub digest_answer : List ℕ → List ℕ
digest_answer message = pick (too_many new_hash (length message)) (zeros 32) (digest message)

-- W-207: its blocks, 0 where it is refused
unfoldable pub digest_blocks : List ℕ → ℕ
digest_blocks message = pick (too_many new_hash (length message)) 0 (blocks_hashed message)
