-- The words of a block lie in its own 64 bytes, and what absorbing one block more gives.
use Prim.Native.Nat.{ℕ, zero, suc, ◌+◌, ◌-◌, ◌*◌, ◌<◌, ◌≤◌}
use mathlib.Core.Path.{◌≡◌, refl, sym, ap, ◌∙◌}
use mathlib.Core.List.{List, [], ◌++◌}
use native.Mathlib.Numerals.{add-one}
use native.Mathlib.Omega.{arith}
use lib.ListN.{length, get_or, take, drop, length-drop, take-append-drop, get_or-append}
use lib.Seq.{take_all, drop-append-le, length-take-le}
use Rattle.compression.specs.declared.Words.{Words}
use Rattle.std.specs.Simd.{first_chunks}
use Rattle.sha256.specs.Padding.{blocks, words}
use Rattle.sha256.proofs.Gather.{get_or-first_chunks}
use Rattle.compression.specs.Compression.{compressed}
use Rattle.sha256.specs.Digest.{block, hash_after}

words_append : (k : ℕ) (p q : List ℕ) → 4 * k ≤ length p → words k (p ++ q) ≡ words k p
unfolding words
words_append zero p q h = refl
words_append (suc k) p q h =
    rw (
      get_or-append p q 0 0 (omega arith),
      get_or-append p q 0 1 (omega arith),
      get_or-append p q 0 2 (omega arith),
      get_or-append p q 0 3 (omega arith),
      drop-append-le 4 p q (omega arith),
      words_append k (drop 4 p) q (simp length-drop (omega arith)),
    )

pub words_take : (l : List ℕ) → 64 ≤ length l → words 16 (take 64 l) ≡ words 16 l
words_take l h =
    sym (words_append 16 (take 64 l) (drop 64 l) (rw (length-take-le 64 l h) (omega arith))) ∙
    ap (words 16) (take-append-drop 64 l)

pub hash_after-more : (start v w : Words) (bytes b : List ℕ) (i : ℕ) → v ≡ hash_after start bytes i → b ≡ block bytes i
    → w ≡ compressed v b → w ≡ hash_after start bytes (i + 1)
unfolding hash_after
hash_after-more start v w bytes b i p q r = rw (add-one i, ← p, ← q) r

-- the words of one of the parts of 64 bytes
pub block-from : (bytes : List ℕ) (parts : List (List ℕ)) (i : ℕ) → parts ≡ first_chunks 64 (blocks bytes) bytes → i < blocks bytes
    → words 16 (get_or parts i []) ≡ block bytes i
block-from bytes parts i e h =
    ap (λ (l : List (List ℕ)). words 16 (get_or l i [])) e
    ∙ ap (words 16) (get_or-first_chunks 64 (blocks bytes) bytes i [] h)
    ∙ words_take (drop (64 * i) bytes) (rw length-drop (omega arith))

-- 64 bytes are one block
pub hash_after-one : (v : Words) (bytes : List ℕ) → length bytes ≡ 64 → hash_after v bytes (blocks bytes) ≡ compressed v (words 16 bytes)
unfolding hash_after
hash_after-one v bytes h = rw h refl

-- the part of a slice from a place on, as the code lends it
pub part-from : (n : ℕ) (l : List ℕ) → take (length l - n) (drop n l) ≡ drop n l
part-from n l = take_all (length l - n) (drop n l) (simp length-drop (omega arith))
