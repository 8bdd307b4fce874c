-- What a state has taken, with the padding pushed after it, gives the digest of FIPS 180-4.
use Prim.Native.Nat.{ℕ, ◌+◌, ◌*◌, ◌/◌, ◌%◌}
use mathlib.Core.Path.{◌≡◌, refl, sym, ap, ◌∙◌}
use mathlib.Core.List.{List, ◌++◌}
use native.Mathlib.Nat.{zero-add}
use native.Mathlib.Omega.{arith}
use lib.ListN.{length, take, drop, length-append, length-drop, length-replicate}
use lib.Seq.{sets, sets-eq, length-sets, take_all, take_at}
use Rattle.sha256.specs.declared.Hash.{Hash}
use Rattle.compression.specs.declared.Words.{Words}
use Rattle.compression.specs.Constants.{initial}
use Rattle.base.specs.Bytes.{big_endian, zeros}
use Rattle.base.proofs.BytesLaws.{length-big_endian}
use Rattle.sha256.specs.Padding.{zero_bytes, padding, padded, blocks_of, blocks}
use Rattle.sha256.specs.Digest.{blocks_hashed, hash_after, digest_of, digest}
use Rattle.sha256.specs.Portions.{new_hash, pushed_all}
use Rattle.sha256.proofs.Pushing.{pushed_all-append, pushed_all-taken, pushed_all-blocks, pushed_all-cleared, pushed_all-closed}

pub length-padding : (n : ℕ) → length (padding n) ≡ zero_bytes n + 9
unfolding padding big_endian
length-padding n = simp (length-append, length-replicate) (omega arith)

-- the padding pushed: the bytes that wait in the tail and it are the last blocks
pub pushed-padding :
    (s : Hash) → length s.tail ≡ 64
    → (pushed_all s (padding s.taken)).words ≡
    hash_after s.words (take (s.taken % 64) s.tail ++ padding s.taken) (blocks (take (s.taken % 64) s.tail ++ padding s.taken))
pushed-padding s size =
    pushed_all-closed
    s
    (padding s.taken)
    size
    (omega (arith, length-padding s.taken))
    (omega (arith, length-padding s.taken))

-- a padded message is whole blocks, as many as its length gives
padded-size : (m : List ℕ) → length (padded m) ≡ length m + (zero_bytes (length m) + 9)
unfolding padded
padded-size m = length-append m (padding (length m)) ∙ ap (λ (k : ℕ). length m + k) (length-padding (length m))

length-padded : (m : List ℕ) → length (padded m) ≡ 64 * blocks (padded m)
length-padded m = omega (arith, padded-size m)

pub blocks-hashed : (m : List ℕ) → blocks_hashed m ≡ blocks_of (length m)
blocks-hashed m = ap (λ (k : ℕ). k / 64) (padded-size m) ∙ omega arith

pub digest-pushed : (m : List ℕ) → digest_of (pushed_all (pushed_all new_hash m) (padding (pushed_all new_hash m).taken)).words ≡ digest m
unfolding digest padded
digest-pushed m =
    let p : List ℕ = m ++ padding (length m) in
    let whole : take (64 * blocks p) p ≡ p = take_all (64 * blocks p) p (omega (arith, length-padded m)) in
    ap (λ (s : Hash). digest_of s.words)
    (ap (λ (n : ℕ). pushed_all (pushed_all new_hash m) (padding n)) (pushed_all-taken new_hash m ∙ zero-add (length m)) ∙
    sym (pushed_all-append new_hash m (padding (length m))) ∙
    ap (pushed_all new_hash) (sym whole) ∙
    pushed_all-blocks initial 0 p (blocks p) refl (omega (arith, length-padded m)))

-- the same with no state between: the hash words after the whole blocks, then the last blocks
pub digest-split :
    (m : List ℕ) → let rest : List ℕ = drop (64 * blocks m) m ++ padding (length m) in
    digest_of (hash_after (hash_after initial m (blocks m)) rest (blocks rest)) ≡ digest m
digest-split m =
    let rest : List ℕ = drop (64 * blocks m) m in
    let n : length rest ≡ (0 + length m) % 64 = length-drop (64 * blocks m) m ∙ omega arith in
    let s : Hash = record { words = hash_after initial m (blocks m); tail = sets (zeros 64) 0 rest; taken = 0 + length m } in
    let waits : take ((0 + length m) % 64) s.tail ≡ rest =
    ap (take ((0 + length m) % 64)) (sets-eq rest (zeros 64) 0 (rw length-replicate (omega arith))) ∙ take_at rest _ _ n in
    ap digest_of (sym (pushed-padding s (simp (length-sets, length-replicate)) ∙ rw (waits, zero-add (length m))))
    ∙ ap (λ (t : Hash). digest_of (pushed_all t (padding t.taken)).words) (sym (pushed_all-cleared initial 0 m refl))
    ∙ digest-pushed m

-- ---- a digest has 32 bytes
words-length : (v : Words) → length (digest_of v) ≡ 32
unfolding digest_of
words-length v = simp (length-append, length-big_endian)

pub digest-length : (x : List ℕ) → length (digest x) ≡ 32
unfolding digest
digest-length x = words-length _
