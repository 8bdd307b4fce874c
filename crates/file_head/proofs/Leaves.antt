-- A digest has 32 bytes, so a challenge picks a leaf of the tree.
use mathlib.Core.Path.{◌≡◌}
use Prim.Native.Nat.{ℕ, ◌+◌, ◌-◌, ◌^◌, ◌≤◌, ◌<◌}
use native.Mathlib.Omega.{arith}
use mathlib.Core.List.{List}
use lib.Pow.{shr_lt}
use Rattle.compression.specs.declared.Words.{Words}
use Rattle.sha256.specs.Digest.{digest_of, digest}
use Rattle.sha256.proofs.Digests.{digest-length}
use Rattle.file_head.specs.Challenge.{challenge_input, big_endian_value, challenge_leaf}
use Rattle.file_head.proofs.ChallengeLaws.{Small, small-number, word_after}

words_small : (v : Words) → Small (digest_of v)
unfolding digest_of
words_small v =
    word_after _ v.h
    (word_after _ v.g
    (word_after _ v.f
    (word_after _ v.e (word_after _ v.d (word_after _ v.c (word_after _ v.b (small-number 4 v.a)))))))

digest-small : (x : List ℕ) → Small (digest x)
unfolding digest
digest-small x = words_small _

digest-below : (x : List ℕ) → big_endian_value (digest x) < 2 ^ 256
digest-below x = rw digest-length at (digest-small x)

pub challenge_leaf-small : (edition n : ℕ) (statement root : List ℕ) (i : ℕ) → n ≤ 256 → challenge_leaf edition n statement root i < 2 ^ n
unfolding challenge_leaf
challenge_leaf-small edition n statement root i small =
    let all : n + (256 - n) ≡ 256 = omega arith in
    shr_lt n (256 - n) (rw all (digest-below (challenge_input edition n statement root i)))
