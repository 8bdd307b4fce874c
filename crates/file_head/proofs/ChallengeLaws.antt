-- Laws of a challenge: its hash input laid out, and the first bits of the hash as a number.
use mathlib.Core.Path.{◌≡◌, refl, ap, ◌∙◌}
use mathlib.Core.List.{List, [], ◌∷◌, ◌++◌, append_assoc, append-nil}
use Prim.Native.Nat.{ℕ, zero, suc, ◌+◌, ◌-◌, ◌*◌, ◌/◌, ◌%◌, ◌^◌, ◌≤◌, ◌<◌}
use native.Mathlib.Nat.{mul-le-mul_right}
use native.Mathlib.Omega.{arith}
use borrow.Author.Tests.{lt-leb}
use lib.ListN.{length, take, drop, get_or, length-append}
use lib.Pow.{pow-add, shr-shr, high}
use lib.Seq.{take_at, take-suc, take_all}
use Rattle.std.proofs.Common.{w64}
use Rattle.std.specs.Int.{from_be_bytes}
use Rattle.base.specs.Limits.{max_hashed, max_depth}
use Rattle.base.specs.Bytes.{big_endian, zeros, written}
use Rattle.base.proofs.BytesLaws.{length-big_endian}
use Rattle.base.proofs.Zeros.{filled_more}
use Rattle.std.specs.Prelude.{Result, Ok, Err, IsOk}
use Rattle.base.specs.declared.refusal.Refusal.{Refusal}
use Rattle.base.specs.Number.{outcome_number}
use Rattle.base.proofs.Bounds.{number-some}
use Rattle.compression.specs.declared.Words.{Words}
use Rattle.sha256.specs.Digest.{digest_of, digest}
use Rattle.sha256.specs.Portions.{new_hash, digest_row, digest_answer}
use Rattle.file_head.specs.Challenge.{challenge_word, challenge_input, big_endian_value, challenge_leaf}

-- ---- the hash

last-four : (i : ℕ) → take 4 (drop 4 (big_endian 8 i)) ≡ big_endian 4 i
unfolding big_endian
last-four i = refl

module _ (edition n : ℕ) (statement root : List ℕ) (i : ℕ) (number b1 b2 b3 b4 : List ℕ) (s : length statement ≡ 32) (r : length root ≡ 32)
    (e : number ≡ big_endian 8 i)
    (e1 : b1 ≡ written (zeros 77) 0 statement) (e2 : b2 ≡ written b1 32 challenge_word) (e3 : b3 ≡ written b2 41 root)
    (e4 : b4 ≡ written b3 73 (take 4 (drop 4 number))) where
  after-statement : b1 ≡ statement ++ zeros (77 - 32)
  after-statement = e1 ∙ rw s at (filled_more 77 (zeros 77) [] statement 0 refl refl (omega arith))

  after-word : b2 ≡ (statement ++ challenge_word) ++ zeros (77 - 41)
  after-word = e2 ∙ filled_more 77 b1 statement challenge_word 32 after-statement s (omega arith)

  after-root : b3 ≡ (statement ++ challenge_word ++ root) ++ zeros (77 - 73)
  after-root =
      e3 ∙ rw r at (filled_more 77 b2 (statement ++ challenge_word) root 41 after-word (rw (length-append, s)) (omega arith))

  pub input-laid : b4 ≡ challenge_input edition n statement root i
  unfolding challenge_input
  input-laid =
      let size : length (statement ++ challenge_word ++ root) ≡ 73 = rw (length-append, length-append, s, r) in
      let four : take 4 (drop 4 number) ≡ big_endian 4 i = rw e (last-four i) in
      e4
      ∙ ap (λ (l : List ℕ). written b3 73 l) four
      ∙ rw (length-big_endian 4 i) at (filled_more 77 b3 (statement ++ challenge_word ++ root) (big_endian 4 i) 73 after-root size
      (rw (length-big_endian 4 i) (omega arith)))
      ∙ append-nil (statement ++ challenge_word ++ root ++ big_endian 4 i)

-- an answer of number 0 is done
pub done-ok : {A : Type 0} (o : Result A Refusal) → outcome_number o ≡ 0 → IsOk o
done-ok (Ok x) e = refl
done-ok (Err r) e = absurd (omega (arith, number-some r))

-- a message that is not too long is hashed
pub short-row : (m : List ℕ) → length m ≤ max_hashed → digest_row m ≡ 0
unfolding digest_row
short-row m h = rw (lt-leb (max_hashed + 1) (new_hash.taken + length m) (omega arith))

pub short-digest : (m : List ℕ) → length m ≤ max_hashed → digest_answer m ≡ digest m
unfolding digest_answer
short-digest m h = rw (lt-leb (max_hashed + 1) (new_hash.taken + length m) (omega arith))

-- ---- the first bits
pub value-append : (a b : List ℕ) → big_endian_value (a ++ b) ≡ big_endian_value a * 256 ^ length b + big_endian_value b
unfolding big_endian_value
value-append [] b = omega arith
value-append (x ∷ a) b = rw (value-append a b, length-append a b, pow-add 256 (length a) (length b)) (omega arith)

-- bytes are worth less than one more place would be
abbrev pub Small : List ℕ → Type 0
Small bytes = big_endian_value bytes < 256 ^ length bytes

sum_below : (x y p q : ℕ) → x < p → y < q → x * q + y < p * q
sum_below x y p q hx hy = omega (arith, mul-le-mul_right {m = x + 1} {n = p} q (omega arith))

small-append : (a b : List ℕ) → Small a → Small b → Small (a ++ b)
small-append a b ha hb =
    rw (value-append a b, length-append a b, pow-add 256 (length a) (length b))
    (sum_below (big_endian_value a) (big_endian_value b) (256 ^ length a) (256 ^ length b) ha hb)

small_one : (x : ℕ) → Small (x % 256 ∷ [])
unfolding big_endian_value
small_one x = omega arith

pub small-number : (k x : ℕ) → Small (big_endian k x)
unfolding big_endian big_endian_value
small-number zero x = omega arith
small-number (suc k) x = small-append (big_endian k (x / 256)) (x % 256 ∷ []) (small-number k (x / 256)) (small_one x)

pub word_after : (bytes : List ℕ) (x : ℕ) → Small bytes → Small (bytes ++ big_endian 4 x)
word_after bytes x h = small-append bytes (big_endian 4 x) h (small-number 4 x)

-- the first eight bytes of a hash and the rest
record Split (hash : List ℕ) : Type 0 where
  pub front : List ℕ
  pub rest : List ℕ
  pub whole : hash ≡ front ++ rest
  pub front_length : length front ≡ 8
  pub rest_length : length rest ≡ 24
  pub rest_small : Small rest

words-split : (v : Words) → Split (digest_of v)
unfolding digest_of
words-split v = record {
  front = big_endian 4 v.a ++ big_endian 4 v.b;
  rest =
      big_endian 4 v.c ++ big_endian 4 v.d ++ big_endian 4 v.e ++ big_endian 4 v.f ++ big_endian 4 v.g ++ big_endian 4
      v.h;
  whole = simp append_assoc;
  front_length = simp (length-append, length-big_endian);
  rest_length = simp (length-append, length-big_endian);
  rest_small =
      word_after _ v.h
      (word_after _ v.g (word_after _ v.f (word_after _ v.e (word_after _ v.d (small-number 4 v.c)))));
}

digest-split : (m : List ℕ) → Split (digest m)
unfolding digest
digest-split m = words-split _

-- the first n bits of 256 are those of the first 64
first-bits : (hash : List ℕ) (n : ℕ) → Split hash → n ≤ 64
    → big_endian_value (take 8 hash) / 2 ^ (64 - n) ≡ big_endian_value hash / 2 ^ (256 - n)
first-bits hash n s h =
    let front : take 8 hash ≡ s.front = ap (take 8) s.whole ∙ take_at s.front s.rest 8 s.front_length in
    let small : big_endian_value s.rest < 2 ^ 192 = rw s.rest_length at s.rest_small in
    let value : big_endian_value hash ≡ big_endian_value s.front * 2 ^ 192 + big_endian_value s.rest =
    ap big_endian_value s.whole ∙ rw s.rest_length at (value-append s.front s.rest) in
    let bits : 192 + (64 - n) ≡ 256 - n = omega arith in
    rw (front, ← bits, ← shr-shr (big_endian_value hash) 192 (64 - n), value, high (big_endian_value s.front) 192 small)

pub leaf-bits : (edition n : ℕ) (statement root : List ℕ) (i word : ℕ) (hash : List ℕ) → n ≤ max_depth
    → hash ≡ digest (challenge_input edition n statement root i)
    → word ≡ big_endian_value (take 8 hash) → word / 2 ^ (64 - n) ≡ challenge_leaf edition n statement root i
unfolding challenge_leaf
leaf-bits edition n statement root i word hash h e w =
    rw (w, e)
    (first-bits (digest (challenge_input edition n statement root i)) n
    (digest-split (challenge_input edition n statement root i)) (omega arith))

-- the number of eight bytes, one more byte after another
value_more : (bytes : List ℕ) (i : ℕ) → i < length bytes
    → big_endian_value (take (suc i) bytes) ≡ 256 * big_endian_value (take i bytes) + get_or bytes i 0
unfolding big_endian_value
value_more bytes i h = rw (take-suc bytes i 0 h, value-append (take i bytes) (get_or bytes i 0 ∷ [])) (omega arith)

pub word-value : (bytes : List ℕ) → length bytes ≡ 8 → from_be_bytes w64 bytes ≡ big_endian_value bytes
unfolding big_endian_value
word-value bytes n =
    let more = λ (i : ℕ) (h : i < 8). value_more bytes i (omega arith) in
    let all : take 8 bytes ≡ bytes = take_all 8 bytes (omega arith) in
    let value : from_be_bytes w64 bytes ≡ big_endian_value (take 8 bytes) =
    omega (
      arith,
      more 0 (omega arith),
      more 1 (omega arith),
      more 2 (omega arith),
      more 3 (omega arith),
      more 4 (omega arith),
      more 5 (omega arith),
      more 6 (omega arith),
      more 7 (omega arith),
    ) in
    value ∙ ap big_endian_value all
