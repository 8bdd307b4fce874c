-- The end of a message at the front of zeros, padded where it lies (FIPS 180-4, 5.1.1).
use mathlib.Core.Path.{◌≡◌, refl, sym, ap, ◌∙◌}
use mathlib.Core.List.{List, [], ◌∷◌, ◌++◌, append_assoc}
use Prim.Native.Nat.{ℕ, ◌+◌, ◌-◌, ◌*◌, ◌%◌, ◌≤◌}
use native.Mathlib.Omega.{arith}
use lib.ListN.{length, take, length-append, length-replicate}
use lib.Seq.{take_at}
use Rattle.base.specs.Bytes.{big_endian, zeros, written}
use Rattle.base.proofs.BytesLaws.{length-big_endian}
use Rattle.base.proofs.Zeros.{zeros-split, written-zeros}
use Rattle.sha256.specs.Padding.{zero_bytes, padding, blocks_of}

-- the bytes of the blocks that len bytes fill when they are padded
abbrev pub padded_size : ℕ → ℕ
padded_size len = 64 * blocks_of len

-- the zero bytes between the byte 128 and the length
between : (len : ℕ) → padded_size len - 8 - (len + 1) ≡ zero_bytes len
between len = omega arith

-- m holds the last len bytes of a message of `all`, whose other bytes are whole blocks
module _ (m : List ℕ) (len all k : ℕ) (e : length m ≡ len) (same : len % 64 ≡ all % 64) (room : padded_size len ≤ len + k) where
  abbrev marked : List ℕ
  marked = m ++ 128 ∷ []

  abbrev before_length : List ℕ
  before_length = marked ++ zeros (zero_bytes len)

  with-mark : written (m ++ zeros k) len (128 ∷ []) ≡ before_length ++ zeros (k - 1 - zero_bytes len)
  with-mark =
      written-zeros m (128 ∷ []) k len (sym e) (omega arith)
      ∙ ap (λ (l : List ℕ). marked ++ l) (zeros-split (k - 1) (zero_bytes len) (omega arith))
      ∙ sym (append_assoc marked (zeros (zero_bytes len)) (zeros (k - 1 - zero_bytes len)))

  length_before : length before_length ≡ padded_size len - 8
  length_before = simp (length-append, length-replicate, e) (omega (arith, between len))

  with-length :
      written (written (m ++ zeros k) len (128 ∷ [])) (padded_size len - 8) (big_endian 8 (8 * all))
      ≡ (before_length ++ big_endian 8 (8 * all)) ++ zeros (k - 1 - zero_bytes len - 8)
  with-length =
      ap (λ (l : List ℕ). written l (padded_size len - 8) (big_endian 8 (8 * all))) with-mark
      ∙ written-zeros before_length (big_endian 8 (8 * all)) (k - 1 - zero_bytes len) (padded_size len - 8) (sym length_before)
      (rw (length-big_endian 8 (8 * all)) (omega (arith, between len)))
      ∙ ap (λ (i : ℕ). (before_length ++ big_endian 8 (8 * all)) ++ zeros (k - 1 - zero_bytes len - i)) (length-big_endian 8 (8 * all))

  pub padded-front :
      take (padded_size len) (written (written (m ++ zeros k) len (128 ∷ [])) (padded_size len - 8) (big_endian 8 (8 * all)))
      ≡ m ++ padding all
  unfolding padding
  padded-front =
      ap (λ (l : List ℕ). take (padded_size len) l) with-length
      ∙ take_at (before_length ++ big_endian 8 (8 * all)) (zeros (k - 1 - zero_bytes len - 8)) (padded_size len)
      (length-append before_length (big_endian 8 (8 * all)) ∙ rw (length_before, length-big_endian 8 (8 * all)) (omega arith))
      ∙ rw (append_assoc, append_assoc, same)

-- the last blocks of a message, as the code lays them into a zeroed array
pub last-laid :
    (rest bits b1 b2 b3 : List ℕ) (all : ℕ) → length rest ≡ all % 64 → bits ≡ big_endian 8 (8 * all) → b1 ≡ written (zeros 128) 0 rest
    → b2 ≡ written b1 (length rest) (128 ∷ []) → b3 ≡ written b2 (padded_size (length rest) - 8) bits
    → take (padded_size (length rest)) b3 ≡ rest ++ padding all
last-laid rest bits b1 b2 b3 all e p q r s =
    let first : b1 ≡ rest ++ zeros (128 - length rest) = q ∙ written-zeros [] rest 128 0 refl (omega arith) in
    ap (take (padded_size (length rest))) (s ∙ rw (r, first, p))
    ∙ padded-front rest (length rest) all (128 - length rest) refl (rw e (omega arith)) (omega arith)
