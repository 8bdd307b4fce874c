-- Numbers as bytes, and lists laid end to end: lengths, and that both can be read back.
use mathlib.Core.Path.{◌≡◌, refl, sym, ap, ◌∙◌}
use Prim.Native.Nat.{ℕ, zero, suc, ◌*◌, ◌/◌, ◌%◌, ◌^◌, ◌<◌}
use native.Mathlib.Nat.{pow-suc, div-lt_iff_lt-mul, mul-suc, mul-zero, add_comm}
use native.Mathlib.Numerals.{add-one}
use native.Mathlib.Omega.{arith}
use mathlib.Core.List.{List, [], ◌∷◌, ◌++◌, append_assoc}
use lib.ListN.{length, take, drop, get_or, length-append}
use lib.Seq.{take_at, drop_at, drop-append-add}
use Rattle.base.specs.Bytes.{big_endian, joined}
use Rattle.base.specs.Lists.{EachOf}

pub length-big_endian : (k x : ℕ) → length (big_endian k x) ≡ k
unfolding big_endian
length-big_endian zero x = refl
length-big_endian (suc k) x = simp (length-append, length-big_endian k (x / 256), add-one)

-- equal sums of parts of equal length have equal parts
module _ {ℓ} {A : Type ℓ} (a b c d : List A) (n : ℕ) (ha : length a ≡ n) (hb : length b ≡ n) (e : a ++ c ≡ b ++ d) where
  pub first_part : a ≡ b
  first_part = sym (take_at a c n ha) ∙ ap (take n) e ∙ take_at b d n hb

  pub second-part : c ≡ d
  second-part = sym (drop_at a c n ha) ∙ ap (drop n) e ∙ drop_at b d n hb

module _ (k x y : ℕ) (e : big_endian k (x / 256) ++ x % 256 ∷ [] ≡ big_endian k (y / 256) ++ y % 256 ∷ []) where
  high_same : big_endian k (x / 256) ≡ big_endian k (y / 256)
  high_same =
      first_part
      (big_endian k (x / 256))
      (big_endian k (y / 256))
      (x % 256 ∷ [])
      (y % 256 ∷ [])
      k
      (length-big_endian k (x / 256))
      (length-big_endian k (y / 256))
      e

  low_same : x % 256 ≡ y % 256
  low_same =
      ap
      (λ (l : List ℕ). get_or l 0 0)
      (second-part
      (big_endian k (x / 256))
      (big_endian k (y / 256))
      (x % 256 ∷ [])
      (y % 256 ∷ [])
      k
      (length-big_endian k (x / 256))
      (length-big_endian k (y / 256))
      e)

high-below : (k x : ℕ) → x < 256 ^ suc k → x / 256 < 256 ^ k
high-below k x h = (div-lt_iff_lt-mul {k = 256} {x = x} {y = 256 ^ k} (omega arith)).1 (rw pow-suc at h)

pub big_endian-injective : (k x y : ℕ) → x < 256 ^ k → y < 256 ^ k → big_endian k x ≡ big_endian k y → x ≡ y
unfolding big_endian
big_endian-injective zero x y hx hy e = omega arith
big_endian-injective (suc k) x y hx hy e =
    let high : x / 256 ≡ y / 256 = big_endian-injective k (x / 256) (y / 256) (high-below k x hx) (high-below k y hy) (high_same k x y e) in
    let low : x % 256 ≡ y % 256 = low_same k x y e in
    omega arith

get_or-below : (xs ys : List ℕ) → ((i : ℕ) → get_or xs i 0 < 256) → ((i : ℕ) → get_or ys i 0 < 256) → (i : ℕ) → get_or (xs ++ ys) i 0 < 256
get_or-below [] ys hx hy i = hy i
get_or-below (x ∷ xs) ys hx hy zero = hx zero
get_or-below (x ∷ xs) ys hx hy (suc i) = get_or-below xs ys (λ j. hx (suc j)) hy i

-- each element is a byte
pub big_endian-byte : (k x i : ℕ) → get_or (big_endian k x) i 0 < 256
unfolding big_endian
big_endian-byte zero x i = omega arith
big_endian-byte (suc k) x i = get_or-below (big_endian k (x / 256)) (x % 256 ∷ []) (big_endian-byte k (x / 256)) last i
  where
    last : (i : ℕ) → get_or (x % 256 ∷ []) i 0 < 256
    last zero = omega arith
    last (suc i) = omega arith

module _ {ℓ} {A : Type ℓ} where
  pub length-joined : (w : ℕ) (xs : List (List A)) → EachOf w xs → length (joined xs) ≡ w * length xs
  unfolding joined
  length-joined w [] t = omega arith
  length-joined w (x ∷ xs) t = rw (length-append, t.0, length-joined w xs t.1, mul-suc) (omega arith)

  pub joined-append : (xs ys : List (List A)) → joined (xs ++ ys) ≡ joined xs ++ joined ys
  unfolding joined
  joined-append [] ys = refl
  joined-append (x ∷ xs) ys = rw (joined-append xs ys, append_assoc)

  -- lists of known length can be read back
  pub joined-injective : (w : ℕ) (xs ys : List (List A)) → length xs ≡ length ys → EachOf w xs → EachOf w ys → joined xs ≡ joined ys → xs ≡ ys
  unfolding joined
  joined-injective w [] [] n s t e = refl
  joined-injective w [] (y ∷ ys) n s t e = absurd (omega arith)
  joined-injective w (x ∷ xs) [] n s t e = absurd (omega arith)
  joined-injective w (x ∷ xs) (y ∷ ys) n s t e =
      let head : x ≡ y = first_part x y (joined xs) (joined ys) w s.0 t.0 e in
      let rest : joined xs ≡ joined ys = second-part x y (joined xs) (joined ys) w s.0 t.0 e in
      let tail : xs ≡ ys = joined-injective w xs ys (omega arith) s.1 t.1 rest in
      cc

  pub joined_at : (w : ℕ) (xs : List (List A)) → EachOf w xs → (i : ℕ) → i < length xs → take w (drop (w * i) (joined xs)) ≡ get_or xs i []
  unfolding joined
  joined_at w [] t i h = absurd (omega arith)
  joined_at w (x ∷ xs) t zero h = rw mul-zero (take_at x (joined xs) w t.0)
  joined_at w (x ∷ xs) t (suc i) h =
      let here : drop (w * suc i) (x ++ joined xs) ≡ drop (w * i) (joined xs) = rw (mul-suc, add_comm (w * i) w, ← t.0, drop-append-add) in
      rw here (joined_at w xs t.1 i (omega arith))
