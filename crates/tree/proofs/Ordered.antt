-- The order in which labels are hashed and the byte after the statement, for every edition. Proofs elsewhere use these laws and
-- never look inside.
use mathlib.Core.Path.{◌≡◌, refl, sym, ap, ◌∙◌}
use Prim.Native.Nat.{ℕ, zero, suc, ◌-◌, ◌≤◌, ◌<◌}
use native.Mathlib.Omega.{arith}
use mathlib.Core.Bool.{Bool, true, false}
use mathlib.Core.List.{List, [], ◌∷◌, ◌++◌, map, map-append, reverse, reverse-cons, reverse-reverse}
use lib.Dec.{eqb}
use borrow.Author.Tests.{eq-eqb, ne_eqb}
use lib.ListN.{length, get_or, length-reverse, get_or-append}
use lib.Seq.{get_or_at}
use Rattle.base.specs.Choice.{pick}
use Rattle.base.specs.Lists.{EachOf}
use Rattle.tree.specs.Labels.{ordered, tag}
use Rattle.tree.proofs.Cut.{each-reverse}

-- an element's place in the order hashed
pub record PlaceIn {ℓ} {A : Type ℓ} (edition : ℕ) (xs : List A) (none x : A) : Type ℓ where
  pub place : ℕ
  pub inside : place < length xs
  pub there : get_or (ordered edition xs) place none ≡ x

-- ---- the last first
module _ {ℓ} {A : Type ℓ} where
  get_d_reverse : (xs : List A) (i : ℕ) (none : A) → i < length xs → get_or (reverse xs) (length xs - 1 - i) none ≡ get_or xs i none
  get_d_reverse [] i none h = absurd (omega arith)
  get_d_reverse (x ∷ xs) zero none h =
      let last : length (x ∷ xs) - 1 - 0 ≡ length xs = omega arith in
      rw (reverse-cons x xs, last) (get_or_at (reverse xs) x [] none (length xs) (length-reverse xs))
  get_d_reverse (x ∷ xs) (suc i) none h =
      let place : length (x ∷ xs) - 1 - suc i ≡ length xs - 1 - i = omega arith in
      rw (reverse-cons x xs, place)
      (get_or-append (reverse xs) (x ∷ []) none (length xs - 1 - i) (omega (arith, length-reverse xs))
      ∙ get_d_reverse xs i none (omega arith))

map-reverse : {A B : Type 0} (f : A → B) (xs : List A) → map f (reverse xs) ≡ reverse (map f xs)
map-reverse f [] = refl
map-reverse f (x ∷ xs) =
    rw (reverse-cons x xs, reverse-cons (f x) (map f xs))
    (map-append f (reverse xs) (x ∷ []) ∙ ap (λ (ys : List _). ys ++ f x ∷ []) (map-reverse f xs))

-- ---- in an edition's order
module _ {ℓ} {A : Type ℓ} (edition : ℕ) where
  pub ordered-first : edition ≡ 1 → (xs : List A) → ordered edition xs ≡ xs
  unfolding ordered
  ordered-first e xs = rw (eq-eqb edition 1 e)

  pub ordered-later : (edition ≡ 1 → ⊥) → (xs : List A) → ordered edition xs ≡ reverse xs
  unfolding ordered
  ordered-later other xs = rw (ne_eqb edition 1 other)

  pub ordered-length : (xs : List A) → length (ordered edition xs) ≡ length xs
  unfolding ordered
  ordered-length xs = by (eqb edition 1)
    where
      by : (first : Bool) → length (pick first xs (reverse xs)) ≡ length xs
      by true = refl
      by false = length-reverse xs

  pub ordered-injective : (xs ys : List A) → ordered edition xs ≡ ordered edition ys → xs ≡ ys
  unfolding ordered
  ordered-injective xs ys e = by (eqb edition 1) e
    where
      by : (first : Bool) → pick first xs (reverse xs) ≡ pick first ys (reverse ys) → xs ≡ ys
      by true same = same
      by false same = sym (reverse-reverse xs) ∙ ap reverse same ∙ reverse-reverse ys

  pub ordered-place : (xs : List A) (i : ℕ) (none : A) → i < length xs → PlaceIn edition xs none (get_or xs i none)
  unfolding ordered
  ordered-place xs i none h = by (eqb edition 1) refl
    where
      by : (first : Bool) → eqb edition 1 ≡ first → PlaceIn edition xs none (get_or xs i none)
      by true e = record { place = i; inside = h; there = rw e refl }
      by false e = record { place = length xs - 1 - i; inside = omega arith; there = rw e (get_d_reverse xs i none h) }

pub ordered-map : {A B : Type 0} (edition : ℕ) (f : A → B) (xs : List A) → map f (ordered edition xs) ≡ ordered edition (map f xs)
unfolding ordered
ordered-map edition f xs = by (eqb edition 1)
  where
    by : (first : Bool) → map f (pick first xs (reverse xs)) ≡ pick first (map f xs) (reverse (map f xs))
    by true = refl
    by false = map-reverse f xs

pub ordered-each : {A : Type 0} (edition w : ℕ) (xs : List (List A)) → EachOf w xs → EachOf w (ordered edition xs)
unfolding ordered
ordered-each edition w xs each = by (eqb edition 1)
  where
    by : (first : Bool) → EachOf w (pick first xs (reverse xs))
    by true = each
    by false = each-reverse w xs each

-- the byte after the statement is one
pub tag-byte : (edition n level : ℕ) → level ≤ n → n < 256 → tag edition n level < 256
unfolding tag
tag-byte edition n level inside small = omega arith
