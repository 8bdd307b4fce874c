-- Tests that tell equality, on numbers and so on lists of them.
use mathlib.Core.Path.{◌≡◌, refl, ap}
use Prim.Native.Nat.{ℕ}
use mathlib.Core.Bool.{Bool, true, false}
use mathlib.Core.List.{List, [], ◌∷◌}
use borrow.Author.Tests.{eqb-true, eq-eqb}
use lib.Pointwise.{pointwise}
use Rattle.std.specs.Prelude.{◌&&◌}
use Rattle.base.specs.Choice.{both}
use Rattle.base.specs.Lists.{same_by, same_bytes, same_labels}
use Rattle.base.proofs.ChoiceLaws.{both_first, both-second, both_yes, true-false, not_so}

-- a test that tells equality
pub record Tells {ℓ} {A : Type ℓ} (test : A → A → Bool) : Type ℓ where
  pub equal : (a b : A) → test a b ≡ true → a ≡ b
  pub self : (a : A) → test a a ≡ true

-- its other three forms
module _ {ℓ} {A : Type ℓ} {test : A → A → Bool} (tells : Tells test) (a b : A) where
  pub test-same : a ≡ b → test a b ≡ true
  test-same e = rw e (tells.self b)

  pub test-false : test a b ≡ false → a ≡ b → ⊥
  test-false t e = true-false (test a b) (test-same e) t

  pub test-differ : (a ≡ b → ⊥) → test a b ≡ false
  test-differ d = not_so (test a b) (λ t. d (tells.equal a b t))

module _ {ℓ} {A : Type ℓ} {test : A → A → Bool} (tells : Tells test) where
  same_lists : (x y : List A) → same_by test x y ≡ true → x ≡ y
  unfolding same_by
  same_lists [] [] e = refl
  same_lists [] (b ∷ y) e = cc
  same_lists (a ∷ x) [] e = cc
  same_lists (a ∷ x) (b ∷ y) e =
      let head : a ≡ b = tells.equal a b (both_first (test a b) (same_by test x y) e) in
      let tail : x ≡ y = same_lists x y (both-second (test a b) (same_by test x y) e) in
      cc

  same_self : (x : List A) → same_by test x x ≡ true
  unfolding same_by
  same_self [] = refl
  same_self (a ∷ x) = rw (tells.self a) (same_self x)

  pub tells-lists : Tells (same_by test)
  tells-lists = record { equal = same_lists; self = same_self }

pub tells-bytes : Tells same_bytes
tells-bytes = tells-lists (record { equal = eqb-true; self = λ a. eq-eqb a a refl })

pub tells-labels : Tells same_labels
tells-labels = tells-lists tells-bytes

pub same-two : (a b c d : List ℕ) → same_labels (a ∷ b ∷ []) (c ∷ d ∷ []) ≡ both (same_bytes a c) (same_bytes b d)
unfolding same_by
same-two a b c d = ap (both (same_bytes a c)) (both_yes (same_bytes b d))

-- std's comparison of slices is this one
pub same_by-pointwise : {A : Type 0} (test : A → A → Bool) (x y : List A) → pointwise test x y ≡ same_by test x y
unfolding same_by
same_by-pointwise test [] [] = refl
same_by-pointwise test [] (b ∷ y) = refl
same_by-pointwise test (a ∷ x) [] = refl
same_by-pointwise test (a ∷ x) (b ∷ y) = joined (test a b) (same_by-pointwise test x y)
  where
    joined : {p q : Bool} (t : Bool) → p ≡ q → (t && p) ≡ both t q
    joined true e = e
    joined false e = refl
