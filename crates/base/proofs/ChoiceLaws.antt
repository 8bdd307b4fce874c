-- Tests joined, choices, and odd positions.
use mathlib.Core.Path.{◌≡◌, refl}
use Prim.Native.Nat.{ℕ, ◌%◌, ◌<◌, ◌≤◌}
use native.Mathlib.Omega.{arith}
use mathlib.Core.Bool.{Bool, true, false}
use mathlib.Core.Logic.{◌⊎◌, inl, inr}
use lib.Dec.{ltb}
use borrow.Author.Tests.{eqb-true, eqb-false, eq-eqb, ne_eqb, ltb-true, ltb-false}
use Rattle.base.specs.Choice.{pick, both, odd}

pub both_first : (a b : Bool) → both a b ≡ true → a ≡ true
both_first true b e = refl
both_first false b e = e

pub both-second : (a b : Bool) → both a b ≡ true → b ≡ true
both-second true b e = e
both-second false true e = refl
both-second false false e = e

pub both_true : (a b : Bool) → a ≡ true → b ≡ true → both a b ≡ true
both_true a b p q = rw p q

pub both_yes : (a : Bool) → both a true ≡ a
both_yes true = refl
both_yes false = refl

pub both_false : (a : Bool) → both a false ≡ false
both_false true = refl
both_false false = refl

-- a test has one value
pub true-false : (t : Bool) → t ≡ true → t ≡ false → ⊥
true-false t p q =
    let e : ◌≡◌ {A = ℕ} 0 1 = cc in
    omega arith

pub not_so : (t : Bool) → (t ≡ true → ⊥) → t ≡ false
not_so true d = absurd (d refl)
not_so false d = refl

-- one of two tests of order holds
pub lt-or-le : (x bound : ℕ) → (x < bound) ⊎ (bound ≤ x)
lt-or-le x bound = cases (ltb x bound) refl
  where
    cases : (t : Bool) → ltb x bound ≡ t → (x < bound) ⊎ (bound ≤ x)
    cases true e = inl (ltb-true x bound e)
    cases false e = inr (ltb-false x bound e)

-- a choice that gives another value than its first is its second
pub second-picked {ℓ} : {A : Type ℓ} (b : Bool) (x y z : A) → (x ≡ z → ⊥) → pick b x y ≡ z → (b ≡ false) × (y ≡ z)
second-picked true x y z d e = absurd (d e)
second-picked false x y z d e = (refl, e)

pub odd-true : (p : ℕ) → odd p ≡ true → p % 2 ≡ 1
odd-true p e = eqb-true (p % 2) 1 e

pub odd-false : (p : ℕ) → odd p ≡ false → p % 2 ≡ 0
odd-false p e =
    let d : p % 2 ≡ 1 → ⊥ = eqb-false (p % 2) 1 e in
    omega arith

pub is_odd : (p : ℕ) → p % 2 ≡ 1 → odd p ≡ true
is_odd p e = eq-eqb (p % 2) 1 e

pub is-even : (p : ℕ) → p % 2 ≡ 0 → odd p ≡ false
is-even p e = ne_eqb (p % 2) 1 (omega arith)
