-- How often a name is in a list, and the last of its names.
use mathlib.Core.Path.{◌≡◌, refl, ◌∙◌}
use mathlib.Core.List.{List, [], ◌∷◌, ◌++◌}
use Prim.Native.Nat.{ℕ, zero, suc, ◌+◌, ◌≤◌, ◌<◌}
use native.Mathlib.Omega.{arith}
use lib.Dec.{eqb}
use lib.ListN.{length, get_or, take}
use borrow.Author.Tests.{eq-eqb, ne_eqb}
use Rattle.base.specs.Choice.{pick}
use Rattle.unit_theory.specs.Served.{times, last_named}

pub times_none : (i : ℕ) → times i [] ≡ 0
unfolding times
times_none i = refl

pub times-append : (i : ℕ) (names more : List ℕ) → times i (names ++ more) ≡ times i names + times i more
unfolding times
times-append i [] more = omega arith
times-append i (name ∷ names) more = omega (arith, times-append i names more)

-- one name more at the end
pub times-same : (i : ℕ) (names : List ℕ) (name : ℕ) → name ≡ i → times i (names ++ name ∷ []) ≡ times i names + 1
unfolding times
times-same i names name e =
    times-append i names (name ∷ []) ∙ rw (eq-eqb name i e) refl

pub times-other : (i : ℕ) (names : List ℕ) (name : ℕ) → (name ≡ i → ⊥) → times i (names ++ name ∷ []) ≡ times i names
unfolding times
times-other i names name other =
    times-append i names (name ∷ []) ∙ rw (ne_eqb name i other) (omega arith)

pub times-one : (i x : ℕ) → times i (x ∷ []) ≡ pick (eqb x i) 1 0
unfolding times
times-one i x = omega arith

-- a name that stands among the first n of a list
pub times-some : (n : ℕ) (xs : List ℕ) (j i : ℕ) → j < n → j < length xs → get_or xs j 0 ≡ i → 1 ≤ times i (take n xs)
unfolding times
times-some n [] j i near few e = absurd (omega arith)
times-some zero (x ∷ xs) j i near few e = absurd (omega arith)
times-some (suc n) (x ∷ xs) zero i near few e = rw (eq-eqb x i e) (omega arith)
times-some (suc n) (x ∷ xs) (suc j) i near few e = omega (arith, times-some n xs j i (omega arith) (omega arith) e)

pub last_none : (before : ℕ) → last_named before [] ≡ before
unfolding last_named
last_none before = refl

pub last_one : (before : ℕ) (names : List ℕ) (name : ℕ) → last_named before (names ++ name ∷ []) ≡ name
unfolding last_named
last_one before [] name = refl
last_one before (first ∷ names) name = last_one first names name
