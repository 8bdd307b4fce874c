-- A row's number: 0 just where no condition of it holds, and a refusal's own number otherwise.
use mathlib.Core.Path.{◌≡◌, refl, sym}
use mathlib.Core.Bool.{Bool, true, false}
use mathlib.Core.List.{List, [], ◌∷◌, ◌++◌}
use Prim.Native.Nat.{ℕ, zero, suc, ◌≤◌}
use native.Mathlib.Omega.{arith}
use lib.Dec.{leb}
use borrow.Author.Tests.{leb-true}
use Rattle.base.specs.Choice.{pick, both}
use Rattle.base.proofs.ChoiceLaws.{both_first, both-second, true-false}
use Rattle.base.specs.declared.refusal.Refusal.{Refusal}
use Rattle.std.specs.Prelude.{Result, Ok, Err}
use Rattle.base.specs.Number.{number_of, outcome_number}
use Rattle.base.specs.Row.{first_of, is_done}
use Rattle.base.proofs.Bounds.{number-some}

-- no condition of a row holds
abbrev pub NoneHolds : List (Bool × ℕ) → Type 0
NoneHolds [] = Unit
NoneHolds (check ∷ row) = (check.0 ≡ false) × NoneHolds row

-- no number of a row is 0, as a test
abbrev pub numbered : List (Bool × ℕ) → Bool
numbered [] = true
numbered (check ∷ row) = both (leb 1 check.1) (numbered row)

-- a row's first condition does not hold where the answer is 0
pub passed : (t : Bool) (number rest : ℕ) → 1 ≤ number → pick t number rest ≡ 0 → (t ≡ false) × (rest ≡ 0)
passed true number rest some e = absurd (omega arith)
passed false number rest some e = (refl, e)

pub none-holds : (row : List (Bool × ℕ)) → numbered row ≡ true → first_of row ≡ 0 → NoneHolds row
none-holds [] n e = tt
none-holds (check ∷ row) n e =
    let some : 1 ≤ check.1 = leb-true 1 check.1 (both_first (leb 1 check.1) (numbered row) n) in
    let here : (check.0 ≡ false) × (first_of row ≡ 0) = passed check.0 check.1 (first_of row) some e in
    (here.0, none-holds row (both-second (leb 1 check.1) (numbered row) n) here.1)

-- a row that goes on with more conditions: refused by the first ones, or left to the others
pub row-refused : (row more : List (Bool × ℕ)) → is_done (first_of row) ≡ false → first_of (row ++ more) ≡ first_of row
row-refused [] more e = cc
row-refused (check ∷ row) more e = first check.0 (row-refused row more) e
  where
    first : (t : Bool) → (is_done (first_of row) ≡ false → first_of (row ++ more) ≡ first_of row)
        → is_done (pick t check.1 (first_of row)) ≡ false
        → pick t check.1 (first_of (row ++ more)) ≡ pick t check.1 (first_of row)
    first true rest e = refl
    first false rest e = rest e

pub row-passed : (row more : List (Bool × ℕ)) → NoneHolds row → first_of (row ++ more) ≡ first_of more
row-passed [] more none = refl
row-passed (check ∷ row) more none = rw none.0 (row-passed row more none.1)

-- a number is not answered if each check that has it fails where it is reached
abbrev pub NeverGives : List (Bool × ℕ) → ℕ → Type 0
NeverGives [] number = Unit
NeverGives (check ∷ row) number = (check.1 ≡ number → check.0 ≡ false) × (check.0 ≡ false → NeverGives row number)

never-by :
    (t : Bool) (here number rest : ℕ) → (here ≡ number → t ≡ false) → (t ≡ false → rest ≡ number → ⊥) → pick t here rest ≡ number → ⊥
never-by true here number rest fails later e = true-false true refl (fails e)
never-by false here number rest fails later e = later refl e

pub never-gives : (row : List (Bool × ℕ)) (number : ℕ) → 1 ≤ number → NeverGives row number → first_of row ≡ number → ⊥
never-gives [] number some never e = omega arith
never-gives (check ∷ row) number some never e =
    never-by check.0 check.1 number (first_of row) never.0 (λ f. never-gives row number some (never.1 f)) e

-- an answer is told by its number
pub is-done : {A : Type 0} (o : Result A Refusal) (row : ℕ) (x : A) → outcome_number o ≡ row → o ≡ Ok x → row ≡ 0
is-done o row x e d = rw d at (sym e)

pub refused-number : {A : Type 0} (o : Result A Refusal) (row : ℕ) (r : Refusal) → outcome_number o ≡ row → o ≡ Err r → number_of r ≡ row
refused-number o row r e d = rw d at e

pub some-refused : (row : ℕ) → 1 ≤ row → is_done row ≡ false
some-refused zero h = absurd (omega arith)
some-refused (suc row) h = refl

pub not_done : (r : Refusal) (row : ℕ) → number_of r ≡ row → is_done row ≡ false
not_done r row e = some-refused row (omega (arith, number-some r))

pub is-refused : {A : Type 0} (o : Result A Refusal) (row : ℕ) (r : Refusal) → outcome_number o ≡ row → o ≡ Err r → is_done row ≡ false
is-refused o row r e d = not_done r row (refused-number o row r e d)
