-- What stands beside an answer in a struct of C: its value, or one that is fixed where it is refused.
use mathlib.Core.Path.{◌≡◌}
use mathlib.Core.Bool.{false}
use Prim.Native.Nat.{ℕ}
use Rattle.std.specs.Prelude.{Result, Ok, Err, IfOk}
use Rattle.std.specs.Result.{result_unwrap_or}
use Rattle.base.specs.declared.refusal.Refusal.{Refusal}
use Rattle.base.specs.Number.{outcome_number}
use Rattle.base.specs.Row.{is_done}
use Rattle.base.proofs.RowLaws.{not_done}

pub value_or : {A : Type 0} (o : Result A Refusal) (row : ℕ) (none : A) (P : A → Type 0) → outcome_number o ≡ row → IfOk o P
    → (is_done row ≡ false → P none) → P (result_unwrap_or o none)
value_or (Ok x) row none P e ok refused = ok
value_or (Err r) row none P e ok refused = refused (not_done r row e)
