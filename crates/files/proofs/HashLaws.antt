-- A portion that is refused leaves the hash as it was.
use mathlib.Core.Path.{◌≡◌, refl}
use mathlib.Core.Bool.{Bool, true, false}
use mathlib.Core.List.{[], ◌∷◌}
use Prim.Native.Nat.{ℕ, ◌≤◌}
use native.Mathlib.Omega.{arith}
use Rattle.base.specs.Choice.{pick}
use Rattle.base.specs.Row.{first_of}

pub stays : {A : Type 0} (t : Bool) (number check : ℕ) (x y : A) → 1 ≤ number → number ≡ first_of ((t, check) ∷ []) → pick t x y ≡ x
stays true number check x y h e = refl
stays false number check x y h e = absurd (omega arith)
