-- Lists of one size each, by their places.
use mathlib.Core.Path.{◌≡◌}
use Prim.Native.Nat.{ℕ, zero, suc, ◌<◌}
use native.Mathlib.Omega.{arith}
use mathlib.Core.List.{List, [], ◌∷◌}
use lib.ListN.{length, get_or}
use Rattle.base.specs.Lists.{EachOf}

pub each_at : (w : ℕ) (xs : List (List ℕ)) → EachOf w xs → (i : ℕ) → i < length xs → length (get_or xs i []) ≡ w
each_at w [] each i small = absurd (omega arith)
each_at w (x ∷ xs) each zero small = each.0
each_at w (x ∷ xs) each (suc i) small = each_at w xs each.1 i (omega arith)

pub each-by : (w : ℕ) (xs : List (List ℕ)) → ((i : ℕ) → i < length xs → length (get_or xs i []) ≡ w) → EachOf w xs
each-by w [] sizes = tt
each-by w (x ∷ xs) sizes = (sizes 0 (omega arith), each-by w xs (λ i small. sizes (suc i) (omega arith)))
