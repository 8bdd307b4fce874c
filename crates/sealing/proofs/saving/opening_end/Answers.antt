-- `sealing::saving::opening_end` meets its contract: the openings behind are no more than all of them.
use Prim.Native.Nat.{ℕ, ◌-◌, ◌*◌, ◌≤◌}
use native.Mathlib.Nat.{mul-le-mul_right}
use native.Mathlib.Omega.{arith}
use Rattle.tree.specs.Openings.{opening_size}
use Rattle.file_head.specs.Layout.{file_size}
use Rattle.sealing.proofs.saving.opening_end.Goals as goal

behind-inside : (n t i : ℕ) → (t - i) * opening_size n ≤ file_size n t
unfolding file_size
behind-inside n t i = omega (arith, mul-le-mul_right {m = t - i} {n = t} (opening_size n) (omega arith))

pub overflow_sub-result-2 : goal.overflow_sub-result-2
overflow_sub-result-2 c = let a = c.args in omega (arith, behind-inside a.depth a.count a.i, c.file_size.ensures)
