-- How many labels there are at most.
use mathlib.Core.Path.{◌≡◌}
use Prim.Native.Nat.{ℕ, ◌+◌, ◌-◌, ◌*◌, ◌^◌, ◌≤◌}
use native.Mathlib.Nat.{mul-le-mul}
use native.Mathlib.Omega.{arith}
use Rattle.base.specs.Limits.{max_depth, max_challenges}
use Rattle.run.proofs.StepLaws.{small-nodes}
use Rattle.opening.specs.Rows.{nodes_anew}
use Rattle.run_theory.proofs.Anew.{anew-count}

pub small-anew : (n m t x : ℕ) → n ≤ max_depth → t ≤ max_challenges → x ≡ nodes_anew n m → t * x ≤ max_challenges * 2 ^ (max_depth + 2)
small-anew n m t x h k e =
    let few : x ≤ 2 ^ (max_depth + 2) = omega (arith, anew-count n m, small-nodes (n - m) (omega arith)) in
    mul-le-mul k few
