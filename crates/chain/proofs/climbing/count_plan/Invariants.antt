-- `chain::climbing::count_plan` meets its contract. The invariant: what is counted and what the leaves from i on write are the whole plan.
use Rattle.base.specs.Limits.{max_depth}
use Rattle.chain_theory.specs.Planning.{plan_from}
use lib.ListN.{length, drop}
use Prim.Native.Nat.{◌+◌, ◌*◌, ◌≤◌}
use mathlib.Core.Path.{◌≡◌}
use Rattle.chain.proofs.climbing.count_plan.Given as goal

abbrev pub invariant-loop-i : goal.invariant-loop-i
invariant-loop-i l = (l.count + length (plan_from l.depth (drop l.i l.leaves)) ≡ length (plan_from l.depth l.leaves)) × (l.count ≤ (max_depth + 1) * l.i)
