-- `chain::climbing::write_plan` meets its contract. The invariants: writing what is left of the climb and of the leaves from i on
-- gives the whole plan written.
use Rattle.chain_theory.specs.Planning.{climb, plan_from}
use Rattle.chain.proofs.Writing.{Writing}
use lib.ListN.{drop}
use Prim.Native.Nat.{◌+◌}
use mathlib.Core.List.{◌++◌}
use Rattle.chain.proofs.climbing.write_plan.Given as goal

abbrev pub invariant-loop-i : goal.invariant-loop-i
invariant-loop-i l = Writing l.fn.list l.list l.at (plan_from l.depth (drop l.i l.leaves)) (plan_from l.depth l.leaves)

abbrev pub invariant-loop-code : goal.invariant-loop-code
invariant-loop-code l =
    let way = l.code-iterator in
    Writing l.fn.list l.list l.at (climb way.left way.from way.other ++ plan_from l.depth (drop (l.i + 1) l.leaves)) (plan_from l.depth l.leaves)
