-- `vector_helpers::filled::challenged` meets its contract. The invariant: the first i leaves are those of challenges 1 to i. The measure is what is left.
use Rattle.std.proofs.Common.{◌≡◌, ◌-◌, ◌≤◌, length, take}
use Rattle.base.specs.Limits.{max_challenges}
use Rattle.vector_helpers.specs.Whole.{leaves_to}
use Rattle.vector_helpers.proofs.filled.challenged.Given as goal

abbrev pub invariant-loop-i : goal.invariant-loop-i
invariant-loop-i l =
    (l.i ≤ max_challenges) × (length l.leaves ≡ max_challenges) × (take l.i l.leaves ≡ leaves_to l.edition l.depth l.statement l.root l.i)

abbrev pub decreases-loop-i : goal.decreases-loop-i
decreases-loop-i l = max_challenges - l.i
