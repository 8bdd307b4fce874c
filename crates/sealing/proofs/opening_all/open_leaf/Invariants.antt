-- `sealing::opening_all::open_leaf` meets its contract: the invariant: opening and part are those after as many steps as are no longer left.
use Rattle.std.proofs.Common.{◌≡◌, ◌-◌, ◌≤◌, length}
use Rattle.opening.specs.Names.{open_of}
use Rattle.opening.specs.Rows.{nodes_anew}
use Rattle.opening.specs.Steps.{steps}
use Rattle.sealing.proofs.opening_all.open_leaf.Given as goal

abbrev pub invariant-loop-left : goal.invariant-loop-left
invariant-loop-left g l =
    (l.left ≤ nodes_anew l.run.depth l.run.memory)
    × (l.opening ≡ (steps l.store (nodes_anew l.run.depth l.run.memory - l.left) (open_of l.initial.opening l.initial.part)).opening)
    × (l.part ≡ (steps l.store (nodes_anew l.run.depth l.run.memory - l.left) (open_of l.initial.opening l.initial.part)).out)
    × (length l.part ≡ length l.initial.part)

abbrev pub decreases-loop-left : goal.decreases-loop-left
decreases-loop-left g l = l.left
