-- `opening_check::climb` meets its contract. The invariant: the label is the computed one of this height.
use mathlib.Core.Path.{◌≡◌}
use lib.ListN.{length}
use Rattle.labelling.specs.Rule.{stamp_rule}
use Rattle.tree.specs.Openings.{computed}
use Rattle.opening_check.specs.OpeningCheck.{given_by}
use Rattle.opening_check.proofs.way.climb.Given as goal

abbrev pub invariant-loop-height : goal.invariant-loop-height
invariant-loop-height l =
    (length l.label ≡ 32)
    × (l.label ≡ computed (stamp_rule l.tree.edition l.tree.depth l.tree.statement) l.tree.depth l.leaf (given_by l.bytes) l.height)
