-- `compare::filling::fill_row` meets its contract. The invariant: the child's label is the computed one, and the cells below are
-- filled.
use mathlib.Core.Path.{◌≡◌}
use lib.ListN.{length}
use Rattle.labelling.specs.Rule.{stamp_rule}
use Rattle.tree.specs.Openings.{computed}
use Rattle.opening_check.specs.OpeningCheck.{given_by}
use Rattle.compare.specs.Table.{RowOf}
use Rattle.compare.proofs.filling.fill_row.Given as goal

abbrev pub invariant-loop-height : goal.invariant-loop-height
invariant-loop-height l =
    let r = stamp_rule l.tree.edition l.tree.depth l.tree.statement in
    (length l.label ≡ 32)
    × (l.label ≡ computed r l.tree.depth l.leaf (given_by l.bytes) l.height)
    × RowOf r l.tree.depth l.leaf (given_by l.bytes) l.height l.initial.row l.row
