-- `opening_check::leaf_label` meets its contract. The invariant: the given labels of the left siblings down to this height are
-- gathered.
use Rattle.opening_check.proofs.OneOpening.{Gathered}
use Rattle.opening_check.proofs.way.leaf_label.Given as goal

abbrev pub invariant-loop-height : goal.invariant-loop-height
invariant-loop-height l =
    Gathered l.tree.depth l.leaf l.bytes l.height l.len l.gathered
