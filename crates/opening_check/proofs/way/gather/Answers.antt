-- `opening_check::gather` meets its contract: a left sibling is put, a right one passed.
use Rattle.opening_check.proofs.OneOpening.{right-passed}
use Rattle.opening_check.proofs.way.gather.Goals as goal

pub returns-clause-gathered_after : goal.returns-clause-gathered_after
returns-clause-gathered_after c =
    let a = c.args in
    right-passed a.gathered.now a.bytes.now a.len a.leaf a.height c.if-leaf-height-eq1.false
