-- `checkpoint::writing::order_head` meets its contract.
use Rattle.checkpoint.proofs.WritingLaws.{head-laid}
use Rattle.checkpoint.proofs.writing.order_head.Goals as goal

pub returns : goal.returns
returns c =
    let a = c.args in
    head-laid _ a.depth a.memory a.count a.size c.put.ensures
