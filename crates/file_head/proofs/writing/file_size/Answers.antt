-- `file_head::file_size` meets its contract: the count takes one byte or two.
use Rattle.file_head.proofs.WritingLaws.{size-three, size-four}
use Rattle.file_head.proofs.writing.file_size.Goals as goal
use Rattle.file_head.proofs.writing.file_size.Goals.{then-t-lt128, else-t-lt128}

pub returns : goal.returns
returns c = elim c.if-t-lt128.branch [
  | then-t-lt128 w ↦ rw w.numbers-is (size-three c.args.n c.args.t c.requires.0 w.if-t-lt128.true)
  | else-t-lt128 w ↦ rw w.numbers-is (size-four c.args.n c.args.t c.requires.0 w.if-t-lt128.false c.requires.1)
]
