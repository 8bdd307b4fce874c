-- `checkpoint::reading::is_unmarked` meets its contract: shorter than a head, or the mark compared.
use Rattle.std.proofs.Common.{arith}
use borrow.Author.Tests.{le-ltb}
use lib.ListN.{length}
use lib.Seq.{length-take-le}
use Rattle.checkpoint.specs.Layout.{head_size}
use Rattle.checkpoint.proofs.reading.is_unmarked.Goals as goal

pub same-requires : goal.same-requires
same-requires c = length-take-le 15 c.args.bytes.now (omega arith)

pub returns-else-bytes-lt-HEAD_SIZE : goal.returns-else-bytes-lt-HEAD_SIZE
returns-else-bytes-lt-HEAD_SIZE c = rw (le-ltb (length c.args.bytes.now) head_size c.if-bytes-lt-HEAD_SIZE.false, c.same.ensures)
