-- `checkpoint::reading::is_altered` meets its contract: the SHA-256 of what stands before, compared.
use Rattle.checkpoint.proofs.ReadingLaws.{compared}
use Rattle.checkpoint.proofs.reading.is_altered.Goals as goal

pub returns : goal.returns
returns c = rw c.same.ensures (compared c.args.bytes.now _ c.args.end c.digest_of.ensures)
