-- `file_head::writing::write_head` meets its contract: a file that fits has a head that fits.
use mathlib.Core.Path.{sym}
use native.Mathlib.Omega.{arith}
use lib.ListN.{length}
use Rattle.file_head.proofs.RowLaws.{done-head}
use Rattle.file_head.proofs.WritingLaws.{head-fits}
use Rattle.file_head.proofs.writing.write_head.Goals as goal

pub put_head-requires : goal.put_head-requires
put_head-requires c =
    let a = c.args in
    let (exists, depth, count, room) = done-head _ _ _ _ (sym c.in_ok-may_write.ensures) in
    (omega (arith, exists.1), depth.1, count.1, head-fits a.depth a.count (length a.out.now) room)
