-- `run_record::RecordNumbers::run_in` meets its contract: the statement, then the labels over an array of zeros.
use Prim.Native.Nat.{◌+◌, ◌≤◌}
use native.Mathlib.Omega.{arith}
use lib.ListN.{length, drop, length-drop}
use Rattle.base.specs.Limits.{held_size}
use Rattle.base.proofs.Parts.{part-rest}
use Rattle.run_record.proofs.HeldCounts.{held_fits}
use Rattle.run_record.proofs.ReadingLaws.{places-filled}
use Rattle.run_record.proofs.RecordNumbers.run_in.Goals as goal

pub put-requires : goal.put-requires
put-requires c =
    let s = c.args.self.now in
    rw (part-rest c.args.bytes.now (s.end + 32))
    (simp length-drop (omega (arith, c.requires.2, held_fits s.depth s.made c.requires.0 c.requires.1)))

pub returns : goal.returns
returns c =
    let s = c.args.self.now in
    let room : length (drop (s.end + 32) c.args.bytes.now) ≤ held_size =
    simp length-drop (omega (arith, c.requires.2, held_fits s.depth s.made c.requires.0 c.requires.1)) in
    places-filled c.args.bytes.now _ _ s.edition s.depth s.memory s.made s.end room c.label_at.ensures c.put.ensures
