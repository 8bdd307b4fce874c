-- `proof_file::check_openings` meets its contract. The invariant: what is left from opening i on gives the answer.
use mathlib.Core.Path.{◌≡◌}
use Prim.Native.Nat.{◌+◌, ◌-◌}
use Rattle.proof_file.specs.FileCheck.{openings_from}
use Rattle.proof_file.proofs.file.check_openings.Given as goal

abbrev pub invariant-loop-i : goal.invariant-loop-i
invariant-loop-i l =
    openings_from l.head.edition l.bytes l.head.depth l.head.end 1 l.head.count
    ≡ openings_from l.head.edition l.bytes l.head.depth l.head.end l.i (l.head.count + 1 - l.i)
