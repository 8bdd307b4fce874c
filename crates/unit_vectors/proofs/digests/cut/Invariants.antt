-- A portion has a byte at least, so each turn leaves fewer.
use Rattle.std.proofs.Common.{◌≤◌, length}
use Rattle.unit_vectors.proofs.digests.cut.Given as goal

abbrev pub invariant-loop-rest : goal.invariant-loop-rest
invariant-loop-rest l = 1 ≤ l.width

abbrev pub decreases-loop-rest : goal.decreases-loop-rest
decreases-loop-rest l = length l.rest
