-- `record_vectors::taken_up::lay` meets its contract. The invariant: each group so far has its byte.
use Rattle.std.proofs.Common.{◌≡◌, ◌+◌, length}
use Rattle.record_vectors.proofs.taken_up.lay.Given as goal

abbrev pub invariant-loop-group : goal.invariant-loop-group
invariant-loop-group l = length l.bytes.items ≡ length l.initial.bytes.items + l._group
