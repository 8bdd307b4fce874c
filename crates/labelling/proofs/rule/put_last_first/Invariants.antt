-- `labelling::rule::put_last_first` meets its contract. The invariant: the labels behind those that the iterator has left are written.
use mathlib.Core.Path.{◌≡◌}
use Rattle.std.specs.Slice.Iter.{rchunks_rest, rchunks_size}
use Rattle.labelling.proofs.LastFirst.{LastWritten}
use Rattle.labelling.proofs.rule.put_last_first.Given as goal

abbrev pub invariant-loop-label : goal.invariant-loop-label
invariant-loop-label l =
    (rchunks_size l.label-iterator ≡ 32)
    × LastWritten l.initial.dst l.dst l.src (rchunks_rest l.label-iterator) l.at l.to
