-- `vector_helpers::carried::open_to_end` meets its contract. The invariant: the calls left give the same opening, output and number of labels.
use Rattle.std.proofs.Common.{◌≡◌, ◌+◌, ◌-◌, ◌%◌, ◌^◌, ◌<◌, replicate}
use Rattle.opening.specs.Steps as opens
use Rattle.opening.specs.Names.{open_of}
use Rattle.machine.specs.Calls.{after_calls, labels_over}
use Rattle.vector_helpers.proofs.carried.open_to_end.Given as goal

abbrev pub invariant-loop-call : goal.invariant-loop-call
invariant-loop-call l =
    (l.labels < 2 ^ 64)
    ×
    (after_calls (opens.advanced l.store) (open_of l.opening l.out) (replicate (l.calls - l._call) l.budget)
    ≡ after_calls (opens.advanced l.store) (open_of l.initial.opening l.initial.out) (replicate l.calls l.budget))
    ×
    ((l.labels + labels_over (opens.advanced l.store) (opens.labels_in l.store) (open_of l.opening l.out) (replicate (l.calls - l._call) l.budget)) % 2 ^ 64
    ≡ labels_over (opens.advanced l.store) (opens.labels_in l.store) (open_of l.initial.opening l.initial.out) (replicate l.calls l.budget) % 2 ^ 64)
