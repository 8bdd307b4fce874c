-- `vector_helpers::carried::run_to_end` meets its contract. The invariant: the calls left give the same run and store.
use Rattle.std.proofs.Common.{◌≡◌, ◌-◌, replicate}
use Rattle.run.specs.Steps.{stamped, advanced}
use Rattle.machine.specs.Calls.{after_calls}
use Rattle.vector_helpers.proofs.carried.run_to_end.Given as goal

abbrev pub invariant-loop-call : goal.invariant-loop-call
invariant-loop-call l =
    after_calls advanced (stamped l.run l.store) (replicate (l.calls - l._call) l.budget)
    ≡ after_calls advanced (stamped l.initial.run l.initial.store) (replicate l.calls l.budget)
