-- `sealing::labels::label_on` meets its contract: the invariant: run and store are those after as many steps as are no longer left.
use Rattle.std.proofs.Common.{◌≡◌, ◌-◌, ◌≤◌, length}
use Rattle.run.specs.Steps.{stamped, steps}
use Rattle.run_record_theory.specs.Pausing.{remaining_of}
use Rattle.sealing.proofs.labels.label_on.Given as goal

abbrev pub invariant-loop-left : goal.invariant-loop-left
invariant-loop-left g l =
    (l.left ≤ remaining_of (stamped l.initial.run l.initial.store))
    × (l.run ≡ (steps (remaining_of (stamped l.initial.run l.initial.store) - l.left) (stamped l.initial.run l.initial.store)).run)
    × (l.store ≡ (steps (remaining_of (stamped l.initial.run l.initial.store) - l.left) (stamped l.initial.run l.initial.store)).store)
    × (length l.store ≡ length l.initial.store)

abbrev pub decreases-loop-left : goal.decreases-loop-left
decreases-loop-left g l = l.left
