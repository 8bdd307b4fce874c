-- `run::Run::label_many` meets its contract. The invariant: as many steps as the loop has made turns led here.
use Rattle.run.specs.Steps.{stamped}
use Rattle.run.proofs.StepLaws.{Led}
use Rattle.run.proofs.Run.label_many.Given as goal

abbrev pub invariant-loop : goal.invariant-loop
invariant-loop l = Led (stamped l.initial.self l.initial.store) l.counter l.self l.store l.blocks
