-- `opening::Opening::label_many` meets its contract. The invariant: as many steps as the loop has made turns led here.
use Rattle.opening.specs.Names.{open_of}
use Rattle.opening.proofs.StepLaws.{Led}
use Rattle.opening.proofs.Opening.label_many.Given as goal

abbrev pub invariant-loop : goal.invariant-loop
invariant-loop l = Led l.store (open_of l.initial.self l.initial.out) l.counter l.self l.out l.blocks
