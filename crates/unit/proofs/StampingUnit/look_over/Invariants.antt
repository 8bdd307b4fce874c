-- `unit::StampingUnit::look_over` meets its contract. The invariant: the runs before run i may be continued, and what is known of them.
use Rattle.unit.proofs.PlanLaws.{LookedOver}
use Rattle.unit.proofs.StampingUnit.look_over.Given as goal

abbrev pub invariant-loop-i : goal.invariant-loop-i
invariant-loop-i l = LookedOver l.self.runs l.end l.store l.lanes l.all l.at l.i
