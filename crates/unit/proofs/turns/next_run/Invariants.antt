-- `unit::turns::next_run` meets its contract. The invariant: what is left to look at gives the same run.
use mathlib.Core.Path.{◌≡◌}
use Prim.Native.Nat.{◌-◌, ◌≤◌}
use Rattle.unit.specs.Turns.{first_after}
use Rattle.unit.proofs.FirstLaws.{has_labels}
use Rattle.unit.proofs.turns.next_run.Given as goal

abbrev pub invariant-loop : goal.invariant-loop
invariant-loop l =
    ((1 ≤ l.i) × (l.i ≤ l.count))
    × (first_after (has_labels l.lanes) l.count l.count l.last ≡ first_after (has_labels l.lanes) l.count (l.count - l.counter) l.i)
