-- `unit::StampingUnit::label_turns` meets its contract. The invariant: as many turns as the loop has made led to this state and cost these
-- blocks, and the lanes are those of its runs.
use mathlib.Core.Path.{◌≡◌}
use Prim.Native.Nat.{◌*◌, ◌≤◌}
use lib.ListN.{length}
use Rattle.labelling.specs.Blocks.{most_blocks}
use Rattle.unit.specs.Plans.{Planned}
use Rattle.unit.specs.Turns.{carried, turns, blocks_over}
use Rattle.unit.proofs.StampingUnit.label_turns.Given as goal

abbrev pub invariant-loop : goal.invariant-loop
invariant-loop l =
    (turns l.counter (carried l.initial.self l.initial.store) ≡ carried l.self l.store)
    × Planned l.self.runs l.self.count l.lanes
    × (length l.store ≡ length l.initial.store)
    × (l.blocks ≡ blocks_over l.counter (carried l.initial.self l.initial.store))
    × (l.blocks ≤ most_blocks * l.counter)
