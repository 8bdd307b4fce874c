-- `compare::table::Table::first_level` meets its contract. The invariant: the levels from this one on give the answer.
use mathlib.Core.Path.{◌≡◌}
use Prim.Native.Nat.{◌-◌}
use Rattle.compare.specs.FirstPair.{levels_from}
use Rattle.compare.specs.Table.{table_disagreement}
use Rattle.compare.proofs.table.Table.first_level.Given as goal

abbrev pub invariant-loop-level : goal.invariant-loop-level
invariant-loop-level l =
    let disagree = table_disagreement l.self.depth l.self.leaves.now l.self.cells.now in
    levels_from disagree l.i l.j 0 l.self.depth ≡ levels_from disagree l.i l.j l.level (l.self.depth - l.level)
