-- `compare::table::Table::first_second` meets its contract. The invariant: the openings from j on give the answer.
use mathlib.Core.Path.{◌≡◌}
use Prim.Native.Nat.{◌+◌, ◌-◌}
use lib.ListN.{length}
use Rattle.compare.specs.FirstPair.{seconds_from}
use Rattle.compare.specs.Table.{table_disagreement}
use Rattle.compare.proofs.table.Table.first_second.Given as goal

abbrev pub invariant-loop-j : goal.invariant-loop-j
invariant-loop-j l =
    let disagree = table_disagreement l.self.depth l.self.leaves.now l.self.cells.now in
    seconds_from disagree l.self.depth l.i (l.i + 1) (length l.self.leaves.now - l.i)
    ≡ seconds_from disagree l.self.depth l.i l.j (length l.self.leaves.now + 1 - l.j)
