-- `compare::table::Table::first_pair` meets its contract. The invariant: the openings from i on give the answer.
use mathlib.Core.Path.{◌≡◌}
use Prim.Native.Nat.{◌+◌, ◌-◌}
use lib.ListN.{length}
use Rattle.compare.specs.FirstPair.{first_pair, firsts_from}
use Rattle.compare.specs.Table.{table_disagreement}
use Rattle.compare.proofs.table.Table.first_pair.Given as goal

abbrev pub invariant-loop-i : goal.invariant-loop-i
invariant-loop-i l =
    let disagree = table_disagreement l.self.depth l.self.leaves.now l.self.cells.now in
    first_pair disagree l.self.depth (length l.self.leaves.now) ≡ firsts_from disagree l.self.depth l.i (length l.self.leaves.now + 1 - l.i)
