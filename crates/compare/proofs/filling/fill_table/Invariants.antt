-- `compare::filling::fill_table` meets its contract. The invariant: the rows before i are filled.
use Rattle.compare.specs.Table.{TableOf}
use Rattle.compare.proofs.filling.fill_table.Given as goal

abbrev pub invariant-loop-i : goal.invariant-loop-i
invariant-loop-i l = TableOf l.tree.edition l.tree.statement l.tree.depth l.leaves l.openings l.i l.initial.table l.table
