-- `compare::filling::fill_table` meets its contract.
use mathlib.Core.Path.{◌∙◌}
use Prim.Native.Nat.{◌*◌}
use Rattle.base.proofs.Parts.{lent_back}
use Rattle.compare.specs.Table.{row_size}
use Rattle.compare.proofs.FillingLaws.{table_more}
use borrow.Author.Rules.{rules}
use native.Mathlib.Omega.{arith}
use Rattle.compare.proofs.filling.fill_table.Goals as goal

pub loop-i-preserved : goal.loop-i-preserved
loop-i-preserved c =
    let t = c.args.tree.now in
    let l = c.loop-i in
    let row = c.fill_row in
    table_more t.edition t.statement t.depth c.args.leaves.now c.args.openings.now c.args.table.now l.table row.new.row _ l.i
    (omega (arith, c.requires.0.few)) (l.auto.table ∙ c.requires.1) (search rules) l.invariant
    row.ensures (lent_back l.table row.new.row (row_size * l.i) row_size (search rules))
