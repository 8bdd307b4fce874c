-- `compare::table::Table::cell` meets its contract.
use mathlib.Core.Path.{ap, ◌∙◌}
use lib.ListN.{length}
use native.Mathlib.Omega.{arith}
use Rattle.base.proofs.Parts.{part-size, part_length}
use Prim.Native.Nat.{◌+◌, ◌-◌, ◌*◌}
use Rattle.compare.specs.Table.{cell, row_size}
use Rattle.compare.proofs.table.Table.cell.Goals as goal

pub returns : goal.returns
unfolding cell
returns c =
    let t = c.args.self.now in
    let e = part-size t.cells.now (row_size * (c.args.i - 1) + 64 * (t.depth - (c.args.level + 1))) 64 in
    record { value = e; size = ap length e ∙ part_length t.cells.now (row_size * (c.args.i - 1) + 64 * (t.depth - (c.args.level + 1))) 64 (omega arith) }
