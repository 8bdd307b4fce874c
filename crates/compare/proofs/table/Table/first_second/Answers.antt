-- `compare::table::Table::first_second` meets its contract.
use mathlib.Core.Path.{sym, ◌∙◌}
use lib.ListN.{length}
use Rattle.compare.specs.Table.{table_disagreement}
use Rattle.compare.proofs.FirstPairLaws.{second-found, seconds-ended}
use native.Mathlib.Omega.{arith}
use Rattle.compare.proofs.table.Table.first_second.Goals as goal

pub returns-in-Some : goal.returns-in-Some
returns-in-Some c =
    let t = c.args.self.now in
    sym (c.loop-j.invariant ∙ second-found (table_disagreement t.depth t.leaves.now t.cells.now) t.depth c.args.i (length t.leaves.now) c.loop-j.j _
    (omega arith) (sym c.in-Some.ensures))

pub loop-j-preserved : goal.loop-j-preserved
loop-j-preserved c =
    let t = c.args.self.now in
    c.loop-j.invariant ∙ second-found (table_disagreement t.depth t.leaves.now t.cells.now) t.depth c.args.i (length t.leaves.now) c.loop-j.j _
    (omega arith) (sym c.first_level.ensures ∙ c.in_default.is)

pub returns : goal.returns
returns c =
    let t = c.args.self.now in
    sym (c.loop-j.invariant ∙ seconds-ended (table_disagreement t.depth t.leaves.now t.cells.now) t.depth c.args.i (length t.leaves.now) c.loop-j.j (omega arith))
