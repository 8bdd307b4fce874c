-- `compare::table::Table::first_level` meets its contract.
use mathlib.Core.Path.{sym, ◌∙◌}
use Rattle.compare.specs.Table.{table_disagreement}
use Rattle.compare.proofs.FirstPairLaws.{levels-ended}
use Rattle.compare.proofs.Turns.{turn-unshared, turn-differs, turn-same}
use native.Mathlib.Omega.{arith}
use Rattle.compare.proofs.table.Table.first_level.Goals as goal

pub returns-then-not-shares : goal.returns-then-not-shares
returns-then-not-shares c =
    let t = c.args.self.now in
    sym
    (c.loop-level.invariant ∙ turn-unshared t.depth t.leaves.now t.cells.now c.args.i c.args.j c.loop-level.level
    c.loop-level-test.true _ c.shares.ensures c.if-not-shares.true)

pub returns-then-ne : goal.returns-then-ne
returns-then-ne c =
    let t = c.args.self.now in
    sym
    (c.loop-level.invariant ∙ turn-differs t.depth t.leaves.now t.cells.now c.args.i c.args.j c.loop-level.level c.loop-level-test.true _
    c.shares.ensures c.if-not-shares.false _ _ c.cell.ensures.value c.cell-in-loop-level.ensures.value c.ne.result c.ne.ensures c.if-ne.true)

pub loop-level-preserved : goal.loop-level-preserved
loop-level-preserved c =
    let t = c.args.self.now in
    c.loop-level.invariant ∙ turn-same t.depth t.leaves.now t.cells.now c.args.i c.args.j c.loop-level.level c.loop-level-test.true _
    c.shares.ensures c.if-not-shares.false _ _ c.cell.ensures.value c.cell-in-loop-level.ensures.value c.ne.result c.ne.ensures c.if-ne.false

pub returns : goal.returns
returns c =
    let t = c.args.self.now in
    sym (c.loop-level.invariant ∙ levels-ended (table_disagreement t.depth t.leaves.now t.cells.now) c.args.i c.args.j t.depth c.loop-level.level (omega arith))
