-- `opening::checks::may_start` meets its contract: the edition does not exist, or refused as a run's start would be, or left to the leaf and
-- the output.
use mathlib.Core.Path.{sym, ◌∙◌}
use Rattle.base.proofs.RowLaws.{is-done}
use Rattle.run.proofs.RowLaws.{handed-on, start-depth, start-refuses, start-passes}
use Rattle.opening.specs.Rows.{leaf_checks, open_row}
use Rattle.opening.proofs.checks.may_start.Goals as goal

pub returns-then-beyond : goal.returns-then-beyond
unfolding open_row
returns-then-beyond c = rw (sym c.beyond.ensures ∙ c.if-beyond.true)

pub returns-in_err-may_start : goal.returns-in_err-may_start
unfolding open_row
returns-in_err-may_start c =
    let a = c.args in
    let e = start-refuses _ _ _ _ _ (leaf_checks a.depth a.leaf a.out) c.may_start.ensures c.in_err-may_start.was in
    rw (sym c.beyond.ensures ∙ c.if-beyond.false) (handed-on _ _ c.from_residual.ensures.1 ∙ e)

pub leaf_fits-requires : goal.leaf_fits-requires
leaf_fits-requires c = (start-depth _ _ _ (is-done _ _ _ c.may_start.ensures c.in_ok-may_start.was)).1

pub returns : goal.returns
unfolding open_row
returns c =
    let a = c.args in
    rw (sym c.beyond.ensures ∙ c.if-beyond.false)
    (start-passes _ _ _ (leaf_checks a.depth a.leaf a.out) _ (is-done _ _ _ c.may_start.ensures c.in_ok-may_start.was) c.leaf_fits.ensures)
