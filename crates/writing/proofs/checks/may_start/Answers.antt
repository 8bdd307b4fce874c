-- `writing::checks::may_start` meets its contract: the edition does not exist, or refused as a run's start would be, or left to the head's
-- row, whose edition and depth are known by then.
use mathlib.Core.Path.{◌≡◌, sym, ◌∙◌}
use mathlib.Core.Bool.{false}
use Prim.Native.Nat.{ℕ}
use Rattle.base.specs.Limits.{max_depth, IsDepth}
use Rattle.base.specs.Row.{first_of, no_edition}
use Rattle.base.proofs.Ranges.{within}
use Rattle.base.proofs.RowLaws.{is-done}
use Rattle.run.proofs.RowLaws.{handed-on, start-depth, start-refuses, start-passes}
use Rattle.file_head.specs.Layout.{head_row}
use Rattle.writing.specs.Rows.{file_checks, write_row}
use Rattle.writing.proofs.checks.may_start.Goals as goal

pub returns-then-beyond : goal.returns-then-beyond
unfolding write_row
returns-then-beyond c = rw (sym c.beyond.ensures ∙ c.if-beyond.true)

pub returns-in_err-may_start : goal.returns-in_err-may_start
unfolding write_row
returns-in_err-may_start c =
    let a = c.args in
    let e = start-refuses _ _ _ _ _ (file_checks a.tree.now.depth a.count a.file) c.may_start.ensures c.in_err-may_start.was in
    rw (sym c.beyond.ensures ∙ c.if-beyond.false) (handed-on _ _ c.from_residual.ensures.1 ∙ e)

head-rest : (edition n t file : ℕ) → no_edition edition ≡ false → IsDepth n → head_row edition n t file ≡ first_of (file_checks n t file)
unfolding head_row
head-rest edition n t file there depth = rw (there, within 1 max_depth n depth)

pub returns : goal.returns
unfolding write_row
returns c =
    let a = c.args in
    let exists = sym c.beyond.ensures ∙ c.if-beyond.false in
    let row = is-done _ _ _ c.may_start.ensures c.in_ok-may_start.was in
    rw exists
    (start-passes _ _ _ (file_checks a.tree.now.depth a.count a.file) _ row
    (c.may_write.ensures ∙ head-rest a.tree.now.edition a.tree.now.depth a.count a.file exists (start-depth _ _ _ row)))
