use Rattle.std.proofs.Common.{arith, sym, ◌∙◌}
use Rattle.checkpoint.proofs.OpeningsLaws.{all-taken, next-wrong, next-right}
use Rattle.checkpoint.proofs.openings.right_openings.Goals as goal

pub returns-then-not-is_right : goal.returns-then-not-is_right
returns-then-not-is_right c =
    let a = c.args in
    let tree = a.tree.now in
    sym (c.loop-done.invariant ∙ next-wrong tree.edition tree.statement a.root tree.depth a.bytes.now a.count _ (omega arith) (sym c.is_right.ensures ∙ c.if-not-is_right.true))

pub loop-done-preserved : goal.loop-done-preserved
loop-done-preserved c =
    let a = c.args in
    let tree = a.tree.now in
    c.loop-done.invariant ∙ next-right tree.edition tree.statement a.root tree.depth a.bytes.now a.count _ (omega arith) (sym c.is_right.ensures ∙ c.if-not-is_right.false)

pub returns : goal.returns
returns c =
    let a = c.args in
    let tree = a.tree.now in
    omega (arith, c.loop-done.invariant, all-taken tree.edition tree.statement a.root tree.depth a.bytes.now a.count c.loop-done.done (omega arith))
