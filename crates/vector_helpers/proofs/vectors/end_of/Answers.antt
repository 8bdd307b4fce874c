use Rattle.std.proofs.Common.{sym, refl, ◌∙◌, arith}
use Rattle.vector_helpers.proofs.TextLaws.{mark-here, mark-later, mark-nowhere}
use Rattle.vector_helpers.proofs.vectors.end_of.Goals as goal

pub loop-end-init : goal.loop-end-init
loop-end-init c = (omega arith, omega arith, refl)

pub returns-then-text-end : goal.returns-then-text-end
returns-then-text-end c =
    let l = c.loop-end in
    let a = c.args in
    (sym (l.invariant.2 ∙ mark-here a.text.now l.end a.mark c.loop-end-test.true c.if-text-end.true), omega arith, omega arith)

pub loop-end-preserved : goal.loop-end-preserved
loop-end-preserved c =
    let l = c.loop-end in
    let a = c.args in
    (omega arith, omega arith, l.invariant.2 ∙ mark-later a.text.now l.end a.mark c.loop-end-test.true c.if-text-end.false)

pub returns : goal.returns
returns c =
    let l = c.loop-end in
    let a = c.args in
    (sym (l.invariant.2 ∙ mark-nowhere a.text.now l.end a.mark c.loop-end-test.false), omega arith, omega arith)
