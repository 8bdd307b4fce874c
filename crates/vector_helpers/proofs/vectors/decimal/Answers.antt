use Rattle.std.proofs.Common.{sym, refl, ◌∙◌}
use Rattle.vector_helpers.proofs.TextLaws.{decimal-more, decimal-all}
use Rattle.vector_helpers.proofs.vectors.decimal.Goals as goal

pub loop-byte-preserved : goal.loop-byte-preserved
loop-byte-preserved c =
    let l = c.loop-byte in
    rw c.from.ensures (l.invariant ∙ decimal-more c.args.text.now l.byte-index l.value _ _ c.loop-byte-test.true refl refl)

pub returns : goal.returns
returns c =
    let l = c.loop-byte in
    sym (l.invariant ∙ decimal-all c.args.text.now l.byte-index l.value c.loop-byte-test.false)
