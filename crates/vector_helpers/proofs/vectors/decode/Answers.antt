use Rattle.std.proofs.Common.{arith}
use Rattle.vector_helpers.proofs.TextLaws.{spelled_none, spelled-more}
use Rattle.vector_helpers.proofs.vectors.decode.Goals as goal

pub loop-i-init : goal.loop-i-init
loop-i-init c = spelled_none c.args.text.now c.args.out.now

pub loop-i-preserved : goal.loop-i-preserved
loop-i-preserved c =
    let l = c.loop-i in
    let a = c.args in
    spelled-more a.text.now a.out.now l.out l.i _ _ (omega arith) l.invariant
    c.digit.ensures.value c.digit-in-loop-i.ensures.value
