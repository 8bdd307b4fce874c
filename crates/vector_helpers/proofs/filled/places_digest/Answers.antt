use Rattle.std.proofs.Common.{sym, ap, ◌∙◌}
use Rattle.sha256.specs.Portions.{finish_digest}
use Rattle.vector_helpers.proofs.WholeLaws.{hashed-more, hashed-all}
use Rattle.vector_helpers.proofs.filled.places_digest.Goals as goal

pub loop-place-init : goal.loop-place-init
loop-place-init c = rw c.new-state.ensures

pub loop-place-preserved : goal.loop-place-preserved
loop-place-preserved c =
    let l = c.loop-place in
    l.invariant ∙ hashed-more c.args.list.now l.place-index l.state _ _
    c.loop-place-test.true c.big_endian.ensures c.update.ensures.state_after

pub returns : goal.returns
returns c =
    let l = c.loop-place in
    let all = l.invariant ∙ hashed-all c.args.list.now l.place-index l.state c.loop-place-test.false in
    c.digest_of.ensures ∙ ap finish_digest (sym all)
