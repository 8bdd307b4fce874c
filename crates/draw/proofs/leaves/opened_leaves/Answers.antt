-- `draw::leaves::opened_leaves` meets its contract.
use mathlib.Core.Path.{◌∙◌}
use native.Mathlib.Omega.{arith}
use Rattle.draw.specs.Drawing.{leaves_of, proof_edition}
use Rattle.draw.proofs.LeavesOpened.{leaves-more, leaves_all}
use Rattle.draw.proofs.leaves.opened_leaves.Goals as goal

pub loop-i-preserved : goal.loop-i-preserved
loop-i-preserved c =
    let h = c.args.head.now in
    leaves-more h.edition h.depth c.args.statement c.label_at-root.result h.count c.loop-i.room c.loop-i.i c.challenge_leaf.result
    (omega arith) (omega (arith, c.loop-i.auto.room, c.requires.fits)) c.challenge_leaf.ensures c.loop-i.invariant

pub returns : goal.returns
unfolding leaves_of proof_edition
returns c =
    let h = c.args.head.now in
    leaves_all h.edition h.depth c.args.statement c.label_at-root.result h.count c.loop-i.room c.loop-i.i (omega arith) c.loop-i.invariant
    ∙ rw (c.label_at-root.ensures, c.requires.its_head)
