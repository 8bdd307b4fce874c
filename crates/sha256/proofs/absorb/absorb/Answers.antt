use Rattle.std.proofs.Common.{◌∙◌, refl, arith}
use Rattle.sha256.specs.Digest.{hash_after}
use Rattle.sha256.proofs.Blocks.{hash_after-more, block-from}
use Rattle.sha256.proofs.absorb.absorb.Goals as goal

pub loop-block-init : goal.loop-block-init
unfolding hash_after
loop-block-init c = refl

pub loop-block-preserved : goal.loop-block-preserved
loop-block-preserved c =
    hash_after-more _ _ _ _ _ _ c.loop-block.invariant
    (c.gather.ensures ∙ block-from _ _ _ c.as_chunks.ensures.front (omega arith))
    c.compress-v.ensures
