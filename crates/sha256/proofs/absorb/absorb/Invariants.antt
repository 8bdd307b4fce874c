-- v is the hash words after the first i blocks
use Rattle.std.proofs.Common.{◌≡◌}
use Rattle.sha256.specs.Digest.{hash_after}
use Rattle.sha256.proofs.absorb.absorb.Given as goal

abbrev pub invariant-loop-block : goal.invariant-loop-block
invariant-loop-block l = l.v ≡ hash_after l.initial.v l.bytes l.block-index
