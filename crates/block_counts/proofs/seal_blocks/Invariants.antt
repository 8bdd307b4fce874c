-- `block_counts::seal_blocks` meets its contract. The invariant: the blocks of the run and of the first i openings.
use mathlib.Core.Path.{◌≡◌}
use Prim.Native.Nat.{◌+◌, ◌*◌, ◌^◌, ◌<◌}
use Rattle.block_counts.specs.Seal.{seal_blocks}
use Rattle.block_counts.proofs.seal_blocks.Given as goal

abbrev pub invariant-loop-i : goal.invariant-loop-i
invariant-loop-i l =
    (l.blocks ≡ seal_blocks l.edition l.statement l.root l.depth l.memory l.i) × (l.blocks < (l.i + 1) * 2 ^ 46)
