-- `writing::Writing::label_many` meets its contract. The invariant: what is left to make gives the same, and its blocks with those so far
-- are all. The measure is what is left.
use mathlib.Core.Path.{◌≡◌}
use Prim.Native.Nat.{◌+◌, ◌*◌, ◌≤◌}
use lib.ListN.{length}
use Rattle.labelling.specs.Blocks.{most_blocks}
use Rattle.writing.specs.Possible.{written_of}
use Rattle.writing.specs.Steps.{blocks_over}
use Rattle.writing.proofs.FollowLaws.{Labelling}
use Rattle.writing.proofs.Writing.label_many.Given as goal

abbrev pub invariant-loop-left : goal.invariant-loop-left
invariant-loop-left l =
    record {
      labelling : Labelling l.store l.initial.file l.initial.self l.labels l.file l.self l.left;
      size : length l.file ≡ length l.initial.file;
      counted : l.blocks + blocks_over l.store l.left (written_of l.self l.file)
          ≡ blocks_over l.store l.labels (written_of l.initial.self l.initial.file);
      few : l.blocks + most_blocks * l.left ≤ most_blocks * l.labels;
    }

abbrev pub decreases-loop-left : goal.decreases-loop-left
decreases-loop-left l = l.left
