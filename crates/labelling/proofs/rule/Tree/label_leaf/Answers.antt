-- `labelling::rule::Tree::label_leaf` meets its contract: the labels in front and the held ones before its place are 32 bytes for each one-bit.
use native.Mathlib.Omega.{arith}
use lib.ListN.{length-take}
use Rattle.labelling.proofs.rule.Tree.label_leaf.Goals as goal

pub slice_bounds-label-end-2 : goal.slice_bounds-label-end-2
slice_bounds-label-end-2 c = simp length-take (omega arith)

pub label-label-requires : goal.label-label-requires
label-label-requires c =
    record {
      level_le_depth = omega (arith, c.requires.level_le_depth);
      rest_len = (simp length-take (omega arith), c.requires.front_len_bound.1);
    }
