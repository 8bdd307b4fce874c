-- `block_counts::opening_blocks` meets its contract.
use mathlib.Core.Path.{◌≡◌, sym, ◌∙◌}
use Prim.Native.Nat.{◌+◌}
use native.Mathlib.Omega.{arith}
use lib.Dec.{lit<}
use Rattle.opening_places.proofs.PlaceLaws.{way-inside}
use Rattle.block_theory.specs.Sums.{opening_blocks}
use Rattle.block_theory.proofs.Sums.{opening-none}
use Rattle.block_counts.proofs.Laws.{anew-and-topmost}
use Rattle.block_counts.proofs.opening_blocks.Goals as goal

pub returns-then-memory-depth : goal.returns-then-memory-depth
returns-then-memory-depth c =
    record {
      value = rw c.if-memory-depth.true (sym (opening-none _ _));
      upper_bound = lit< tt;
    }

pub subtree_blocks-requires : goal.subtree_blocks-requires
subtree_blocks-requires c =
    let a = c.args in
    let possible = c.requires in (
      omega (arith, possible.above, c.if-memory-depth.false),
      omega (arith, possible.above, possible.deep),
      way-inside a.depth a.leaf a.memory possible.above possible.inside,
    )

with-topmost :
    (c : goal.After-subtree_blocks)
    → c.subtree_blocks.result
    ≡ opening_blocks c.args.depth c.args.memory c.args.leaf + 2
with-topmost c =
    c.subtree_blocks.ensures.value
    ∙ anew-and-topmost c.args.depth c.args.memory c.args.leaf (omega (arith, c.requires.above, c.if-memory-depth.false))

pub returns : goal.returns
returns c =
    record {
      value = omega (arith, with-topmost c);
      upper_bound = omega (arith, c.subtree_blocks.ensures.upper_bound);
    }

pub overflow_sub-result : goal.overflow_sub-result
overflow_sub-result c =
    omega (arith, with-topmost c)
