-- `block_counts::tree_blocks` meets its contract.
use mathlib.Core.Path.{◌∙◌}
use Rattle.block_counts.proofs.Laws.{run-blocks}
use Rattle.block_counts.proofs.tree_blocks.Goals as goal

pub returns : goal.returns
returns c =
    let call = c.subtree_blocks in
    record {
      value = call.ensures.value ∙ run-blocks c.args.depth;
      upper_bound = call.ensures.upper_bound;
    }
