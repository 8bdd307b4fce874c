-- `block_counts::subtree_blocks` meets its contract.
use mathlib.Core.Path.{◌≡◌}
use Prim.Native.Nat.{◌+◌, ◌*◌, ◌^◌, ◌≤◌}
use native.Mathlib.Omega.{arith}
use lib.Count.{ones, ones-le}
use Rattle.tree.specs.Nodes.{node, order_below}
use Rattle.block_theory.specs.Sums.{blocks_sum}
use Rattle.block_counts.proofs.Laws.{product, power-least, product-most, product-exact}
use Rattle.block_counts.proofs.subtree_blocks.Goals as goal

-- so that 2 can be taken off

pub overflow_sub-result : goal.overflow_sub-result
overflow_sub-result c =
    omega (arith, power-least c.args.height c.args.level c.args.position c.requires.1 c.requires.2 c.requires.0)

few : (c : goal.Start) → ones c.args.position ≤ c.args.level
few c = ones-le c.args.level c.args.position c.requires.2

pub overflow_cast-lefts : goal.overflow_cast-lefts
overflow_cast-lefts c =
    omega (arith, few c)

pub overflow_mul-result : goal.overflow_mul-result
overflow_mul-result c =
    omega (arith, few c)

pub overflow_add-result : goal.overflow_add-result
overflow_add-result c =
    omega (arith, few c)

pub overflow_add-result-2 : goal.overflow_add-result-2
overflow_add-result-2 c =
    omega (arith, few c)

most : (c : goal.Start) → product c.args.height c.args.position ≤ 133 * 2 ^ 40
most c = product-most c.args.height c.args.level c.args.position c.requires.1 c.requires.2

pub overflow_mul-result-2 : goal.overflow_mul-result-2
overflow_mul-result-2 c =
    omega (arith, most c)

exact :
    (c : goal.Start)
    → product c.args.height c.args.position
    ≡ 4 * (blocks_sum (c.args.level + c.args.height) (order_below c.args.height (node c.args.level c.args.position)) + 2)
exact c = product-exact c.args.height c.args.level c.args.position c.requires.1 c.requires.2 c.requires.0

pub returns : goal.returns
returns c = record { value = omega (arith, exact c); upper_bound = omega (arith, most c) }
