-- `opening::checks::nodes_anew` meets its contract: a subtree has at least the node itself.
use Prim.Native.Nat.{◌-◌}
use native.Mathlib.Omega.{arith}
use lib.Pow.{pow_pos}
use Rattle.tree.proofs.Order.{nodes_in-suc}
use Rattle.opening.proofs.RowLaws.{anew-nodes}
use Rattle.opening.proofs.checks.nodes_anew.Goals as goal

pub overflow_sub-result : goal.overflow_sub-result
overflow_sub-result c =
    omega (
      arith,
      c.nodes.ensures,
      nodes_in-suc (c.args.depth - c.args.memory),
      pow_pos (c.args.depth - c.args.memory),
    )

pub returns : goal.returns
returns c = rw c.nodes.ensures (anew-nodes c.args.depth c.args.memory)
