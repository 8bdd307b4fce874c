-- `run::checks::store_size` meets its contract.
use native.Mathlib.Omega.{arith}
use Rattle.tree.specs.Walk.{nodes_in}
use Rattle.tree.proofs.Slots.{store-fits}
use Rattle.run.proofs.checks.store_size.Goals as goal

pub overflow_mul-result : goal.overflow_mul-result
unfolding nodes_in
overflow_mul-result c = omega (arith, c.nodes.ensures, store-fits c.args.memory c.requires)

pub returns : goal.returns
unfolding nodes_in
returns c = omega (arith, c.nodes.ensures)
