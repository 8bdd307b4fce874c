-- `checkpoint::kept_size` meets its contract.
use Rattle.std.proofs.Common.{arith}
use Rattle.tree.proofs.Slots.{store-fits}
use Rattle.checkpoint.proofs.kept_size.Goals as goal

pub returns : goal.returns
returns c = (c.store_size.ensures, omega (arith, c.store_size.ensures, store-fits c.args.memory c.requires))
