-- `run::checks::store_short` meets its contract.
use Rattle.run.proofs.checks.store_short.Goals as goal

pub returns : goal.returns
returns c = rw c.store_size.ensures
