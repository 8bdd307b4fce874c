-- `demands_on_slices::chain_or_clash` meets its contract: a slice's bytes are below 256, so demand 3 holds of them.
use Rattle.demands.proofs.Demand3.{demand3}
use Rattle.demands_on_slices.proofs.chain_or_clash.Goals as goal

pub returns-clause-drawn : goal.returns-clause-drawn
returns-clause-drawn c = demand3.drawn _ _ _ _ _ (λ j. (c.type_inv.file j).fits)
