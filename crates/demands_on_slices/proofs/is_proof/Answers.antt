-- `demands_on_slices::is_proof` meets its contract: a slice's bytes are below 256, so demand 2 holds of them.
use Rattle.demands_on_slices.proofs.Slices.{decided}
use Rattle.demands_on_slices.proofs.is_proof.Goals as goal

pub returns : goal.returns
returns c = rw c.is_ok.ensures.value (decided _ _ _ _ (λ j. (c.type_inv.file j).fits) _ c.check_file.ensures)
