-- `vector_helpers::stamping::Stamping::finished` meets its contract.
use Rattle.std.proofs.Common.{◌∙◌}
use Rattle.vector_helpers.proofs.stamping.Stamping.finished.Goals as goal

pub returns : goal.returns
returns c = c.advance.ensures.store_after ∙ rw c.run.ensures
