-- `files::report::take_portion` meets its contract.
use mathlib.Core.Path.{◌∙◌}
use Rattle.base.proofs.Bounds.{number-some}
use Rattle.sha256.specs.Portions.{update_row, update_state}
use Rattle.files.proofs.HashLaws.{stays}
use Rattle.files.proofs.report.take_portion.Goals as goal

pub returns-in-Err-clause-failed : goal.returns-in-Err-clause-failed
unfolding update_row update_state
returns-in-Err-clause-failed c = c.update.ensures.state_after ∙ stays _ _ 5 _ _ (number-some _) c.in-Err.ensures.outcome_value
