-- `opening::checks::leaf_fits` meets its contract: each return by the tests passed.
use mathlib.Core.Path.{sym, ◌∙◌}
use Rattle.opening.proofs.checks.leaf_fits.Goals as goal

pub returns-then-leaf_outside : goal.returns-then-leaf_outside
returns-then-leaf_outside c = rw (sym c.leaf_outside.ensures ∙ c.if-leaf_outside.true)

pub returns : goal.returns
returns c = rw (sym c.leaf_outside.ensures ∙ c.if-leaf_outside.false) c.check_output.ensures
