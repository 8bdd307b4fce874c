-- `opening::checks::leaf_outside` meets its contract: 2^40 fits.
use Rattle.base.proofs.Powers.{shifted_one}
use Rattle.opening.proofs.checks.leaf_outside.Goals as goal

pub returns : goal.returns
returns c = rw (shifted_one c.args.depth c.requires)
