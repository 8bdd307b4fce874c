-- `opening_places::places::slot_of` meets its contract: no number is beyond 2^46.
use native.Mathlib.Omega.{arith}
use lib.Pow.{pow_pos, pow_mono}
use Rattle.base.specs.Limits.{max_depth}
use Rattle.base.proofs.Powers.{shifted_one}
use Rattle.opening_places.proofs.places.slot_of.Goals as goal

pub overflow_sub-result : goal.overflow_sub-result
overflow_sub-result c = omega (arith, shifted_one c.args.level c.requires.0, pow_pos c.args.level, pow_mono {i = c.args.level} {j = max_depth} c.requires.0)

pub overflow_add-result : goal.overflow_add-result
overflow_add-result c = omega (arith, shifted_one c.args.level c.requires.0, pow_pos c.args.level, pow_mono {i = c.args.level} {j = max_depth} c.requires.0)

pub overflow_mul-result : goal.overflow_mul-result
overflow_mul-result c = omega (arith, shifted_one c.args.level c.requires.0, pow_pos c.args.level, pow_mono {i = c.args.level} {j = max_depth} c.requires.0)

pub returns : goal.returns
returns c = rw (shifted_one c.args.level c.requires.0)
