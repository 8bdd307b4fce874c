-- `run::checks::nodes` meets its contract.
use native.Mathlib.Omega.{arith}
use lib.Pow.{pow_pos, pow_mono}
use Rattle.base.specs.Limits.{max_depth}
use Rattle.base.proofs.Powers.{shifted_one}
use Rattle.run.proofs.StepLaws.{nodes-full}
use Rattle.run.proofs.checks.nodes.Goals as goal

pub overflow_mul-result : goal.overflow_mul-result
overflow_mul-result c = omega (arith, shifted_one c.args.depth c.requires, pow_pos c.args.depth, pow_mono {i = c.args.depth} {j = max_depth} c.requires)

pub overflow_sub-result : goal.overflow_sub-result
overflow_sub-result c = omega (arith, shifted_one c.args.depth c.requires, pow_pos c.args.depth, pow_mono {i = c.args.depth} {j = max_depth} c.requires)

pub returns : goal.returns
returns c = nodes-full c.args.depth c.requires
