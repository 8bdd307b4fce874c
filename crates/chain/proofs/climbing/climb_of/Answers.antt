-- `chain::climbing::climb_of` meets its contract.
use Rattle.chain.proofs.Writing.{plan-turn, climb-few}
use native.Mathlib.Omega.{arith}
use Prim.Native.Nat.{◌+◌}
use Rattle.chain.proofs.climbing.climb_of.Goals as goal

pub returns-clause-codes : goal.returns-clause-codes
returns-clause-codes c = plan-turn _ _ _ _ _ c.requires.inside c.code_at.ensures c.code_at-2.ensures

pub returns-clause-few : goal.returns-clause-few
returns-clause-few c = omega (arith, climb-few (c.args.depth + 1) c.code_at.result c.code_at-2.result, c.requires.known.depth)
