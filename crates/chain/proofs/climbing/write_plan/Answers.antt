-- `chain::climbing::write_plan` meets its contract.
use Rattle.chain.proofs.Writing.{written-step, written-all}
use Rattle.chain_theory.proofs.Turns.{plan_from-end}
use native.Mathlib.Omega.{arith}
use Rattle.chain.proofs.climbing.write_plan.Goals as goal

pub loop-code-preserved : goal.loop-code-preserved
loop-code-preserved c = written-step _ _ _ _ _ _ c.requires.1 (rw c.in-Some.ensures.steps at c.loop-code.invariant)

pub returns : goal.returns
returns c = written-all _ _ _ _ (rw (plan_from-end c.args.depth c.args.leaves.now c.loop-i.i (omega arith)) at c.loop-i.invariant)
