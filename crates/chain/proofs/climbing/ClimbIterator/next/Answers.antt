-- A climb gives its codes.
use Rattle.std.proofs.Common.{inl, inr}
use Rattle.chain.proofs.Writing.{climb-ended}
use Rattle.chain_theory.proofs.Turns.{climb-step}
use mathlib.Core.Path.{ap}
use lib.ListN.{length}
use native.Mathlib.Omega.{arith}
use Rattle.chain.proofs.climbing.ClimbIterator.next.Goals as goal
use Rattle.chain.proofs.climbing.ClimbIterator.next.Goals.{then-self-eq0-via-then-self-eq0, then-self-eq0-via-else-self-eq0+then-self}

pub returns-then-self-eq0-clause-steps : goal.returns-then-self-eq0-clause-steps
returns-then-self-eq0-clause-steps c =
    elim c.then-self-eq0.branch [
      | then-self-eq0-via-then-self-eq0 w ↦ let e = climb-ended _ c.args.self.now.from c.args.self.now.other (inl w.if-self-eq0.true) in (e, e)
      | then-self-eq0-via-else-self-eq0+then-self w ↦ let e = climb-ended c.args.self.now.left _ _ (inr w.if-self.true) in (e, e)
    ]

pub returns-clause-steps : goal.returns-clause-steps
returns-clause-steps c = climb-step _ _ _ (omega arith) c.if-self.false

pub returns-clause-goes : goal.returns-clause-goes
returns-clause-goes c =
    let s = c.args.self.now in
    let e = climb-step s.left s.from s.other (omega arith) c.if-self.false in
    record { on = λ _. (tt, tt, omega (arith, ap length e)); keeps = tt; rests = λ _. tt }
