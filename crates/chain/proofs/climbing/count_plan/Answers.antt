-- `chain::climbing::count_plan` meets its contract.
use Rattle.std.proofs.Common.{inl, ◌≡◌, ◌+◌, refl, ap, ◌∙◌, length, drop}
use Rattle.std.proofs.lemmas.Iterator.Consumers.{YieldsList-from_first, count_from_yields_List}
use Rattle.std.proofs.Math.ListN.{length-append}
use Rattle.chain_theory.specs.Planning.{climb, plan_from}
use Rattle.chain_theory.proofs.Turns.{plan_from-end}
use native.Mathlib.Omega.{arith}
use Rattle.chain.proofs.climbing.count_plan.Goals as goal

pub count-count-requires-clause-fits : goal.count-count-requires-clause-fits
count-count-requires-clause-fits c = inl (omega (arith, c.climb_of.ensures.few))

pub overflow_add-count : goal.overflow_add-count
overflow_add-count c = omega (arith, c.loop-i.invariant.1, c.count-count.ensures.bound, c.climb_of.ensures.few, c.requires.few)

pub loop-i-preserved : goal.loop-i-preserved
loop-i-preserved c =
    let way = c.climb_of.result in
    let counted : c.count-count.result ≡ length (climb way.left way.from way.other) =
    count_from_yields_List _ _ c.count-count.ensures.ran (YieldsList-from_first (λ x. x) (λ s. climb s.left s.from s.other) _ refl) in
    let turn : length (plan_from c.args.depth (drop c.loop-i.i c.args.leaves.now)) ≡ length (climb way.left way.from way.other) + length (plan_from c.args.depth (drop (c.loop-i.i + 1) c.args.leaves.now)) =
    ap length c.climb_of.ensures.codes ∙ length-append (climb way.left way.from way.other) _ in
    (omega (arith, c.loop-i.invariant.0), omega (arith, c.loop-i.invariant.1, c.climb_of.ensures.few))

pub returns : goal.returns
returns c =
    omega (arith, c.loop-i.invariant.0, ap length (plan_from-end c.args.depth c.args.leaves.now c.loop-i.i (omega arith)))
