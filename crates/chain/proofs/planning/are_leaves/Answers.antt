-- `chain::planning::are_leaves` meets its contract: std's test of all elements is the definition's.
use Rattle.std.proofs.Common.{rules, tests, ltb, ap, ◌∙◌, ℕ}
use Rattle.std.proofs.lemmas.Iterator.{YieldsList-from_slice}
use Rattle.std.proofs.lemmas.Iterator.Search.{all_from_yields_List}
use Rattle.base.specs.Choice.{every}
use Rattle.chain_theory.specs.Planning.{is_leaf}
use Rattle.chain.proofs.Rows.{every_all}
use Rattle.chain.proofs.planning.are_leaves.Goals as goal

pub returns : goal.returns
unfolding is_leaf
returns c =
    all_from_yields_List (λ x. ltb x c.width-end.result) _ _ _ c.all.ensures.ran (YieldsList-from_slice c.args.leaves.now cc) (λ x b q k. search (rules, tests))
    ∙ every_all (λ x. ltb x c.width-end.result) c.args.leaves.now
    ∙ ap (λ (end : ℕ). every (λ x. ltb x end) c.args.leaves.now) c.width-end.ensures.0
