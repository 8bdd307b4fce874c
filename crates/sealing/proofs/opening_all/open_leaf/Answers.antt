use Rattle.std.proofs.Common.{◌∙◌, arith, rules, refl}
use Rattle.file_head.proofs.ChallengeLaws.{done-ok}
use Rattle.run_theory.proofs.OpeningCalls.{open-fits}
use Rattle.sealing.proofs.OpeningLaws.{first_opening, next-opening, last-opening}
use Rattle.sealing.proofs.opening_all.open_leaf.Goals as goal

pub unwrap-opening-requires : goal.unwrap-opening-requires
unwrap-opening-requires g c =
    let run = c.args.run.now in
    done-ok _ ((rw c.tree_of.ensures at c.start.ensures.outcome_value) ∙ open-fits run.edition run.depth run.memory c.args.leaf _ _ c.requires)

pub nodes_anew-left-requires : goal.nodes_anew-left-requires
nodes_anew-left-requires g c = (c.requires.depth.1, omega (arith, c.requires.memory))

pub loop-left-init : goal.loop-left-init
loop-left-init g c =
    let run = c.args.run.now in
    let first =
    first_opening run.edition run.statement run.depth run.memory c.args.leaf c.args.store.now c.args.part.now c.requires _ _
    (rw (c.unwrap-opening.ensures, c.tree_of.ensures) at c.start.ensures.opening_value) (rw c.tree_of.ensures at c.start.ensures.out_after) c.nodes_anew-left.result c.nodes_anew-left.ensures in
    (omega (arith, c.nodes_anew-left.ensures), first.0, first.1, refl)

pub loop-left-smaller : goal.loop-left-smaller
loop-left-smaller g c = omega (arith, c.loop-left-test.true)

pub loop-left-preserved : goal.loop-left-preserved
loop-left-preserved g c =
    let run = c.args.run.now in
    let l = c.loop-left in
    let next =
    next-opening run.edition run.statement run.depth run.memory c.args.leaf c.args.store.now c.args.part.now c.requires _ _
    (rw (c.unwrap-opening.ensures, c.tree_of.ensures) at c.start.ensures.opening_value) (rw c.tree_of.ensures at c.start.ensures.out_after) l.left _ _ l.invariant.1 l.invariant.2
    c.start.auto.out l.invariant.0 c.min-budget.result (omega arith) _ _
    c.advance.ensures.opening_after c.advance.ensures.out_after in
    (omega (arith, l.invariant.0), next.0, next.1, search rules)

pub returns : goal.returns
returns g c =
    let run = c.args.run.now in
    let l = c.loop-left in
    last-opening run.edition run.statement run.depth run.memory c.args.leaf c.args.store.now c.args.part.now c.requires _ _
    (rw (c.unwrap-opening.ensures, c.tree_of.ensures) at c.start.ensures.opening_value) (rw c.tree_of.ensures at c.start.ensures.out_after) l.left _ _ l.invariant.1 l.invariant.2 (omega (arith, c.loop-left-test.false))
