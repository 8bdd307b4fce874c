use Rattle.std.proofs.Common.{arith, rules, refl, length, ◌-◌}
use Rattle.run.specs.Steps.{stamped}
use Rattle.run.proofs.RowLaws.{may-go-on}
use Rattle.sealing.proofs.LabelLaws.{first_run, next-run, last-run}
use Rattle.sealing.proofs.labels.label_on.Goals as goal

pub nodes-requires : goal.nodes-requires
nodes-requires g c = (may-go-on c.args.run.now (length c.args.store.now) c.requires).possible.depth

pub overflow_sub-left : goal.overflow_sub-left
overflow_sub-left g c = omega (arith, c.nodes.ensures, (may-go-on c.args.run.now (length c.args.store.now) c.requires).possible.made-few)

pub loop-left-init : goal.loop-left-init
loop-left-init g c =
    let s = stamped c.args.run.now c.args.store.now in
    let first = first_run s (c.nodes.result - c.args.run.now.made) (omega (arith, c.nodes.ensures)) in
    (omega (arith, c.nodes.ensures), first.0, first.1, refl)

pub loop-left-smaller : goal.loop-left-smaller
loop-left-smaller g c = omega (arith, c.loop-left-test.true)

pub loop-left-preserved : goal.loop-left-preserved
loop-left-preserved g c =
    let l = c.loop-left in
    let next =
    next-run (stamped c.args.run.now c.args.store.now) l.left _ _ l.invariant.1 l.invariant.2 c.requires l.invariant.0 c.min-budget.result
    (omega arith) _ _ c.advance.ensures.run_after c.advance.ensures.store_after in
    (omega (arith, l.invariant.0), next.0, next.1, search rules)

pub returns : goal.returns
returns g c =
    let l = c.loop-left in
    let last = last-run (stamped c.args.run.now c.args.store.now) l.left _ _ l.invariant.1 l.invariant.2 (omega (arith, c.loop-left-test.false)) in
    record { run_after = last.0; store_after = last.1 }
