-- `planning::answering::put_answer` meets its contract: the refusal's number, or the plan.
use Rattle.planning.proofs.AnswerLaws.{done-row, done-count, done-codes, done-wrote, refused-wrote, few-codes, codes-count}
use lib.ListN.{length}
use native.Mathlib.Omega.{arith}
use mathlib.Core.Path.{refl, sym, ap, ◌∙◌}
use Rattle.planning.proofs.answering.put_answer.Goals as goal

pub slice_bounds-codes-end : goal.slice_bounds-codes-end
slice_bounds-codes-end c =
    let e = c.in-Ok.ensures in
    let done = done-row c.args.depth c.args.leaves.now _ refl e.outcome_value in
    omega (
      arith,
      done-count c.args.depth c.args.leaves.now _ _ refl done e.count_value,
      few-codes c.args.depth c.args.leaves.now _ done refl,
      codes-count c.args.depth c.args.leaves.now _ done refl,
      c.plan.auto.list,
    )

pub slice_bounds-put_plan-end : goal.slice_bounds-put_plan-end
slice_bounds-put_plan-end c =
    let e = c.in-Ok.ensures in
    let done = done-row c.args.depth c.args.leaves.now _ refl e.outcome_value in
    let count = done-count c.args.depth c.args.leaves.now _ _ refl done e.count_value in
    count
    ∙ sym
    (ap length (done-codes c.args.depth c.args.leaves.now _ _ _ refl done count e.list_after) ∙ codes-count c.args.depth c.args.leaves.now _ done refl)

pub put_plan-requires : goal.put_plan-requires
put_plan-requires c =
    let e = c.in-Ok.ensures in
    let done = done-row c.args.depth c.args.leaves.now _ refl e.outcome_value in
    let count = done-count c.args.depth c.args.leaves.now _ _ refl done e.count_value in
    (done, (done-codes c.args.depth c.args.leaves.now _ _ _ refl done count e.list_after, c.requires))

pub returns-in-Ok : goal.returns-in-Ok
returns-in-Ok c =
    done-wrote _ _ _ _ _ (done-row c.args.depth c.args.leaves.now _ refl c.in-Ok.ensures.outcome_value) c.put_plan.ensures

pub returns-in-Err : goal.returns-in-Err
returns-in-Err c =
    refused-wrote c.args.depth c.args.leaves.now _ _ c.in-Err.why _ _ refl c.in-Err.ensures.outcome_value c.put_refused.ensures
