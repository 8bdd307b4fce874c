-- `unit::StampingUnit::advance` meets its contract: a unit that is not refused has its labels made in turn, and a refused call leaves it and
-- the slice.
use mathlib.Core.Path.{refl, sym, ap, ◌∙◌}
use mathlib.Core.Logic.{inl}
use Prim.Native.Nat.{min}
use native.Mathlib.Omega.{arith}
use Rattle.base.proofs.RowLaws.{is-done, is-refused}
use Rattle.unit.proofs.CallLaws.{labels-done, labels-refused, advanced-by, blocks-by, unchanged}
use Rattle.unit.proofs.StampingUnit.advance.Goals as goal

pub plan_runs-requires : goal.plan_runs-requires
plan_runs-requires c = inl refl

pub returns-in_err-plan-clause-unit_after : goal.returns-in_err-plan-clause-unit_after
returns-in_err-plan-clause-unit_after c =
    let a = c.args in
    (unchanged a.self.now a.store.now a.budget
    (labels-refused a.self.now a.store.now a.budget (is-refused _ _ _ c.plan_runs.ensures.outcome_value c.in_err-plan.was))).0

pub returns-in_err-plan-clause-store_after : goal.returns-in_err-plan-clause-store_after
returns-in_err-plan-clause-store_after c =
    let a = c.args in
    (unchanged a.self.now a.store.now a.budget
    (labels-refused a.self.now a.store.now a.budget (is-refused _ _ _ c.plan_runs.ensures.outcome_value c.in_err-plan.was))).1

pub label_turns-blocks-requires : goal.label_turns-blocks-requires
label_turns-blocks-requires c =
    let (planned, whole) = c.in_ok-plan.ensures.planned in
    record {
      store_value = (is-done _ _ _ c.plan_runs.ensures.outcome_value c.in_ok-plan.was, planned);
      labels_bound = omega (arith, c.min-labels.ensures, whole);
    }

pub returns : goal.returns
returns c =
    let u = c.args.self.now in
    let s = c.args.store.now in
    let b = c.args.budget in
    let e = c.label_turns-blocks.ensures in
    let done = is-done _ _ _ c.plan_runs.ensures.outcome_value c.in_ok-plan.was in
    let k = c.min-labels.ensures ∙ ap (min b) c.in_ok-plan.ensures.planned.1 ∙ labels-done u s b done in
    let (unit, store) = advanced-by u s b _ _ _ k e.unit_after e.store_after in
    record {
      outcome_value = sym done;
      work_value = (k, blocks-by u s b _ _ k e.blocks_value.0, e.blocks_value.1);
      unit_after = unit;
      store_after = store;
    }
