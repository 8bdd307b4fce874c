-- `unit::StampingUnit::store_place` meets its contract, by whether the run is named, and it and those before it may be continued.
use mathlib.Core.Path.{◌≡◌, refl, sym, subst, ◌∙◌}
use mathlib.Core.Bool.{false}
use mathlib.Core.Logic.{inr}
use Prim.Native.Nat.{ℕ, ◌-◌, ◌<◌}
use native.Mathlib.Omega.{arith}
use lib.ListN.{length}
use Rattle.std.specs.Prelude.{Result, Ok, Err, Some, None, IfOk}
use Rattle.std.specs.Result.{result_ok}
use Rattle.base.specs.declared.refusal.Refusal.{Refusal}
use Rattle.base.specs.Limits.{max_runs}
use Rattle.base.specs.Number.{outcome_number}
use Rattle.base.specs.Row.{is_done}
use Rattle.base.proofs.RowLaws.{is-done, not_done}
use Rattle.unit.specs.declared.StampingUnit.{StampingUnit}
use Rattle.unit.specs.Rows.{place_row}
use Rattle.unit.proofs.RowLaws.{named-done, memory-fits}
use Rattle.unit.proofs.PlaceLaws.{place-offset, place-length, no_place}
use Rattle.unit.proofs.StampingUnit.store_place.Goals as goal

-- what an answer of which only the value is kept tells
kept-ok : {A E : Type 0} (r : Result A E) (p : A) → result_ok r ≡ Some p → r ≡ Ok p
kept-ok (Ok x) p e = cc
kept-ok (Err x) p e = absurd (cc)

kept-none : {A : Type 0} (r : Result A Refusal) (row : ℕ) → outcome_number r ≡ row → result_ok r ≡ None → is_done row ≡ false
kept-none (Ok x) row e n = absurd (cc)
kept-none (Err x) row e n = not_done x row e

if-kept : {A E : Type 0} (r : Result A E) (p : A) (P : A → Type 0) → r ≡ Ok p → IfOk r P → P p
if-kept r p P e h = subst (λ (x : Result _ _). IfOk x P) e h

room : (unit : StampingUnit) (i store : ℕ) → place_row unit i store ≡ 0 → i - 1 < max_runs
room unit i store e =
    let (counted, named, _) = named-done unit i i store e in
    omega (arith, counted.1, named.0, named.1)

pub plan_runs-requires : goal.plan_runs-requires
plan_runs-requires c = inr refl

pub returns-in_err-plan : goal.returns-in_err-plan
returns-in_err-plan c =
    let a = c.args in
    let refused = kept-none _ _ c.plan_runs.ensures.outcome_value (sym c.ok.ensures.value ∙ c.in_err-plan.was) in
    let (offset, size) = no_place a.self.now (length a.store.now) a.i refused in
    rw c.from_residual.ensures record { there = sym refused; offset_value = sym offset; length_value = sym size }

pub overflow_sub-at : goal.overflow_sub-at
overflow_sub-at c =
    let done = is-done _ _ _ c.plan_runs.ensures.outcome_value (kept-ok _ _ (sym c.ok.ensures.value ∙ c.in_ok-plan.was)) in
    omega (arith, (named-done c.args.self.now c.args.i c.args.i (length c.args.store.now) done).1.0)

pub offset_bounds-self-at : goal.offset_bounds-self-at
offset_bounds-self-at c =
    omega (
      arith,
      room c.args.self.now c.args.i (length c.args.store.now)
          (is-done _ _ _ c.plan_runs.ensures.outcome_value (kept-ok _ _ (sym c.ok.ensures.value ∙ c.in_ok-plan.was))),
    )

pub bounds-self-at : goal.bounds-self-at
bounds-self-at c =
    room c.args.self.now c.args.i (length c.args.store.now)
    (is-done _ _ _ c.plan_runs.ensures.outcome_value (kept-ok _ _ (sym c.ok.ensures.value ∙ c.in_ok-plan.was)))

pub offset_bounds-plan-at : goal.offset_bounds-plan-at
offset_bounds-plan-at c =
    omega (
      arith,
      room c.args.self.now c.args.i (length c.args.store.now)
          (is-done _ _ _ c.plan_runs.ensures.outcome_value (kept-ok _ _ (sym c.ok.ensures.value ∙ c.in_ok-plan.was))),
    )

pub bounds-plan-at : goal.bounds-plan-at
bounds-plan-at c =
    room c.args.self.now c.args.i (length c.args.store.now)
    (is-done _ _ _ c.plan_runs.ensures.outcome_value (kept-ok _ _ (sym c.ok.ensures.value ∙ c.in_ok-plan.was)))

pub store_size-requires : goal.store_size-requires
store_size-requires c =
    let a = c.args in
    let done = is-done _ _ _ c.plan_runs.ensures.outcome_value (kept-ok _ _ (sym c.ok.ensures.value ∙ c.in_ok-plan.was)) in
    let (_, named, each) = named-done a.self.now a.i a.i (length a.store.now) done in
    memory-fits a.self.now.runs (length a.store.now) a.i (each a.i named.0 (omega arith))

pub returns : goal.returns
returns c =
    let a = c.args in
    let so = kept-ok _ _ (sym c.ok.ensures.value ∙ c.in_ok-plan.was) in
    let done = is-done _ _ _ c.plan_runs.ensures.outcome_value so in
    let (planned, _) = if-kept _ _ _ so c.plan_runs.ensures.planned in
    let (_, named, _) = named-done a.self.now a.i a.i (length a.store.now) done in
    record {
      there = rw done;
      offset_value = planned.begins a.i named.0 (omega arith) ∙ sym (place-offset a.self.now (length a.store.now) a.i done);
      length_value = c.store_size.ensures ∙ sym (place-length a.self.now (length a.store.now) a.i done);
    }
