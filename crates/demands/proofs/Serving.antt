-- W-208: the row of a unit's call, and what a call that makes no label leaves as it is.
use mathlib.Core.Path.{◌≡◌, refl}
use mathlib.Core.Logic.{◌⊎◌, inl, inr, ⊎_elim}
use Prim.Native.Nat.{ℕ, zero, suc, ◌+◌, ◌-◌}
use native.Mathlib.Omega.{arith}
use mathlib.Core.Bool.{Bool, true, false}
use mathlib.Core.List.{List, ◌∷◌, ◌++◌}
use lib.Dec.{ltb}
use lib.ListN.{length, drop}
use Rattle.base.specs.Choice.{pick}
use Rattle.base.specs.Limits.{max_runs}
use Rattle.base.specs.Row.{outside, either, is_done}
use Rattle.base.proofs.RowLaws.{some-refused}
use Rattle.machine.proofs.StepLaws.{done_refused, cost-refused, advanced-refused, done-idle, cost-idle, advanced-idle}
use Rattle.tree.specs.Walk.{nodes_in}
use Rattle.tree.specs.Store.{store_size}
use Rattle.run.specs.declared.Run.{Run}
use Rattle.run.specs.Rows.{continue_row}
use Rattle.unit.specs.declared.StampingUnit.{StampingUnit}
use Rattle.unit.specs.Runs.{run_at, left_of, sum_of, size_of}
use Rattle.unit.specs.Rows.{runs_row, named_row, unit_row}
use Rattle.unit.specs.Turns.{Carried, carried, unit_machine, turn_blocks}
use Rattle.unit.proofs.SumLaws.{none-sum}
use Rattle.demands.specs.Rows.{Row, IsFirst, Outside, continuing_run, serving_runs, naming_run}
use Rattle.demands.specs.Demand1.{ServingUnit}
use Rattle.demands.proofs.Decisions.{Decides, decides-outside, decides-lt, decides-either, given}
use Rattle.demands.proofs.Checks.{decides-impossible}

-- ---- the row
-- one run's checks, then what the others answer
run_by :
    (t u : Bool) {P Q : Type 0} (later : Row) (next : ℕ) → Decides t P → Decides u Q → IsFirst later next
    → IsFirst ((P, 4) ∷ (Q, 3) ∷ later) (pick (is_done (pick t 4 (pick u 3 0))) next (pick t 4 (pick u 3 0)))
run_by true u later next p q rest = inl (p.yes refl, refl)
run_by false true later next p q rest = inr (p.no refl, inl (q.yes refl, refl))
run_by false false later next p q rest = inr (p.no refl, inr (q.no refl, rest))

run-first :
    (run : Run) (left : ℕ) (later : Row) (next : ℕ) → IsFirst later next
    → IsFirst (continuing_run run left ++ later) (pick (is_done (continue_row run left)) next (continue_row run left))
unfolding continue_row nodes_in
run-first run left later next rest =
    run_by _ (ltb left (store_size run.memory)) later next
    (decides-impossible run.edition run.depth run.memory run.made (nodes_in run.depth))
    (decides-lt left (store_size run.memory))
    rest

-- a store that begins behind others has what they leave of the slice
runs-first :
    (runs : List Run) (store more i from left : ℕ) → left ≡ store - from → IsFirst (serving_runs runs i more from store) (runs_row runs i more left)
unfolding serving_runs runs_row
runs-first runs store zero i from left e = refl
runs-first runs store (suc more) i from left e =
    let run : Run = run_at runs i in
    rw e
    (run-first run (store - from) (drop 2 (serving_runs runs i (suc more) from store)) (runs_row runs (i + 1) more (store - from - size_of run))
    (runs-first runs store more (i + 1) _ (store - from - size_of run) (omega arith)))

module _ (unit : StampingUnit) (name end store : ℕ) where
  abbrev not_named : Bool
  not_named = either (outside 1 max_runs unit.count) (outside 1 unit.count name)

  decides-named : Decides not_named (Outside 1 max_runs unit.count ⊎ Outside 1 unit.count name)
  decides-named = decides-either (decides-outside 1 max_runs unit.count) (decides-outside 1 unit.count name)

  -- 21 is answered whatever the runs are
  not_named_lem : not_named ≡ true → IsFirst (naming_run unit name end store) 21
  not_named_lem e =
      given (omega arith)
      (⊎_elim (λ over. inl (λ within. over (omega (arith, within.0), omega (arith, within.1)))) (λ other. inr other) (decides-named.yes e))

  named_by :
      (t : Bool) → not_named ≡ t → IsFirst (naming_run unit name end store) (pick t 21 (runs_row unit.runs 1 end store))
  named_by true e = not_named_lem e
  named_by false e =
      inr (
        λ wrong.
            decides-named.no e
            (⊎_elim (λ over. inl (λ within. over (omega (arith, within.0), omega (arith, within.1)))) (λ other. inr other) wrong),
        runs-first unit.runs store end 1 _ store (omega arith),
      )

  pub naming-run : IsFirst (naming_run unit name end store) (named_row unit name end store)
  unfolding named_row
  naming-run = named_by not_named refl

-- ---- a call that makes no label
pub serving-unit : (unit : StampingUnit) (store : List ℕ) (budget : ℕ) → ServingUnit unit store budget
unfolding unit_machine nodes_in
serving-unit unit store budget =
    let s : Carried = carried unit store in
    record {
      answer = naming-run unit unit.last unit.count (length store);
      refused =
          λ some.
          let no = some-refused (unit_row unit (length store)) some in (
            done_refused unit_machine s budget no,
            (cost-refused unit_machine s budget turn_blocks no, advanced-refused unit_machine s budget no),
          );
      idle =
          λ h.
          let none : (budget ≡ 0) ⊎ (sum_of left_of unit.runs unit.count ≡ 0) =
          ⊎_elim (λ e. inl e)
          (λ finished. inr (none-sum _ unit.count (λ i some few. omega (arith, finished i (some, few)))))
          h in
          (done-idle unit_machine s budget none, (cost-idle unit_machine s budget turn_blocks none, advanced-idle unit_machine s budget none));
    }
