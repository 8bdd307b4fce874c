-- The runs looked over in order: the row so far, and the arrays that are filled beside it.
use mathlib.Core.Path.{◌≡◌, sym, ap, ap₂, ◌∙◌}
use mathlib.Core.Logic.{⊎_elim}
use mathlib.Core.Bool.{true, false}
use mathlib.Core.List.{List}
use Prim.Native.Nat.{ℕ, zero, suc, ◌+◌, ◌-◌, ◌*◌, ◌^◌, ◌≤◌, ◌<◌}
use native.Mathlib.Omega.{arith}
use lib.ListN.{length, get_or, set, length-set}
use lib.Seq.{get_or-set_same, get_or-set_other}
use Rattle.base.specs.Limits.{max_runs}
use Rattle.base.specs.Choice.{pick}
use Rattle.base.specs.Row.{outside, is_done}
use Rattle.base.proofs.ChoiceLaws.{lt-or-le}
use Rattle.tree.specs.Walk.{nodes_in}
use Rattle.run.specs.declared.Run.{Run}
use Rattle.run.specs.Rows.{continue_row}
use Rattle.run.proofs.RowLaws.{Whole, may-go-on}
use Rattle.run.proofs.StepLaws.{small-nodes}
use Rattle.unit.specs.declared.StampingUnit.{StampingUnit}
use Rattle.unit.specs.Runs.{outside_run, run_at, left_of, sum_to, sum_of, size_of}
use Rattle.unit.specs.Rows.{runs_row, named_row}
use Rattle.unit.specs.Turns.{Carried}
use Rattle.unit.specs.declared.checks.Lane.{Lane}
use Rattle.unit.specs.Plans.{Planned, outside_lane, lane_at}
use Rattle.unit.proofs.SumLaws.{sum-empty, sum-last}
use Rattle.unit.proofs.RowLaws.{runs_none, Sound, depth-fits}

-- W-208's 21, by its two conditions
module _ (unit : StampingUnit) (name end store : ℕ) where
  pub not-counted : outside 1 max_runs unit.count ≡ true → named_row unit name end store ≡ 21
  unfolding named_row
  not-counted e = rw e

  pub not-among : outside 1 max_runs unit.count ≡ false → outside 1 unit.count name ≡ true → named_row unit name end store ≡ 21
  unfolding named_row
  not-among e f = rw (e, f)

-- an array of lanes that hold what belongs to 1 to i, with one more
one_more :
    (xs : List Lane) (field : Lane → ℕ) (of : ℕ → ℕ) (i : ℕ) (x : Lane) → i < length xs
    → ((j : ℕ) → 1 ≤ j → j ≤ i → field (lane_at xs j) ≡ of j) → field x ≡ of (i + 1)
    → (j : ℕ) → 1 ≤ j → j ≤ i + 1 → field (lane_at (set xs i x) j) ≡ of j
one_more xs field of i x room so_far is j some few =
    ⊎_elim
    (λ (low : j < i + 1).
    ap field (get_or-set_other xs i (j - 1) x outside_lane (λ (e : j - 1 ≡ i). omega arith)) ∙ so_far j some (omega arith))
    (λ (high : i + 1 ≤ j).
    let e : j ≡ i + 1 = omega arith in
    let f : i + 1 - 1 ≡ i = omega arith in
    rw (e, f) (ap field (get_or-set_same xs i x outside_lane room) ∙ is))
    (lt-or-le j (i + 1))

module _ (runs : List Run) (end store : ℕ) where
  -- runs 1 to i may be continued, and this is known of them
  pub record LookedOver (lanes : List Lane) (all at i : ℕ) : Type 0 where
    pub few : i ≤ end
    pub rest : runs_row runs 1 end store ≡ runs_row runs (i + 1) (end - i) (store - at)
    pub place : at ≡ sum_of size_of runs i
    pub inside : at ≤ store
    pub planned : Planned runs i lanes
    pub whole : all ≡ sum_of left_of runs i
    pub small : all ≤ i * 2 ^ 42
    pub places : length lanes ≡ max_runs

  pub none_yet : (lanes : List Lane) → length lanes ≡ max_runs → LookedOver lanes 0 0 0
  none_yet lanes f =
      let e : end - 0 ≡ end = omega arith in
      let s : store - 0 ≡ store = omega arith in
      record {
        few = omega arith;
        rest = rw (e, s);
        place = sym (sum-empty _);
        inside = omega arith;
        planned = record {
          begins = λ (i : ℕ) (some : 1 ≤ i) (none : i ≤ 0). absurd (omega arith);
          remain = λ (i : ℕ) (some : 1 ≤ i) (none : i ≤ 0). absurd (omega arith);
        };
        whole = sym (sum-empty _);
        small = omega arith;
        places = f;
      }

  module _ (lanes : List Lane) (all at i : ℕ) (looked : LookedOver lanes all at i) where
    pub all-looked : end ≤ i → (0 ≡ runs_row runs 1 end store) × Planned runs end lanes × (all ≡ sum_of left_of runs end)
    all-looked none =
        let e : i ≡ end = omega (arith, looked.few) in
        let n : end - i ≡ 0 = omega arith in
        let planned : Planned runs end lanes = rw e at looked.planned in
        let whole : all ≡ sum_of left_of runs end = rw e at looked.whole in
        (sym (looked.rest ∙ rw n (runs_none runs (i + 1) (store - at))), planned, whole)

    module _ (more : i < end) where
      here :
          runs_row runs 1 end store
          ≡ pick (is_done (continue_row (get_or runs i outside_run) (store - at)))
          (runs_row runs (i + 1 + 1) (end - (i + 1)) (store - at - size_of (get_or runs i outside_run)))
          (continue_row (get_or runs i outside_run) (store - at))
      unfolding runs_row
      here =
          let e : end - i ≡ suc (end - (i + 1)) = omega arith in
          let f : i + 1 - 1 ≡ i = omega arith in
          looked.rest ∙ rw (e, f)

      pub stops : is_done (continue_row (get_or runs i outside_run) (store - at)) ≡ false
          → continue_row (get_or runs i outside_run) (store - at) ≡ runs_row runs 1 end store
      stops e = sym (here ∙ rw e)

      pub one_further :
          (nodes size : ℕ) → continue_row (get_or runs i outside_run) (store - at) ≡ 0 → i < max_runs
          → nodes ≡ nodes_in (get_or runs i outside_run).depth → size ≡ size_of (get_or runs i outside_run)
          → LookedOver (set lanes i (record { from = at; left = nodes - (get_or runs i outside_run).made }))
          (all + (nodes - (get_or runs i outside_run).made)) (at + size) (i + 1)
      one_further nodes size done room n m =
          let run : Run = get_or runs i outside_run in
          let whole : Whole run (store - at) = may-go-on run (store - at) done in
          let back : i + 1 - 1 ≡ i = omega arith in
          let begins : at ≡ sum_of size_of runs (i + 1 - 1) = rw back looked.place in
          let remain : nodes - run.made ≡ left_of (get_or runs (i + 1 - 1) outside_run) = rw (back, n) in
          let lane : Lane = record { from = at; left = nodes - run.made } in
          let gone : store - at - size_of run ≡ store - (at + size) = omega (arith, m) in
          let at_size : sum_of size_of runs (i + 1) ≡ sum_of size_of runs i + size_of (get_or runs (i + 1 - 1) outside_run) = sum-last _ i in
          let all-size : sum_of left_of runs (i + 1) ≡ sum_of left_of runs i + left_of (get_or runs (i + 1 - 1) outside_run) = sum-last _ i in
          record {
            few = omega arith;
            rest = here ∙ rw (done, gone);
            place = ap₂ ◌+◌ looked.place (m ∙ ap (λ (k : ℕ). size_of (get_or runs k outside_run)) (sym back)) ∙ sym at_size;
            inside = omega (arith, whole.room, m, looked.inside);
            planned = record {
              begins =
                  one_more lanes (λ (l : Lane). l.from) (λ (j : ℕ). sum_of size_of runs (j - 1)) i lane (omega (arith, looked.places))
                  looked.planned.begins begins;
              remain =
                  one_more lanes (λ (l : Lane). l.left) (λ (j : ℕ). left_of (get_or runs (j - 1) outside_run)) i lane
                  (omega (arith, looked.places)) looked.planned.remain remain;
            };
            whole = ap₂ ◌+◌ looked.whole remain ∙ sym all-size;
            small = omega (arith, looked.small, n, small-nodes run.depth whole.possible.depth);
            places = length-set lanes i lane ∙ looked.places;
          }

-- the labels of all runs fit a number
sum-small : (of : ℕ → ℕ) (k : ℕ) → ((i : ℕ) → 1 ≤ i → i ≤ k → of i ≤ 2 ^ 42) → sum_to of k ≤ k * 2 ^ 42
unfolding sum_to
sum-small of zero small = omega arith
sum-small of (suc k) small = omega (arith, sum-small of k (λ i some few. small i some (omega arith)), small (suc k) (omega arith) (omega arith))

pub all_small : (s : Carried) → Sound s → sum_of left_of s.unit.runs s.unit.count ≤ max_runs * 2 ^ 42
all_small s ok =
    omega (
      arith,
      ok.some.1,
      sum-small (λ i. left_of (run_at s.unit.runs i)) s.unit.count
          (λ i some few.
          omega (
            arith,
            small-nodes (run_at s.unit.runs i).depth (depth-fits s.unit.runs (length s.store) i (ok.each i some few)),
          )),
    )
