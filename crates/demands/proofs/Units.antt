-- W-208, each sentence with its proof.
use mathlib.Core.Path.{◌≡◌, sym, ap, subst, ◌∙◌}
use mathlib.Core.Logic.{◌⊎◌, inl, inr, ⊎_elim}
use Prim.Native.Nat.{ℕ, ◌+◌, ◌≤◌, ◌<◌}
use native.Mathlib.Omega.{arith}
use mathlib.Core.Bool.{true, false}
use mathlib.Core.List.{List}
use lib.ListN.{length, drop}
use borrow.Author.Tests.{ltb-true, lt-ltb, le-ltb}
use Rattle.base.proofs.ChoiceLaws.{true-false}
use Rattle.machine.specs.Machines as machines
use Rattle.machine.proofs.StepLaws.{readings-length}
use Rattle.tree.specs.Walk.{nodes_in}
use Rattle.run.specs.Steps as runs
use Rattle.run.specs.Steps.{stamped}
use Rattle.unit.specs.declared.StampingUnit.{StampingUnit}
use Rattle.unit.specs.Runs.{run_at, left_of, unfinished, sum_of, size_of, store_from}
use Rattle.unit.specs.Rows.{unit_row, place_row}
use Rattle.unit.specs.Turns.{Carried, own_of, next_run, unit_machine, labels_in, advanced, place_offset}
use Rattle.unit.proofs.SumLaws.{sum_to-same}
use Rattle.unit.proofs.RowLaws.{from_next, sound}
use Rattle.unit.proofs.PlaceLaws.{place-offset, place-length, place-before, no-offset, no_length, first-place, place_inside, each-place, place-part}
use Rattle.unit.proofs.TurnLaws.{next-some, unit-goes}
use Rattle.unit_theory.specs.Served.{served_over, times, called}
use Rattle.unit_theory.proofs.AloneCalls.{turns_made, report-is, served-is, still-served, sum_over, blocks-over, name-over, kept-over}
use Rattle.unit_theory.proofs.AloneCalls.{alone-labels, alone-call, made-over, finished-over, finished-kept, ends-over, ends-alone}
use Rattle.unit_theory.proofs.Turns as turns
use Rattle.demands.specs.Demand1.{CarriedOut}
use Rattle.demands.specs.Units.{NotRefused, IsRun, Unfinished, all_left, PassedOn, InTurn, AsAlone, UnitCalls, WaitsAtMost7}
use Rattle.demands.specs.Units.{EqualShares, NeverServed, StorePlaces, OwnPart, Units}
use Rattle.demands.proofs.Carrying.{carried-out}
use Rattle.demands.proofs.Serving.{naming-run}

-- ---- where the stores lie
pub store-places : (unit : StampingUnit) (store : ℕ) → StorePlaces unit store
store-places unit store =
    record {
      row = λ i. naming-run unit i i store;
      first = omega (arith, first-place unit store);
      next =
          λ i some e.
          let before : place_row unit i store ≡ 0 = place-before unit store (i + 1) e i some (omega arith) in
          omega (
            arith,
            place-offset unit store (i + 1) e,
            place-offset unit store i before,
            place-length unit store i before,
            from_next unit.runs i some,
          );
      size = λ i e. omega (arith, place-length unit store i e);
      inside = λ i. omega (arith, place_inside unit store i);
      none = λ i some. (omega (arith, no-offset unit store i some), omega (arith, no_length unit store i some));
      each = each-place unit store;
    }

pub own-part : (s : Carried) (i : ℕ) → NotRefused s → IsRun s i → OwnPart s i
own-part s i e among =
    ap (stamped (run_at s.unit.runs i)) (place-part s.unit s.store i (each-place s.unit (length s.store) e i among))

-- ---- what remains, and whose turn it is
all_left_lem : (s : Carried) → sum_of left_of s.unit.runs s.unit.count ≡ all_left s
unfolding nodes_in
all_left_lem s = sum_to-same _ _ s.unit.count (λ i some few. omega arith)

pub unit_ends : (s : Carried) → NotRefused s → CarriedOut (λ t. unit_row t.unit (length t.store)) labels_in advanced s (all_left s)
unfolding unit_machine
unit_ends s e =
    subst (λ (all : ℕ). CarriedOut (λ t. unit_row t.unit (length t.store)) labels_in advanced s all)
    (all_left_lem s) (carried-out unit_machine s _ (unit-goes s e))

-- a run is unfinished just where its test says so
still-unfinished : (s : Carried) (i : ℕ) → Unfinished s i → unfinished (run_at s.unit.runs i) ≡ true
unfolding nodes_in
still-unfinished s i un = lt-ltb 0 (left_of (run_at s.unit.runs i)) (omega (arith, un))

is-going : (s : Carried) (i : ℕ) → unfinished (run_at s.unit.runs i) ≡ true → Unfinished s i
unfolding nodes_in
is-going s i e = omega (arith, ltb-true 0 (left_of (run_at s.unit.runs i)) e)

is-finished : (s : Carried) (i : ℕ) → (Unfinished s i → ⊥) → unfinished (run_at s.unit.runs i) ≡ false
unfolding nodes_in
is-finished s i finished = le-ltb 0 (left_of (run_at s.unit.runs i)) (omega (arith, finished))

-- the runs between two, in turn
between : {last next j : ℕ} → PassedOn last next j → ((last < j) × (j < next)) ⊎ ((next ≤ last) × ((last < j) ⊎ (j < next)))
between passed =
    ⊎_elim
    (λ on. inl (omega (arith, on.0), omega (arith, on.1)))
    (λ around. inr (omega (arith, around.0), ⊎_elim (λ after. inl (omega (arith, after))) (λ before. inr (omega (arith, before))) around.1))
    passed

pub in-turn : (s : Carried) → NotRefused s → InTurn s
in-turn s e =
    record {
      some = λ more. (next-some s (sound s e) (omega (arith, all_left_lem s, more))).0.0;
      served = λ found. let (among, un, passes) = turns.in-turn s e found in (among, is-going s (next_run s.unit) un);
      passed_over =
          λ j found among passed un.
          let (next, goes, passes) = turns.in-turn s e found in
          true-false (unfinished (run_at s.unit.runs j)) (still-unfinished s j un) (passes j among.0 among.1 (between passed));
    }

-- ---- calls with budgets
module _ (s : Carried) (budgets : List ℕ) (e : NotRefused s) where
  module _ (i : ℕ) (among : IsRun s i) where
    own-blocks : runs.blocks_in (own_of s i) (times i (served_over s budgets)) ≡ runs.blocks_over (times i (served_over s budgets)) (own_of s i)
    unfolding machines.cost_in
    own-blocks = ap (λ (k : ℕ). runs.blocks_over k (own_of s i)) (alone-labels s e budgets i among)

    same_place : place_offset (called s budgets).unit i (length s.store) ≡ place_offset s.unit i (length s.store)
    same_place =
        let (count, from, size, beyond, room, behind) = kept-over s e budgets in
        let done : unit_row (called s budgets).unit (length s.store) ≡ 0 = rw room at (still-served s e budgets) in
        place-offset (called s budgets).unit (length s.store) i
        (each-place (called s budgets).unit (length s.store) done i (among.0, omega (arith, among.1, count)))
        ∙ from i
        ∙ sym (place-offset s.unit (length s.store) i (each-place s.unit (length s.store) e i among))

    as-alone : AsAlone s budgets i
    unfolding nodes_in
    as-alone =
        record {
          same = alone-call s e budgets i among;
          labels = alone-labels s e budgets i among;
          made = made-over s e budgets i among;
          place = same_place;
          ends = λ finished own fits. ends-alone s e budgets i among (omega (arith, finished)) own (omega (arith, fits));
          finishes = λ enough un. omega (arith, un, ends-over s e budgets i among (omega (arith, enough, all_left_lem s)));
        }

  -- the stores end where that of one run more would begin
  stores-end : store_from s.unit.runs (s.unit.count + 1) ≡ sum_of size_of s.unit.runs s.unit.count
  stores-end = ap (sum_of size_of s.unit.runs) (omega arith)

  pub unit-calls : UnitCalls s budgets
  unit-calls =
      let (count, from, size, beyond, room, behind) = kept-over s e budgets in
      record {
        as_alone = as-alone;
        beyond = beyond;
        behind =
            subst (λ (end : ℕ). drop end (called s budgets).store ≡ drop end s.store)
            (stores-end ∙ sum_to-same _ _ s.unit.count (λ i some few. omega arith)) behind;
        room = room;
        number = count;
        name = name-over s e budgets;
        labels = sum_over s e budgets;
        names =
            omega (
              arith,
              ap length (served-is s e budgets),
              readings-length unit_machine (λ t. next_run t.unit) (turns_made s budgets) s,
              report-is s e budgets,
            );
        blocks =
            sum_to-same _ _ s.unit.count (λ i some few. own-blocks i (some, few))
            ∙ sym (blocks-over s e budgets);
      }

  pub waits-at-most-7 : WaitsAtMost7 s budgets
  waits-at-most-7 =
      record {
        between = λ a b less few same none. omega (arith, turns.between-served s e budgets a b less few same none);
        soon = λ i among un enough. turns.soon-served s e i among (still-unfinished s i un) budgets (omega (arith, enough));
      }

  pub never-served : (i : ℕ) → IsRun s i → (Unfinished s i → ⊥) → NeverServed s budgets i
  never-served i among finished =
      record {
        none = omega (arith, finished-over s e budgets i among (is-finished s i finished));
        same = finished-kept s e budgets i among (is-finished s i finished);
      }

-- ---- equal shares in one call
pub equal-shares : (s : Carried) (budget : ℕ) → NotRefused s → EqualShares s budget
equal-shares s budget e none i j of_i of_j un_i un_j =
    omega (
      arith,
      turns.fair-call s e budget (λ k among un. still-unfinished (advanced s budget) k (none k among (is-going s k un))) i j of_i of_j
          (still-unfinished s i un_i) (still-unfinished s j un_j),
    )

pub units : Units
units =
    record {
      carried_out = unit_ends;
      in_turn = in-turn;
      calls = unit-calls;
      waits = waits-at-most-7;
      equal_shares = equal-shares;
      never_served = λ s budgets i e among finished. never-served s budgets e i among finished;
      places = store-places;
      own_part = own-part;
    }
