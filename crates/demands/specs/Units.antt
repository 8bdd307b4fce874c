-- W-208, 'One unit, several surveyors', sentence by sentence. Its row and what a refused call leaves as it is stand with the others in Demand1.
use Rattle.std.specs.Prelude.{◌≡◌, ◌⊎◌, ℕ, ◌+◌, ◌-◌, ◌*◌, ◌^◌, ◌≤◌, ◌<◌, List, length, get_or, take, drop}
use Rattle.machine.specs.Calls.{total}
use Rattle.run.specs.declared.Run.{Run}
use Rattle.run.specs.Steps as runs
use Rattle.run_theory.specs.Runs as alone
use Rattle.unit.specs.declared.StampingUnit.{StampingUnit}
use Rattle.unit.specs.Runs.{run_at, sum_to}
use Rattle.unit.specs.Rows.{unit_row, place_row}
use Rattle.unit.specs.Turns.{Carried, own_of, next_run, labels_in, advanced, place_offset, place_length}
use Rattle.unit_theory.specs.Served.{served_in, served_over, times, last_named, called, reported, reported_blocks}
use Rattle.demands.specs.Rows.{IsFirst, asking_place}
use Rattle.demands.specs.Demand1.{CarriedOut}

-- a unit and its slice that a call does not refuse
abbrev pub NotRefused : Carried → Type 0
NotRefused s = unit_row s.unit (length s.store) ≡ 0

-- run i is one of the unit's
abbrev pub IsRun : Carried → ℕ → Type 0
IsRun s i = (1 ≤ i) × (i ≤ s.unit.count)

-- the labels that remain of a run, and of run i whether any does
abbrev pub labels_left : Run → ℕ
labels_left run = 2 ^ (run.depth + 1) - 1 - run.made

abbrev pub Unfinished : Carried → ℕ → Type 0
Unfinished s i = (run_at s.unit.runs i).made < 2 ^ ((run_at s.unit.runs i).depth + 1) - 1

-- the labels that remain of all runs
abbrev pub all_left : Carried → ℕ
all_left s = sum_to (λ i. labels_left (run_at s.unit.runs i)) s.unit.count

-- ---- 'in turn, beginning after the run named as served last'; 'finished runs are passed over'
-- run j comes before `next` when the runs are gone through in turn from the one after `last` on; after the highest comes run 1
abbrev pub PassedOn : ℕ → ℕ → ℕ → Type 0
PassedOn last next j = ((last < j) × (j < next)) ⊎ ((next ≤ last) × ((last < j) ⊎ (j < next)))

pub record InTurn (s : Carried) : Type 0 where
  pub some : 1 ≤ all_left s → 1 ≤ next_run s.unit
  pub served : 1 ≤ next_run s.unit → IsRun s (next_run s.unit) × Unfinished s (next_run s.unit)
  pub passed_over :
      (j : ℕ) → 1 ≤ next_run s.unit → IsRun s j → PassedOn s.unit.last (next_run s.unit) j → Unfinished s j → ⊥

-- ---- 'Each run's root and store are those it would have alone; only how far it has come depends on its neighbours.'
-- Run i with its part of the slice, after calls with these budgets: what the run alone would be after the labels that it got, all of which
-- it makes.
pub record AsAlone (s : Carried) (budgets : List ℕ) (i : ℕ) : Type 0 where
  pub same : own_of (called s budgets) i ≡ runs.advanced (own_of s i) (times i (served_over s budgets))
  pub labels : runs.labels_in (own_of s i) (times i (served_over s budgets)) ≡ times i (served_over s budgets)
  pub made : (run_at (called s budgets).unit.runs i).made ≡ (run_at s.unit.runs i).made + times i (served_over s budgets)
  -- its part lies where it lay
  pub place : place_offset (called s budgets).unit i (length s.store) ≡ place_offset s.unit i (length s.store)
  -- when it is finished it is what the run alone is at its end, and budgets that suffice for all runs finish it
  pub ends :
      (Unfinished (called s budgets) i → ⊥) → (own : List ℕ) → labels_left (run_at s.unit.runs i) ≤ total own
      → own_of (called s budgets) i ≡ alone.called (own_of s i) own
  pub finishes : all_left s ≤ total budgets → Unfinished (called s budgets) i → ⊥

pub record UnitCalls (s : Carried) (budgets : List ℕ) : Type 0 where
  pub as_alone : (i : ℕ) → IsRun s i → AsAlone s budgets i
  -- runs beyond the number and bytes behind the last store are untouched
  pub beyond : (i : ℕ) → s.unit.count < i → run_at (called s budgets).unit.runs i ≡ run_at s.unit.runs i
  pub behind :
      let end : ℕ = sum_to (λ i. 32 * (2 ^ ((run_at s.unit.runs i).memory + 1) - 1)) s.unit.count in
      drop end (called s budgets).store ≡ drop end s.store
  pub room : length (called s budgets).store ≡ length s.store
  pub number : (called s budgets).unit.count ≡ s.unit.count
  -- 'the call hands back that name as it now is'
  pub name : (called s budgets).unit.last ≡ last_named s.unit.last (served_over s budgets)
  -- the labels add up, and so do the blocks beside them
  pub labels : sum_to (λ i. times i (served_over s budgets)) s.unit.count ≡ reported s budgets
  pub names : length (served_over s budgets) ≡ reported s budgets
  pub blocks :
      sum_to (λ i. runs.blocks_in (own_of s i) (times i (served_over s budgets))) s.unit.count ≡ reported_blocks s budgets

-- ---- 'Between two labels of an unfinished run the others together make at most 7 while that name and the runs are handed on as handed back.'
-- within a call and across calls: labels a and b of those that the calls make are one run's, and none between them is
pub record WaitsAtMost7 (s : Carried) (budgets : List ℕ) : Type 0 where
  pub between :
      (a b : ℕ) → a < b → b < length (served_over s budgets) → get_or (served_over s budgets) a 0 ≡ get_or (served_over s budgets) b 0
      → ((c : ℕ) → a < c → c < b → get_or (served_over s budgets) c 0 ≡ get_or (served_over s budgets) a 0 → ⊥)
      → b - a - 1 ≤ 7
  -- nor does it wait longer for its first: it is among the next 8
  pub soon : (i : ℕ) → IsRun s i → Unfinished s i → 8 ≤ total budgets → 1 ≤ times i (take 8 (served_over s budgets))

-- ---- 'If no run finishes in a call, the numbers of labels got by those unfinished at its start differ by at most one.'
abbrev pub NoneFinishes : Carried → ℕ → Type 0
NoneFinishes s budget = (i : ℕ) → IsRun s i → Unfinished s i → Unfinished (advanced s budget) i

abbrev pub EqualShares : Carried → ℕ → Type 0
EqualShares s budget =
    NoneFinishes s budget
    → (i j : ℕ) → IsRun s i → IsRun s j → Unfinished s i → Unfinished s j
    → times i (served_in s budget) ≤ times j (served_in s budget) + 1

-- a finished run is never served
pub record NeverServed (s : Carried) (budgets : List ℕ) (i : ℕ) : Type 0 where
  pub none : times i (served_over s budgets) ≡ 0
  pub same : own_of (called s budgets) i ≡ own_of s i

-- ---- 'their stores end to end in one lent slice': where they lie, over a slice of so many bytes
pub record StorePlaces (unit : StampingUnit) (store : ℕ) : Type 0 where
  -- a run has one if the unit has that run, and neither it nor one before it is refused
  pub row : (i : ℕ) → IsFirst (asking_place unit i store) (place_row unit i store)
  pub first : place_offset unit 1 store ≡ 0
  pub next :
      (i : ℕ) → 1 ≤ i → place_row unit (i + 1) store ≡ 0
      → place_offset unit (i + 1) store ≡ place_offset unit i store + place_length unit i store
  pub size : (i : ℕ) → place_row unit i store ≡ 0 → place_length unit i store ≡ 32 * (2 ^ ((run_at unit.runs i).memory + 1) - 1)
  pub inside : (i : ℕ) → place_offset unit i store + place_length unit i store ≤ store
  -- '0 and 0 if there is none'
  pub none : (i : ℕ) → 1 ≤ place_row unit i store → (place_offset unit i store ≡ 0) × (place_length unit i store ≡ 0)
  -- a run of a unit that is not refused has one
  pub each : unit_row unit store ≡ 0 → (i : ℕ) → (1 ≤ i) × (i ≤ unit.count) → place_row unit i store ≡ 0

-- run i with its part is what lies there
abbrev pub OwnPart : Carried → ℕ → Type 0
OwnPart s i =
    own_of s i
    ≡ runs.stamped (run_at s.unit.runs i)
    (take (place_length s.unit i (length s.store)) (drop (place_offset s.unit i (length s.store)) s.store))

-- ---- the request: of every unit and slice that a call does not refuse, whatever bytes they hold, and every cut of budgets
pub record Units : Type 0 where
  -- 'The number of labels made is the smaller of the budget and all that remain', and no later call is refused
  pub carried_out : (s : Carried) → NotRefused s → CarriedOut (λ t. unit_row t.unit (length t.store)) labels_in advanced s (all_left s)
  pub in_turn : (s : Carried) → NotRefused s → InTurn s
  pub calls : (s : Carried) (budgets : List ℕ) → NotRefused s → UnitCalls s budgets
  pub waits : (s : Carried) (budgets : List ℕ) → NotRefused s → WaitsAtMost7 s budgets
  pub equal_shares : (s : Carried) (budget : ℕ) → NotRefused s → EqualShares s budget
  pub never_served :
      (s : Carried) (budgets : List ℕ) (i : ℕ) → NotRefused s → IsRun s i → (Unfinished s i → ⊥) → NeverServed s budgets i
  pub places : (unit : StampingUnit) (store : ℕ) → StorePlaces unit store
  pub own_part : (s : Carried) (i : ℕ) → NotRefused s → IsRun s i → OwnPart s i
