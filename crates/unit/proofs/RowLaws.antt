-- W-208's row of a unit: what it tells of the runs where it refuses none.
use mathlib.Core.Path.{◌≡◌, refl, ap, subst, ◌∙◌}
use mathlib.Core.Logic.{◌⊎◌, inl, inr}
use mathlib.Core.List.{List}
use Prim.Native.Nat.{ℕ, zero, suc, ◌+◌, ◌-◌, ◌≤◌, ◌<◌}
use native.Mathlib.Numerals.{add-one}
use native.Mathlib.Omega.{arith}
use lib.Dec.{lit≤}
use lib.Pow.{pow_pos}
use lib.ListN.{length, get_or-eq_default}
use Rattle.base.specs.Choice.{pick}
use Rattle.base.specs.Limits.{max_runs, max_depth, max_memory}
use Rattle.base.specs.Row.{outside, either, is_done}
use Rattle.base.proofs.ChoiceLaws.{lt-or-le}
use Rattle.base.proofs.Ranges.{within, range-of, neither}
use Rattle.base.proofs.RowLaws.{passed}
use Rattle.base.proofs.Parts.{part_length}
use Rattle.tree.specs.Store.{store_size}
use Rattle.run.specs.declared.Run.{Run}
use Rattle.run.specs.Rows.{continue_row}
use Rattle.run.proofs.RowLaws.{Whole, may-go-on}
use Rattle.run_theory.proofs.GoesOn.{goes-possible, not-refused}
use Rattle.unit.specs.declared.StampingUnit.{StampingUnit}
use Rattle.unit.specs.Runs.{run_at, size_of, store_from, sum_to, outside_run}
use Rattle.unit.specs.Rows.{runs_row, named_row, unit_row}
use Rattle.unit.specs.Turns.{Carried, own_of}
use Rattle.unit.proofs.SumLaws.{sum-next}

-- where run i + 1's store begins
pub from_next : (runs : List Run) (i : ℕ) → 1 ≤ i → store_from runs (i + 1) ≡ store_from runs i + size_of (run_at runs i)
from_next runs i some =
    let e : i + 1 - 1 ≡ i = omega arith in
    rw e (sum-next (λ j. size_of (run_at runs j)) i some)

-- ---- the runs in order, by the first of them
module _ (runs : List Run) (i more left : ℕ) where
  pub runs-pass : continue_row (run_at runs i) left ≡ 0 → runs_row runs i (suc more) left ≡ runs_row runs (i + 1) more (left - size_of (run_at runs i))
  unfolding runs_row
  runs-pass e = rw e

  both-done : (row rest : ℕ) → pick (is_done row) rest row ≡ 0 → (row ≡ 0) × (rest ≡ 0)
  both-done zero rest e = (refl, e)
  both-done (suc row) rest e = absurd (omega arith)

  pub runs_done : runs_row runs i (suc more) left ≡ 0
      → (continue_row (run_at runs i) left ≡ 0) × (runs_row runs (i + 1) more (left - size_of (run_at runs i)) ≡ 0)
  unfolding runs_row
  runs_done e = both-done (continue_row (run_at runs i) left) (runs_row runs (i + 1) more (left - size_of (run_at runs i))) e

pub runs_none : (runs : List Run) (i left : ℕ) → runs_row runs i 0 left ≡ 0
unfolding runs_row
runs_none runs i left = refl

-- ---- each of the runs, over a slice of so many bytes
abbrev pub RunGoes : List Run → ℕ → ℕ → Type 0
RunGoes runs store i = continue_row (run_at runs i) (store - store_from runs i) ≡ 0

module _ (runs : List Run) (store : ℕ) where
  rest-after : (i : ℕ) → 1 ≤ i → store - store_from runs i - size_of (run_at runs i) ≡ store - store_from runs (i + 1)
  rest-after i some = omega (arith, from_next runs i some)

  each_from : (more i : ℕ) → 1 ≤ i → runs_row runs i more (store - store_from runs i) ≡ 0
      → (j : ℕ) → i ≤ j → j < i + more → RunGoes runs store j
  each_from zero i some e j from few = absurd (omega arith)
  each_from (suc more) i some e j from few =
      let (here, rest) = runs_done runs i more (store - store_from runs i) e in
      cases here (lt-or-le i j) (λ behind. each_from more (i + 1) (omega arith) (rw (rest-after i some) at rest) j (omega arith) (omega arith))
    where
      cases : RunGoes runs store i → (i < j) ⊎ (j ≤ i) → (i < j → RunGoes runs store j) → RunGoes runs store j
      cases here (inl behind) later = later behind
      cases here (inr same) later = let e : i ≡ j = omega arith in subst (λ k. RunGoes runs store k) e here

  row_from : (more i : ℕ) → 1 ≤ i → ((j : ℕ) → i ≤ j → j < i + more → RunGoes runs store j)
      → runs_row runs i more (store - store_from runs i) ≡ 0
  row_from zero i some each = runs_none runs i (store - store_from runs i)
  row_from (suc more) i some each =
      runs-pass runs i more (store - store_from runs i) (each i (omega arith) (omega arith))
      ∙ ap (runs_row runs (i + 1) more) (rest-after i some)
      ∙ row_from more (i + 1) (omega arith) (λ j from few. each j (omega arith) (omega arith))

  at_first : store - store_from runs 1 ≡ store
  unfolding sum_to
  at_first = omega arith

  -- runs 1 to `end`
  pub runs-each : (end : ℕ) → runs_row runs 1 end store ≡ 0 → (i : ℕ) → 1 ≤ i → i ≤ end → RunGoes runs store i
  runs-each end e i some few = each_from end 1 (omega arith) (rw at_first e) i some (omega arith)

  pub each-runs : (end : ℕ) → ((i : ℕ) → 1 ≤ i → i ≤ end → RunGoes runs store i) → runs_row runs 1 end store ≡ 0
  each-runs end each = rw at_first at (row_from end 1 (omega arith) (λ j from few. each j from (omega arith)))

-- ---- 21, then the runs
module _ (unit : StampingUnit) (name end store : ℕ) where
  pub named-done : named_row unit name end store ≡ 0
      → ((1 ≤ unit.count) × (unit.count ≤ max_runs)) × ((1 ≤ name) × (name ≤ unit.count))
      × ((i : ℕ) → 1 ≤ i → i ≤ end → RunGoes unit.runs store i)
  unfolding named_row
  named-done e =
      let (a, f) = passed (either (outside 1 max_runs unit.count) (outside 1 unit.count name)) 21 (runs_row unit.runs 1 end store) (lit≤ tt) e in
      let (b, c) = neither (outside 1 max_runs unit.count) (outside 1 unit.count name) a in
      (range-of 1 max_runs unit.count b, range-of 1 unit.count name c, runs-each unit.runs store end f)

  pub named-runs : (1 ≤ unit.count) × (unit.count ≤ max_runs) → (1 ≤ name) × (name ≤ unit.count)
      → named_row unit name end store ≡ runs_row unit.runs 1 end store
  unfolding named_row
  named-runs some among = rw (within 1 max_runs unit.count some, within 1 unit.count name among)

  pub named-row : (1 ≤ unit.count) × (unit.count ≤ max_runs) → (1 ≤ name) × (name ≤ unit.count)
      → ((i : ℕ) → 1 ≤ i → i ≤ end → RunGoes unit.runs store i) → named_row unit name end store ≡ 0
  named-row some among each = named-runs some among ∙ each-runs unit.runs store end each

-- ---- a unit that no call refuses
pub record Sound (s : Carried) : Type 0 where
  pub some : (1 ≤ s.unit.count) × (s.unit.count ≤ max_runs)
  pub named : (1 ≤ s.unit.last) × (s.unit.last ≤ s.unit.count)
  pub each : (i : ℕ) → 1 ≤ i → i ≤ s.unit.count → continue_row (run_at s.unit.runs i) (length s.store - store_from s.unit.runs i) ≡ 0

pub sound : (s : Carried) → unit_row s.unit (length s.store) ≡ 0 → Sound s
sound s e =
    let (some, named, each) = named-done s.unit s.unit.last s.unit.count (length s.store) e in
    record { some = some; named = named; each = each }

pub sound-row : (s : Carried) → Sound s → unit_row s.unit (length s.store) ≡ 0
sound-row s ok = named-row s.unit s.unit.last s.unit.count (length s.store) ok.some ok.named ok.each

-- ---- what is known of one run of it
pub store-some : (m : ℕ) → 32 ≤ store_size m
store-some m = rw (add-one m) (omega (arith, pow_pos m))

module _ (runs : List Run) (store i : ℕ) (goes : RunGoes runs store i) where
  whole : Whole (run_at runs i) (store - store_from runs i)
  whole = may-go-on (run_at runs i) (store - store_from runs i) goes

  pub depth-fits : (run_at runs i).depth ≤ max_depth
  depth-fits = whole.possible.depth

  pub memory-fits : (run_at runs i).memory ≤ max_memory
  memory-fits = whole.possible.memory

  -- its store lies in the slice
  pub fits : store_from runs i + size_of (run_at runs i) ≤ store
  fits = omega (arith, whole.room, store-some (run_at runs i).memory)

  -- it is in the array: what a read outside gives is refused
  pub present : i - 1 < length runs
  present = cases (lt-or-le (i - 1) (length runs))
    where
      cases : (i - 1 < length runs) ⊎ (length runs ≤ i - 1) → i - 1 < length runs
      cases (inl here) = here
      cases (inr beyond) =
          let e : (run_at runs i).edition ≡ 0 = ap (λ (r : Run). r.edition) (get_or-eq_default runs outside_run beyond) in
          absurd (omega (arith, whole.possible.exists.0))

module _ (s : Carried) (i : ℕ) (goes : RunGoes s.unit.runs (length s.store) i) where
  pub own-length : length (own_of s i).store ≡ size_of (run_at s.unit.runs i)
  own-length = part_length s.store (store_from s.unit.runs i) _ (fits s.unit.runs (length s.store) i goes)

  pub own-goes : continue_row (own_of s i).run (length (own_of s i).store) ≡ 0
  own-goes =
      not-refused (run_at s.unit.runs i) (length (own_of s i).store)
      (goes-possible (run_at s.unit.runs i) (length s.store - store_from s.unit.runs i) goes)
      (omega (arith, own-length))
