-- W-208: the turns of a unit that no call refuses are turns taken in order, and what follows of the labels that its runs get in calls with any budgets.
use mathlib.Core.Path.{◌≡◌, refl, sym, ap, subst, ◌∙◌}
use mathlib.Core.Logic.{◌⊎◌, inl, inr}
use mathlib.Core.Bool.{Bool, true, false}
use mathlib.Core.List.{List, [], ◌∷◌}
use Prim.Native.Nat.{ℕ, zero, suc, ◌+◌, ◌-◌, ◌≤◌, ◌<◌, min}
use native.Mathlib.Numerals.{add-one}
use native.Mathlib.Omega.{arith}
use lib.Dec.{eqb}
use lib.ListN.{length, get_or, take, get_or-append}
use lib.Seq.{get_or_at}
use borrow.Author.Tests.{le-ltb, eqb-true, eqb-false}
use Rattle.base.specs.Choice.{pick}
use Rattle.base.specs.Limits.{max_runs}
use Rattle.base.proofs.ChoiceLaws.{lt-or-le}
use Rattle.machine.specs.Machines as machines
use Rattle.machine.specs.Machines.{readings, read_in}
use Rattle.machine.specs.Calls.{total}
use Rattle.machine.proofs.StepLaws.{no_step, step-last, steps-keep, readings-length, done-some}
use Rattle.machine.proofs.CallLaws.{calls-read}
use Rattle.unit.specs.Runs.{run_at, left_of, unfinished}
use Rattle.unit.specs.Rows.{unit_row}
use Rattle.unit.specs.Turns.{Carried, first_after, next_run, served, turned, unit_machine, turns, advanced, labels_in}
use Rattle.unit.proofs.SumLaws.{term_fits}
use Rattle.unit.proofs.NextLaws.{apart, apart-less, apart-back, first_holds, first-nearest}
use Rattle.unit.proofs.RowLaws.{Sound, sound}
use Rattle.unit.proofs.TurnLaws.{all_left, reached, sound-after, unit-goes, next-some, turned-is, served-other}
use Rattle.unit_theory.specs.Schedules.{TakesTurns, taken}
use Rattle.unit_theory.specs.Served.{served_by, served_in, served_over, times}
use Rattle.unit_theory.proofs.Schedule as schedule
use Rattle.unit_theory.proofs.NameLaws.{times-append, times-one, times-some}

-- the number of runs stays as it is
pub turned-count : (t : Carried) → (turned t).unit.count ≡ t.unit.count
unfolding turned served
turned-count t = go (eqb (next_run t.unit) 0)
  where
    go : (b : Bool) → (pick b t (served (next_run t.unit) t)).unit.count ≡ t.unit.count
    go true = refl
    go false = refl

pub count_kept : (k : ℕ) (s : Carried) → (turns k s).unit.count ≡ s.unit.count
unfolding unit_machine
count_kept k s = steps-keep unit_machine (λ t. t.unit.count) turned-count k s

-- what lies in the circle between one and another is nearer to the one than the other
between-nearer :
    (count from to j : ℕ) → from ≤ count → 1 ≤ to → j ≤ count → ((from < j) × (j < to)) ⊎ ((to ≤ from) × ((from < j) ⊎ (j < to)))
    → apart count from j < apart count from to
between-nearer count from to j few some most (inl (after, before)) =
    omega (arith, after, before, apart-less count from j after, apart-less count from to (omega arith))
between-nearer count from to j few some most (inr (back, inl after)) =
    omega (arith, after, back, few, some, most, apart-less count from j after, apart-back count from to back)
between-nearer count from to j few some most (inr (back, inr before)) =
    omega (arith, before, back, few, apart-back count from j (omega arith), apart-back count from to back)

module _ (s : Carried) (row : unit_row s.unit (length s.store) ≡ 0) where
  abbrev count : ℕ
  count = s.unit.count

  abbrev all : ℕ
  all = all_left s

  abbrev last : ℕ → ℕ
  last k = (turns k s).unit.last

  abbrev going : ℕ → ℕ → Bool
  going k i = unfinished (run_at (turns k s).unit.runs i)

  still : (k : ℕ) → k ≤ all → Sound (turns k s)
  still k few = sound-after s (sound s row) k few

  more : (k : ℕ) → k < all → 0 < all_left (turns k s)
  more k few = omega (arith, few, (reached s (sound s row) k (omega arith)).left)

  -- ---- one turn
  turn_is : (k : ℕ) → k < all → turns (k + 1) s ≡ served (next_run (turns k s).unit) (turns k s)
  unfolding unit_machine
  turn_is k few = step-last unit_machine k s ∙ turned-is (turns k s) (still k (omega arith)) (more k few)

  served-last : (i : ℕ) (t : Carried) → (served i t).unit.last ≡ i
  unfolding served
  served-last i t = refl

  last-next : (k : ℕ) → k < all → last (k + 1) ≡ next_run (turns k s).unit
  last-next k few = ap (λ (t : Carried). t.unit.last) (turn_is k few) ∙ served-last (next_run (turns k s).unit) (turns k s)

  next-first : (k : ℕ) → k < all → last (k + 1) ≡ first_after (going k) count count (last k)
  unfolding next_run
  next-first k few = last-next k few ∙ ap (λ (c : ℕ). first_after (going k) c c (last k)) (count_kept k s)

  others_same : (k i : ℕ) → k < all → (1 ≤ i) × (i ≤ count) → (i ≡ last (k + 1) → ⊥) → going (k + 1) i ≡ going k i
  others_same k i few of_i other =
      let (among, un) = next-some (turns k s) (still k (omega arith)) (more k few) in
      ap (λ (t : Carried). unfinished (run_at t.unit.runs i)) (turn_is k few)
      ∙ ap unfinished
      (served-other (turns k s) (still k (omega arith)) (next_run (turns k s).unit) among un i of_i.0
      (λ (e : i ≡ next_run (turns k s).unit). other (e ∙ sym (last-next k few))))

  stays-going : (k i : ℕ) → k < all → (1 ≤ i) × (i ≤ count) → going (k + 1) i ≡ true → going k i ≡ true
  stays-going k i few of_i goes = go (eqb i (last (k + 1))) refl
    where
      go : (t : Bool) → eqb i (last (k + 1)) ≡ t → going k i ≡ true
      go true e =
          ap (going k) (eqb-true i (last (k + 1)) e ∙ last-next k few)
          ∙ (next-some (turns k s) (still k (omega arith)) (more k few)).1
      go false e = sym (others_same k i few of_i (eqb-false i (last (k + 1)) e)) ∙ goes

  all_finished : (i : ℕ) → (1 ≤ i) × (i ≤ count) → going all i ≡ false
  all_finished i of_i =
      le-ltb 0 (left_of (run_at (turns all s).unit.runs i))
      (omega (
        arith,
        (reached s (sound s row) all (omega arith)).left,
        term_fits (λ j. left_of (run_at (turns all s).unit.runs j)) (turns all s).unit.count i of_i.0
            (omega (arith, of_i.1, count_kept all s)),
      ))

  pub unit-turns :
      TakesTurns s.unit.count (all_left s) (λ k. (turns k s).unit.last) (λ k i. unfinished (run_at (turns k s).unit.runs i))
  unit-turns =
      record {
        begins = rw (no_step unit_machine s) (sound s row).named;
        next = next-first;
        found = λ k few. omega (arith, last-next k few, (next-some (turns k s) (still k (omega arith)) (more k few)).0.0);
        others = others_same;
        stays = stays-going;
        ends = all_finished;
      }

  -- ---- the names in the order of the labels
  served-length : (k : ℕ) → length (served_by k s) ≡ k
  served-length k = readings-length unit_machine (λ t. next_run t.unit) k s

  pub served-at : (k : ℕ) → k ≤ all → (j : ℕ) → j < k → get_or (served_by k s) j 0 ≡ last (j + 1)
  unfolding readings
  served-at zero few j less = absurd (omega arith)
  served-at (suc k) few j less = go (lt-or-le j k) (served-at k (omega arith) j)
    where
      go : (j < k) ⊎ (k ≤ j) → (j < k → get_or (served_by k s) j 0 ≡ last (j + 1)) → get_or (served_by (suc k) s) j 0 ≡ last (j + 1)
      go (inl before) rest =
          get_or-append (served_by k s) (next_run (turns k s).unit ∷ []) 0 j (omega (arith, before, served-length k)) ∙ rest before
      go (inr behind) rest =
          let e : k ≡ j = omega arith in
          get_or_at (served_by k s) (next_run (turns k s).unit) [] 0 j (served-length k ∙ e)
          ∙ sym (last-next k few) ∙ ap (λ m. last (m + 1)) e

  pub taken-times : (i k : ℕ) → k ≤ all → taken last i k ≡ times i (served_by k s)
  unfolding taken readings
  taken-times i zero few = unfold times in refl
  taken-times i (suc k) few =
      let e : last (suc k) ≡ next_run (turns k s).unit = ap last (sym (add-one k)) ∙ last-next k few in
      omega (
        arith,
        taken-times i k (omega arith),
        times-append i (served_by k s) (next_run (turns k s).unit ∷ []),
        times-one i (next_run (turns k s).unit),
        ap {B = ℕ} (λ (m : ℕ). pick (eqb m i) 1 0) e,
      )

  -- of calls with any budgets
  pub served-over : (budgets : List ℕ) → served_over s budgets ≡ served_by (min (total budgets) all) s
  served-over budgets = calls-read unit_machine s all (unit-goes s row) (λ t. next_run t.unit) budgets

  labels-are : (budget : ℕ) → labels_in s budget ≡ min budget all
  unfolding unit_machine
  labels-are budget = done-some unit_machine s budget row

  -- ---- what the request says of them
  -- an unfinished run gets one of the next 8 labels
  pub soon-served :
      (i : ℕ) → (1 ≤ i) × (i ≤ s.unit.count) → unfinished (run_at s.unit.runs i) ≡ true
      → (budgets : List ℕ) → max_runs ≤ total budgets → 1 ≤ times i (take max_runs (served_over s budgets))
  soon-served i of_i un budgets enough =
      go (schedule.soon unit-turns 0 i (omega arith) of_i (rw (no_step unit_machine s) un))
    where
      go : (j : ℕ) × (j < count) × (0 + j < all) × (last (0 + j + 1) ≡ i) → 1 ≤ times i (take max_runs (served_over s budgets))
      go (j, near, few, e) =
          let most : j < max_runs = omega (arith, near, (sound s row).some.1) in
          let within : j < min (total budgets) all = omega (arith, most, enough, few) in
          rw (served-over budgets)
          (times-some max_runs (served_by (min (total budgets) all) s) j i most (omega (arith, within, served-length (min (total budgets) all)))
          (served-at (min (total budgets) all) (omega arith) j within ∙ ap last (omega arith) ∙ e))

  -- 'Between two labels of an unfinished run the others together make at most 7 while that name and the runs are handed on as handed back.'
  between_in :
      (k a b : ℕ) → k ≤ all → a < b → b < k → get_or (served_by k s) a 0 ≡ get_or (served_by k s) b 0
      → ((c : ℕ) → a < c → c < b → get_or (served_by k s) c 0 ≡ get_or (served_by k s) a 0 → ⊥) → b - a - 1 < max_runs
  between_in k a b most less few same none =
      omega (
        arith,
        (sound s row).some.1,
        schedule.between unit-turns a b less (omega arith)
            (sym (served-at k most a (omega arith)) ∙ same ∙ served-at k most b few)
            (λ c (from : a < c) (to : c < b) (e : last (c + 1) ≡ last (a + 1)).
            none c from to (served-at k most c (omega arith) ∙ e ∙ sym (served-at k most a (omega arith)))),
      )

  pub between-served :
      (budgets : List ℕ) (a b : ℕ) → a < b → b < length (served_over s budgets)
      → get_or (served_over s budgets) a 0 ≡ get_or (served_over s budgets) b 0
      → ((c : ℕ) → a < c → c < b → get_or (served_over s budgets) c 0 ≡ get_or (served_over s budgets) a 0 → ⊥)
      → b - a - 1 < max_runs
  between-served budgets a b less few same none =
      between_in (min (total budgets) all) a b (omega arith) less
      (omega (arith, few, ap length (served-over budgets), served-length (min (total budgets) all)))
      (subst (λ (names : List ℕ). get_or names a 0 ≡ get_or names b 0) (served-over budgets) same)
      (subst (λ (names : List ℕ). (c : ℕ) → a < c → c < b → get_or names c 0 ≡ get_or names a 0 → ⊥) (served-over budgets) none)

  -- 'If no run finishes in a call, the numbers of labels got by those unfinished at its start differ by at most one.'
  fair-in :
      (k : ℕ) → k ≤ all
      → ((i : ℕ) → (1 ≤ i) × (i ≤ count) → unfinished (run_at s.unit.runs i) ≡ true → unfinished (run_at (turns k s).unit.runs i) ≡ true)
      → (i j : ℕ) → (1 ≤ i) × (i ≤ count) → (1 ≤ j) × (j ≤ count)
      → unfinished (run_at s.unit.runs i) ≡ true → unfinished (run_at s.unit.runs j) ≡ true
      → times i (served_by k s) ≤ times j (served_by k s) + 1
  fair-in k few none i j of_i of_j un_i un_j =
      let first : (m : ℕ) → going 0 m ≡ unfinished (run_at s.unit.runs m) =
      λ m. ap (λ (t : Carried). unfinished (run_at t.unit.runs m)) (no_step unit_machine s) in
      omega (
        arith,
        taken-times i k few,
        taken-times j k few,
        schedule.fair unit-turns k few (λ m among goes. none m among (sym (first m) ∙ goes)) i j of_i of_j (first i ∙ un_i) (first j ∙ un_j),
      )

  pub fair-call :
      (budget : ℕ)
      → ((i : ℕ) → (1 ≤ i) × (i ≤ s.unit.count) → unfinished (run_at s.unit.runs i) ≡ true
      → unfinished (run_at (advanced s budget).unit.runs i) ≡ true)
      → (i j : ℕ) → (1 ≤ i) × (i ≤ s.unit.count) → (1 ≤ j) × (j ≤ s.unit.count)
      → unfinished (run_at s.unit.runs i) ≡ true → unfinished (run_at s.unit.runs j) ≡ true
      → times i (served_in s budget) ≤ times j (served_in s budget) + 1
  unfolding read_in machines.advanced
  fair-call budget none = fair-in (labels_in s budget) (omega (arith, labels-are budget)) none

  -- 'in turn, beginning after the run named as served last'; 'finished runs are passed over'
  pub in-turn :
      1 ≤ next_run s.unit
      → ((1 ≤ next_run s.unit) × (next_run s.unit ≤ s.unit.count))
      × (unfinished (run_at s.unit.runs (next_run s.unit)) ≡ true)
      × ((j : ℕ) → 1 ≤ j → j ≤ s.unit.count
      → ((s.unit.last < j) × (j < next_run s.unit))
      ⊎ ((next_run s.unit ≤ s.unit.last) × ((s.unit.last < j) ⊎ (j < next_run s.unit)))
      → unfinished (run_at s.unit.runs j) ≡ false)
  unfolding next_run
  in-turn found =
      let next : ℕ = next_run s.unit in
      let ok = sound s row in
      let holds = first_holds (λ i. unfinished (run_at s.unit.runs i)) count ok.some.0 count s.unit.last next refl found in (
        holds.1,
        holds.0,
        λ j some few where-it-is.
            first-nearest (λ i. unfinished (run_at s.unit.runs i)) count ok.some.0 s.unit.last next ok.named refl found j (some, few)
            (between-nearer count s.unit.last next j ok.named.1 found few where-it-is),
      )
