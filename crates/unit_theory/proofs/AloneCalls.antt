-- W-208: the same of calls with any budgets. From a unit that is not refused on they make the smaller of their sum and all labels that
-- remain; each run is what one call of it alone gives with as many labels as it got, and at its end what it would be alone; and budgets that
-- suffice finish every run.
use mathlib.Core.Path.{◌≡◌, sym, ap, ◌∙◌}
use mathlib.Core.Bool.{false}
use mathlib.Core.List.{List}
use Prim.Native.Nat.{ℕ, ◌+◌, ◌-◌, ◌≤◌, ◌<◌, min}
use native.Mathlib.Omega.{arith}
use lib.ListN.{length, drop}
use Rattle.machine.specs.Calls.{total}
use Rattle.machine.proofs.StepLaws.{done-some, advanced-by}
use Rattle.machine.proofs.CallLaws.{calls-state, calls-report, calls-cost, calls-read, calls-done, calls-end}
use Rattle.run.specs.Rows.{continue_row}
use Rattle.run.specs.Steps as alone
use Rattle.run.specs.Steps.{run_machine}
use Rattle.run_theory.specs.Runs as runs
use Rattle.run_theory.proofs.GoesOn.{After, after-steps, goes_on}
use Rattle.unit.specs.Runs.{run_at, left_of, unfinished, sum_to, store_from}
use Rattle.unit.specs.Rows.{unit_row}
use Rattle.unit.specs.Turns.{Carried, own_of, next_run, unit_machine, turns, turn_blocks, blocks_over}
use Rattle.unit.proofs.RowLaws.{sound, own-goes}
use Rattle.unit.proofs.TurnLaws.{all_left, unit-goes}
use Rattle.unit_theory.specs.Served.{served_by, served_over, times, last_named, called, reported, reported_blocks}
use Rattle.unit_theory.proofs.Alone.{Shared, shared, got-all, finished-got, finished-own}

-- the turns that calls with these budgets make
abbrev pub turns_made : Carried → List ℕ → ℕ
turns_made s budgets = min (total budgets) (all_left s)

module _ (s : Carried) (goes : unit_row s.unit (length s.store) ≡ 0) (budgets : List ℕ) where
  pub state-is : called s budgets ≡ turns (turns_made s budgets) s
  state-is = calls-state unit_machine s (all_left s) (unit-goes s goes) budgets

  pub report-is : reported s budgets ≡ turns_made s budgets
  report-is = calls-report unit_machine s (all_left s) (unit-goes s goes) budgets

  pub cost-is : reported_blocks s budgets ≡ blocks_over (turns_made s budgets) s
  cost-is = calls-cost unit_machine s (all_left s) (unit-goes s goes) turn_blocks budgets

  pub served-is : served_over s budgets ≡ served_by (turns_made s budgets) s
  served-is = calls-read unit_machine s (all_left s) (unit-goes s goes) (λ t. next_run t.unit) budgets

  pub still-served : unit_row (called s budgets).unit (length (called s budgets).store) ≡ 0
  unfolding unit_machine
  still-served = calls-done unit_machine s (all_left s) (unit-goes s goes) budgets

  made-few : turns_made s budgets ≤ all_left s
  made-few = omega arith

  -- what is known after them; count, places and bytes beyond the runs are as before
  pub shares : Shared s (turns_made s budgets)
  shares = shared s (sound s goes) (turns_made s budgets) made-few

  -- the labels of the runs add up to those reported, and their blocks to the blocks
  pub sum_over : sum_to (λ i. times i (served_over s budgets)) s.unit.count ≡ reported s budgets
  sum_over = rw (served-is, report-is) shares.sum

  pub blocks-over : reported_blocks s budgets ≡ sum_to (λ i. alone.blocks_over (times i (served_over s budgets)) (own_of s i)) s.unit.count
  blocks-over = rw (served-is, cost-is) shares.blocks

  pub name-over : (called s budgets).unit.last ≡ last_named s.unit.last (served_over s budgets)
  name-over = rw (served-is, state-is) shares.name

  pub kept-over :
      ((called s budgets).unit.count ≡ s.unit.count)
      × ((i : ℕ) → store_from (called s budgets).unit.runs i ≡ store_from s.unit.runs i)
      × (length (called s budgets).unit.runs ≡ length s.unit.runs)
      × ((i : ℕ) → s.unit.count < i → run_at (called s budgets).unit.runs i ≡ run_at s.unit.runs i)
      × (length (called s budgets).store ≡ length s.store)
      × (drop (store_from s.unit.runs (s.unit.count + 1)) (called s budgets).store
      ≡ drop (store_from s.unit.runs (s.unit.count + 1)) s.store)
  kept-over = rw state-is (shares.count, shares.from, shares.size, shares.beyond, shares.room, shares.behind)

  -- ---- one run
  module _ (i : ℕ) (among : (1 ≤ i) × (i ≤ s.unit.count)) where
    own_row : continue_row (own_of s i).run (length (own_of s i).store) ≡ 0
    own_row = own-goes s i ((sound s goes).each i among.0 among.1)

    pub most-over : times i (served_over s budgets) ≤ left_of (run_at s.unit.runs i)
    most-over = rw served-is (shares.most i among)

    pub alone-steps : own_of (called s budgets) i ≡ alone.steps (times i (served_over s budgets)) (own_of s i)
    alone-steps = rw (served-is, state-is) (shares.own i among)

    -- one call of it alone with as many labels as it got makes them all, and gives the same
    pub alone-labels : alone.labels_in (own_of s i) (times i (served_over s budgets)) ≡ times i (served_over s budgets)
    unfolding run_machine
    alone-labels = omega (arith, done-some run_machine (own_of s i) (times i (served_over s budgets)) own_row, most-over)

    pub alone-call : own_of (called s budgets) i ≡ alone.advanced (own_of s i) (times i (served_over s budgets))
    alone-call =
        alone-steps
        ∙ advanced-by run_machine (own_of s i) (times i (served_over s budgets)) (times i (served_over s budgets)) (sym alone-labels)

    -- a finished run is passed over
    pub finished-over : unfinished (run_at s.unit.runs i) ≡ false → times i (served_over s budgets) ≡ 0
    finished-over e = rw served-is (finished-got s (sound s goes) (turns_made s budgets) made-few i among e)

    pub finished-kept : unfinished (run_at s.unit.runs i) ≡ false → own_of (called s budgets) i ≡ own_of s i
    finished-kept e = rw state-is (finished-own s (sound s goes) (turns_made s budgets) made-few i among e)

    -- how far it has come
    own-after : After (times i (served_over s budgets)) (own_of s i) (own_of (called s budgets) i)
    own-after = rw alone-steps (after-steps (own_of s i) own_row (times i (served_over s budgets)) most-over)

    pub made-over : (run_at (called s budgets).unit.runs i).made ≡ (run_at s.unit.runs i).made + times i (served_over s budgets)
    made-over = own-after.made

    left_over : left_of (run_at (called s budgets).unit.runs i) ≡ left_of (run_at s.unit.runs i) - times i (served_over s budgets)
    left_over = rw (own-after.depth, own-after.made) (omega arith)

    -- budgets that suffice for all runs finish it
    pub ends-over : all_left s ≤ total budgets → left_of (run_at (called s budgets).unit.runs i) ≡ 0
    ends-over enough =
        let e : turns_made s budgets ≡ all_left s = omega arith in
        let f : times i (served_over s budgets) ≡ left_of (run_at s.unit.runs i) = rw (served-is, e) (got-all s (sound s goes) i among) in
        omega (arith, left_over)

    -- when it is finished its root and store are those it would have alone
    pub ends-alone :
        left_of (run_at (called s budgets).unit.runs i) ≡ 0 → (bs : List ℕ) → left_of (run_at s.unit.runs i) ≤ total bs
        → own_of (called s budgets) i ≡ runs.called (own_of s i) bs
    ends-alone none bs suffices =
        let all : times i (served_over s budgets) ≡ left_of (run_at s.unit.runs i) = omega (arith, none, left_over, most-over) in
        alone-steps
        ∙ ap (λ (k : ℕ). alone.steps k (own_of s i)) all
        ∙ sym (calls-end run_machine (own_of s i) (left_of (run_at s.unit.runs i)) (goes_on (own_of s i) own_row) bs suffices)
