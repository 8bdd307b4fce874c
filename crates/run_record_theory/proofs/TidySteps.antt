-- Tidying commutes with any number of steps and with calls, and changes nothing in a run that a start and calls give.
use mathlib.Core.Path.{◌≡◌, refl, sym, ap, ◌∙◌}
use mathlib.Core.List.{List, ◌++◌}
use Prim.Native.Nat.{ℕ, zero, suc, ◌-◌, ◌≤◌, ◌<◌, min}
use native.Mathlib.Omega.{arith}
use lib.ListN.{length}
use lib.Seq.{take_at}
use Rattle.base.specs.Limits.{max_depth, held_size}
use Rattle.base.specs.Bytes.{zeros}
use Rattle.machine.specs.Machines as machines
use Rattle.machine.specs.Calls.{total}
use Rattle.machine.proofs.CallLaws.{calls-state, calls-report}
use Rattle.tree.specs.Nodes.{root}
use Rattle.tree.specs.Held.{held}
use Rattle.tree.specs.Walk.{nodes_in}
use Rattle.run.specs.declared.Run.{Run}
use Rattle.run.specs.Rows.{continue_row}
use Rattle.run.specs.Steps.{run_of, Stamped, stamped, stepped, run_machine, steps}
use Rattle.run.proofs.RowLaws.{may-go-on}
use Rattle.run_theory.specs.Reached.{labels_of, held_bytes, run_after}
use Rattle.run_theory.specs.Runs.{called, reported}
use Rattle.run_theory.proofs.Step.{labels_length, held-length}
use Rattle.run_record.specs.Layout.{held_length}
use Rattle.run_record_theory.specs.Pausing.{HasArrays, Continuable, remaining_of, tidied, tidied_at}
use Rattle.run_record_theory.proofs.Tidy.{tidied-arrays, tidied-twice, stepped-arrays, tidy-stepped}
use Rattle.run_theory.proofs.GoesOn.{After, still-goes, goes_on, steps-after}

-- ---- what a start and calls give is tidy
module _ (edition : ℕ) (statement : List ℕ) (n m k : ℕ) where
  pub run_after-tidy : tidied (run_after edition statement n m k) ≡ run_after edition statement n m k
  unfolding tidied held_bytes
  run_after-tidy =
      let labels : List ℕ = labels_of edition statement n (held n k) in
      let size : length labels ≡ held_length n k = labels_length edition statement n (held n k) in
      ap (run_of edition statement n m k)
      (ap (λ (l : List ℕ). l ++ zeros (held_size - held_length n k)) (take_at labels _ (held_length n k) size)
      ∙ ap (λ (c : ℕ). labels ++ zeros (held_size - c)) (sym size))

  pub run_after-arrays : length statement ≡ 32 → n ≤ max_depth → k ≤ nodes_in n → HasArrays (run_after edition statement n m k)
  run_after-arrays size shallow few =
      record { statement_size = size; places_size = held-length edition statement n n k root shallow few }

-- ---- a run that a call does not refuse
module _ (s : Stamped) (can : Continuable s) where
  pub shallow-run : s.run.depth ≤ max_depth
  shallow-run = (may-go-on s.run (length s.store) can.goes).possible.depth

  pub few-made : s.run.made ≤ nodes_in s.run.depth
  few-made = (may-go-on s.run (length s.store) can.goes).possible.made-few

  -- tidied, it is not refused either
  pub tidied-continuable : Continuable (tidied_at s)
  unfolding tidied continue_row
  tidied-continuable = record { arrays = tidied-arrays s.run can.arrays shallow-run few-made; goes = can.goes }

  pub tidied_at-twice : tidied_at (tidied_at s) ≡ tidied_at s
  tidied_at-twice = ap (λ (r : Run). stamped r s.store) (tidied-twice s.run can.arrays shallow-run few-made)

  -- the steps that follow are those of a run that is not finished
  next_small : (k : ℕ) → k < remaining_of s → (steps k s).run.made < nodes_in (steps k s).run.depth
  next_small k few =
      let a : After k s (steps k s) = steps-after s (may-go-on s.run (length s.store) can.goes).room k (omega arith) in
      rw (a.depth, a.made) (omega arith)

  next-shallow : (k : ℕ) → k ≤ remaining_of s → (steps k s).run.depth ≤ max_depth
  next-shallow k few =
      let a : After k s (steps k s) = steps-after s (may-go-on s.run (length s.store) can.goes).room k few in
      rw a.depth shallow-run

  pub steps-arrays : (k : ℕ) → k ≤ remaining_of s → HasArrays (steps k s).run
  unfolding run_machine machines.steps
  steps-arrays zero few = can.arrays
  steps-arrays (suc k) few = stepped-arrays (steps k s) (steps-arrays k (omega arith)) (next-shallow k (omega arith)) (next_small k few)

  pub steps-continuable : (k : ℕ) → k ≤ remaining_of s → Continuable (steps k s)
  steps-continuable k few = record { arrays = steps-arrays k few; goes = still-goes s can.goes k few }

  pub tidy-steps : (k : ℕ) → k ≤ remaining_of s → tidied_at (steps k s) ≡ steps k (tidied_at s)
  unfolding run_machine machines.steps
  tidy-steps zero few = refl
  tidy-steps (suc k) few =
      tidy-stepped (steps k s) (steps-arrays k (omega arith)) (next-shallow k (omega arith)) (next_small k few)
      ∙ ap stepped (tidy-steps k (omega arith))

  -- calls
  pub called-steps : (budgets : List ℕ) → called s budgets ≡ steps (min (total budgets) (remaining_of s)) s
  called-steps = calls-state run_machine s (remaining_of s) (goes_on s can.goes)

  pub reported-count : (budgets : List ℕ) → reported s budgets ≡ min (total budgets) (remaining_of s)
  reported-count = calls-report run_machine s (remaining_of s) (goes_on s can.goes)

  pub called-continuable : (budgets : List ℕ) → Continuable (called s budgets)
  called-continuable budgets = rw (called-steps budgets) (steps-continuable (min (total budgets) (remaining_of s)) (omega arith))

module _ (s : Stamped) (can : Continuable s) (budgets : List ℕ) where
  pub tidy-called : tidied_at (called s budgets) ≡ called (tidied_at s) budgets
  unfolding tidied
  tidy-called =
      ap tidied_at (called-steps s can budgets)
      ∙ tidy-steps s can (min (total budgets) (remaining_of s)) (omega arith)
      ∙ sym (called-steps (tidied_at s) (tidied-continuable s can) budgets)

  pub tidy-reported : reported (tidied_at s) budgets ≡ reported s budgets
  unfolding tidied
  tidy-reported = reported-count (tidied_at s) (tidied-continuable s can) budgets ∙ sym (reported-count s can budgets)
