-- Document 01, 'Runs in lent memory', for every depth: what a run and its store hold after k labels, however they were made.
use mathlib.Core.Path.{◌≡◌, refl, sym, ap, ◌∙◌}
use mathlib.Core.Logic.{inl}
use Prim.Native.Nat.{ℕ, ◌+◌, ◌-◌, ◌^◌, ◌≤◌, ◌<◌, min}
use native.Mathlib.Nat.{zero-add}
use native.Mathlib.Omega.{arith}
use mathlib.Core.List.{List, [], ◌++◌}
use lib.ListN.{length}
use Rattle.base.specs.Limits.{max_depth, held_size}
use Rattle.base.specs.Bytes.{zeros, joined}
use Rattle.machine.specs.Machines.{Goes}
use Rattle.machine.specs.Calls.{total}
use Rattle.machine.proofs.StepLaws.{steps-reach, advanced-idle}
use Rattle.machine.proofs.CallLaws as machines
use Rattle.machine.proofs.CallLaws.{done-after, advanced-after, finished-done, calls-state, calls-report}
use Rattle.tree.specs.Nodes.{root, left_siblings}
use Rattle.tree.specs.Walk.{nodes_in}
use Rattle.labelling.specs.Step.{next_node, next_label}
use Rattle.run.specs.Rows.{continue_row}
use Rattle.run.specs.Steps.{run_of, Stamped, stepped, run_machine, steps, labels_in, advanced}
use Rattle.run_theory.specs.Reached.{label_of, held_bytes, store_after, run_after}
use Rattle.run_theory.specs.Runs.{Startable, at_start, reached_at, called, reported}
use Rattle.run_theory.proofs.Step.{next-label, next-held, held_none, held-top}
use Rattle.run_theory.proofs.StoreLaws.{store_step, store-start, store_length}
use Rattle.run_theory.proofs.StartLaws.{continue-done}

-- a call with budget 0 changes nothing, whatever the run
pub advanced-zero : (s : Stamped) → advanced s 0 ≡ s
advanced-zero s = advanced-idle run_machine s 0 (inl refl)

-- ---- the state after k labels
module _ (edition : ℕ) (statement : List ℕ) (n m : ℕ) (store : List ℕ) (shallow : n ≤ max_depth) where
  next-root :
      (k : ℕ) → k < nodes_in n
      → next_label edition statement n root [] (held_bytes edition statement n n root k) k ≡ label_of edition statement n (next_node n root k)
  unfolding left_siblings joined
  next-root k small = next-label edition statement n n k root (zero-add n) shallow small

  stepped-reached : (k : ℕ) → k < nodes_in n → stepped (reached_at edition statement n m store k) ≡ reached_at edition statement n m store (k + 1)
  unfolding stepped
  stepped-reached k small =
      rw (next-root k small, next-held edition statement n n k root (zero-add n) shallow small, ← store_step edition statement n m k store small)

  start-reached : at_start edition statement n m store ≡ reached_at edition statement n m store 0
  unfolding at_start
  start-reached =
      λ i.
      record {
        run = run_of edition statement n m 0 (sym (held_none edition statement n n root) i);
        store = sym (store-start edition statement n m store) i;
      }

  pub run-reached : (k : ℕ) → k ≤ nodes_in n → steps k (at_start edition statement n m store) ≡ reached_at edition statement n m store k
  unfolding run_machine
  run-reached = steps-reach run_machine (reached_at edition statement n m store) (nodes_in n) (at_start edition statement n m store) start-reached stepped-reached

  -- a finished run: it has made 2^(n+1) − 1 labels and holds the root's alone
  pub finished-made : (steps (nodes_in n) (at_start edition statement n m store)).run.made ≡ 2 ^ (n + 1) - 1
  unfolding nodes_in
  finished-made = ap (λ (s : Stamped). s.run.made) (run-reached (nodes_in n) (omega arith))

  finished-bytes : (steps (nodes_in n) (at_start edition statement n m store)).run.held ≡ held_bytes edition statement n n root (nodes_in n)
  finished-bytes = ap (λ (s : Stamped). s.run.held) (run-reached (nodes_in n) (omega arith))

  pub finished-held : (steps (nodes_in n) (at_start edition statement n m store)).run.held ≡ label_of edition statement n root ++ zeros (held_size - 32)
  finished-held = finished-bytes ∙ held-top edition statement n n root

-- ---- the calls of a run whose start was not refused
module _ (edition : ℕ) (statement : List ℕ) (n m : ℕ) (store : List ℕ) (startable : Startable edition n m (length store)) where
  continue-at :
      (k : ℕ) → k ≤ nodes_in n
      → continue_row (run_after edition statement n m k) (length (store_after edition statement n m k store)) ≡ 0
  continue-at k small =
      rw (store_length edition statement n m store startable.enough k small)
      (continue-done edition n m (length store) statement k startable small)

  -- no call of it is refused
  pub continue-reached :
      (k : ℕ) → k ≤ nodes_in n
      → continue_row (steps k (at_start edition statement n m store)).run (length (steps k (at_start edition statement n m store)).store) ≡ 0
  continue-reached k small = rw (run-reached edition statement n m store startable.shallow k small) (continue-at k small)

  -- and what remains falls by one with each label: the laws of calls hold of it
  pub run-goes : Goes run_machine (at_start edition statement n m store) (nodes_in n)
  unfolding run_machine
  run-goes =
      record {
        done = continue-reached;
        left = λ k small. ap (λ (s : Stamped). nodes_in s.run.depth - s.run.made) (run-reached edition statement n m store startable.shallow k small);
      }

  -- the number of labels that a call makes and reports
  pub labels-reached :
      (k budget : ℕ) → k ≤ nodes_in n → labels_in (steps k (at_start edition statement n m store)) budget ≡ min budget (nodes_in n - k)
  labels-reached = done-after run_machine (at_start edition statement n m store) (nodes_in n) run-goes

  pub progress : (k budget : ℕ) → k < nodes_in n → 1 ≤ budget → 1 ≤ labels_in (steps k (at_start edition statement n m store)) budget
  progress = machines.progress run_machine (at_start edition statement n m store) (nodes_in n) run-goes

  pub advanced-reached :
      (k budget : ℕ) → k ≤ nodes_in n
      → advanced (steps k (at_start edition statement n m store)) budget ≡ steps (k + min budget (nodes_in n - k)) (at_start edition statement n m store)
  advanced-reached = advanced-after run_machine (at_start edition statement n m store) (nodes_in n) run-goes

  -- a finished run changes no more
  pub finished-labels : (budget : ℕ) → labels_in (steps (nodes_in n) (at_start edition statement n m store)) budget ≡ 0
  finished-labels = finished-done run_machine (at_start edition statement n m store) (nodes_in n) run-goes

  pub finished-same :
      (budget : ℕ) → advanced (steps (nodes_in n) (at_start edition statement n m store)) budget ≡ steps (nodes_in n) (at_start edition statement n m store)
  finished-same = machines.finished-same run_machine (at_start edition statement n m store) (nodes_in n) run-goes

  -- Budgets cut in any way make as many labels as one call with their sum, and give the same state.
  pub called-cut :
      (budgets : List ℕ)
      → called (at_start edition statement n m store) budgets ≡ steps (min (total budgets) (nodes_in n)) (at_start edition statement n m store)
  called-cut = calls-state run_machine (at_start edition statement n m store) (nodes_in n) run-goes

  pub reported-cut : (budgets : List ℕ) → reported (at_start edition statement n m store) budgets ≡ min (total budgets) (nodes_in n)
  reported-cut = calls-report run_machine (at_start edition statement n m store) (nodes_in n) run-goes
