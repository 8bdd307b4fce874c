-- From a finished run to an opening: its store holds what the opening reads, so the opening is the tree's. Slots do not depend on the
-- level: a store of level m serves every lower one.
use mathlib.Core.Path.{◌≡◌, ap, ◌∙◌}
use Prim.Native.Nat.{ℕ, ◌≤◌}
use native.Mathlib.Omega.{arith}
use mathlib.Core.List.{List, ◌++◌}
use lib.ListN.{length, drop}
use Rattle.machine.specs.Calls.{total, after_calls}
use Rattle.tree.specs.Walk.{nodes_in}
use Rattle.tree.specs.Openings.{opening_nodes, opening_size}
use Rattle.run.specs.Steps.{Stamped, steps}
use Rattle.opening.specs.Rows.{nodes_anew}
use Rattle.opening.specs.Steps as opening
use Rattle.run_theory.specs.Reached.{labels_of, store_after}
use Rattle.run_theory.specs.Runs.{LevelsFit, at_start}
use Rattle.run_theory.specs.Openings.{HoldsLabels, Openable, new_open}
use Rattle.run_theory.proofs.StoreLaws.{store_length, store-whole}
use Rattle.run_theory.proofs.RunLaws.{run-reached}
use Rattle.run_theory.proofs.OpeningCalls.{opening-carried}

module _ (edition : ℕ) (statement : List ℕ) (n m : ℕ) (store : List ℕ) (fit : LevelsFit n m (length store)) where
  -- the store as a finished run leaves it
  abbrev pub finished_store : List ℕ
  finished_store = (steps (nodes_in n) (at_start edition statement n m store)).store

  finished-is : finished_store ≡ store_after edition statement n m (nodes_in n) store
  finished-is = ap (λ (s : Stamped). s.store) (run-reached edition statement n m store fit.shallow (nodes_in n) (omega arith))

  pub finished-length : length finished_store ≡ length store
  finished-length = ap length finished-is ∙ store_length edition statement n m store fit.enough (nodes_in n) (omega arith)

  -- each node of levels 0 to m has its label in its slot
  pub finished-holds : (lower : ℕ) → lower ≤ m → HoldsLabels edition statement n lower finished_store
  finished-holds lower le u in_tree =
      rw finished-is
      (store-whole edition statement n m store fit.enough u (omega (arith, fit.below, in_tree.0), in_tree.1) (omega (arith, in_tree.0)))

  -- Over that store, untouched, any budgets that suffice write the tree's opening, and no byte behind it.
  pub finished-opening :
      (lower leaf : ℕ) (out : List ℕ) → lower ≤ m → Openable edition n lower leaf (length finished_store) (length out) → (budgets : List ℕ)
      → nodes_anew n lower ≤ total budgets
      → (after_calls (opening.advanced finished_store) (new_open edition statement n lower leaf finished_store out) budgets).out
      ≡ labels_of edition statement n (opening_nodes n leaf) ++ drop (opening_size n) out
  finished-opening lower leaf out le fits budgets enough =
      opening-carried edition statement n lower leaf finished_store out fits (finished-holds lower le) budgets enough
