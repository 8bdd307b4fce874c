-- A run that is not refused at its start, the state that k labels give, and calls with budgets.
use Rattle.std.specs.Prelude.{ℕ, ◌≤◌, List}
use Rattle.base.specs.Limits.{max_depth, IsEdition, IsMemory}
use Rattle.machine.specs.Calls.{after_calls, labels_over}
use Rattle.tree.specs.Store.{store_size}
use Rattle.run.specs.Steps.{new_run, Stamped, labels_in, advanced}
use Rattle.run_theory.specs.Reached.{run_after, store_after}

-- an edition that exists, n from 1 to 40, m at most min(n, max_memory), and a store of so many bytes long enough
pub record Startable (edition n m size : ℕ) : Type 0 where
  pub exists : IsEdition edition
  pub positive : 1 ≤ n
  pub shallow : n ≤ max_depth
  pub memory : IsMemory n m
  pub enough : store_size m ≤ size

-- levels 0 to m of a tree of depth n fit a store of so many bytes, whatever the limit of m is or was
pub record LevelsFit (n m size : ℕ) : Type 0 where
  pub shallow : n ≤ max_depth
  pub below : m ≤ n
  pub enough : store_size m ≤ size

-- a new run of an edition with its store, and what they are to be after k labels
unfoldable pub at_start : ℕ → List ℕ → ℕ → ℕ → List ℕ → Stamped
at_start edition statement n m store = record { run = new_run edition statement n m; store = store }

abbrev pub reached_at : ℕ → List ℕ → ℕ → ℕ → List ℕ → ℕ → Stamped
reached_at edition statement n m store k = record { run = run_after edition statement n m k; store = store_after edition statement n m k store }

-- the run and its store after calls with these budgets, and the labels that they report, added up
abbrev pub called : Stamped → List ℕ → Stamped
called s budgets = after_calls advanced s budgets

abbrev pub reported : Stamped → List ℕ → ℕ
reported s budgets = labels_over advanced labels_in s budgets
