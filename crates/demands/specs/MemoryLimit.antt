-- W-209, 'Level 14 is the most', sentence by sentence.
use Rattle.std.specs.Prelude.{◌≡◌, ℕ, ◌+◌, ◌-◌, ◌*◌, ◌^◌, ◌≤◌, ◌<◌, min, List, length}
use Rattle.base.specs.Limits.{IsDepth, IsCount}
use Rattle.machine.specs.Calls.{total}
use Rattle.tree.specs.Nodes.{root}
use Rattle.tree.specs.Labels.{label}
use Rattle.labelling.specs.Rule.{stamp_rule}
use Rattle.run.specs.declared.Run.{Run}
use Rattle.run.specs.Rows.{start_row, continue_row}
use Rattle.run.specs.Steps.{Stamped}
use Rattle.run_theory.specs.Runs.{reached_at}
use Rattle.opening.specs.declared.Opening.{Opening}
use Rattle.opening.specs.Rows.{open_row, reopen_row}
use Rattle.file_head.specs.Layout.{file_size, file}
use Rattle.proof_file.specs.FileCheck.{file_check}
use Rattle.check_theory.specs.TreeFile.{tree_openings}
use Rattle.writing.specs.declared.Writing.{Writing}
use Rattle.writing.specs.Rows.{write_row, rewrite_row}
use Rattle.writing_theory.specs.Filed.{file_from}
use Rattle.demands.specs.Demand1.{AnEdition}
use Rattle.demands.specs.Demand2.{opening_from, OpeningIs, FileIs}

-- 'no run needs a store over 1,048,544 bytes': with so many no row answers 3
pub record StoreEnough (store : ℕ) : Type 0 where
  pub starting_run : (n m : ℕ) → start_row n m store ≡ 3 → ⊥
  pub continuing_run : (run : Run) → continue_row run store ≡ 3 → ⊥
  pub starting_opening : (edition n m leaf out : ℕ) → open_row edition n m leaf store out ≡ 3 → ⊥
  pub continuing_opening : (o : Opening) (out : ℕ) → reopen_row o store out ≡ 3 → ⊥
  pub starting_file : (edition n m t out : ℕ) → write_row edition n m t store out ≡ 3 → ⊥
  pub continuing_file : (w : Writing) (out : ℕ) → rewrite_row w store out ≡ 3 → ⊥

-- 'Number 2 now means over the smaller of depth and 14', whatever the store, in every edition that exists
pub record StartRefused (n m store : ℕ) : Type 0 where
  pub run : start_row n m store ≡ 2
  pub opening : (edition leaf out : ℕ) → AnEdition edition → open_row edition n m leaf store out ≡ 2
  pub file : (edition t out : ℕ) → AnEdition edition → write_row edition n m t store out ≡ 2

-- a finished run of level m with its store: what demand 2's `RunLabels` says of them, of any level that the depth has
abbrev pub finished_run : ℕ → List ℕ → ℕ → ℕ → List ℕ → Stamped
finished_run edition statement n m store = reached_at edition statement n m store (2 ^ (n + 1) - 1)

-- openings and files made from it at a lower level, over the same bytes, are the tree's
pub record OpenedLower (edition : ℕ) (statement : List ℕ) (n m lower : ℕ) (store : List ℕ) : Type 0 where
  pub opening :
      (leaf : ℕ) (out budgets : List ℕ) → leaf < 2 ^ n → 32 * (n + 1) ≤ length out → 2 ^ (n - lower + 1) - 2 ≤ total budgets
      → OpeningIs edition statement n leaf out (opening_from (finished_run edition statement n m store) edition statement n lower leaf out budgets)
  pub file :
      (t : ℕ) (bytes budgets : List ℕ) → length statement ≡ 32 → IsCount t → file_size n t ≤ length bytes
      → t * (2 ^ (n - lower + 1) - 2) ≤ total budgets
      → FileIs edition statement n t bytes (file_from (finished_run edition statement n m store) statement n lower t bytes budgets)

-- ---- the request
pub record MemoryLimit : Type 0 where
  pub store_enough : (store : ℕ) → 1048544 ≤ store → StoreEnough store
  -- and with a byte less some row does
  pub store_needed : (n store : ℕ) → (14 ≤ n) × (n ≤ 40) → store < 1048544 → start_row n 14 store ≡ 3
  pub start_refused : (n m store : ℕ) → IsDepth n → min n 14 < m → StartRefused n m store
  -- 'a run with such a level', 15 to 20 at any depth, is refused with 4, whatever the store; an opening and a file too
  pub run_refused : (run : Run) (store : ℕ) → min run.depth 14 < run.memory → continue_row run store ≡ 4
  pub opening_refused : (o : Opening) (store out : ℕ) → min o.depth 14 < o.memory → reopen_row o store out ≡ 4
  pub file_refused :
      (w : Writing) (store out : ℕ) → min w.opening.depth 14 < w.opening.memory → rewrite_row w store out ≡ 4
  -- 'Proof files do not carry the level and all old ones remain good': the tree's file, which runs of every level wrote
  pub old_files :
      (edition : ℕ) (statement : List ℕ) (n t : ℕ) → AnEdition edition → length statement ≡ 32 → IsDepth n → IsCount t
      → file_check (file edition statement (label (stamp_rule edition n statement) n root) n t (tree_openings edition statement n t)) statement n t
      ≡ 0
  -- the slots of level 14 are those of every higher one
  pub old_stores :
      (edition : ℕ) (statement : List ℕ) (n m lower : ℕ) (store : List ℕ) → AnEdition edition → IsDepth n → m ≤ n
      → 32 * (2 ^ (m + 1) - 1) ≤ length store → lower ≤ min m 14 → OpenedLower edition statement n m lower store
