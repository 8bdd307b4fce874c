-- From a run's start to the file: a run carried to its end gives root and store, and these give the tree's file, by any cuts of
-- budgets and at every memory level.
use mathlib.Core.Path.{◌≡◌, sym, ap, ◌∙◌}
use Prim.Native.Nat.{ℕ, ◌-◌, ◌≤◌}
use native.Mathlib.Omega.{arith}
use mathlib.Core.List.{List, ◌++◌}
use lib.ListN.{length, take, drop}
use lib.Seq.{take_at}
use Rattle.base.specs.Limits.{held_size, IsCount}
use Rattle.base.specs.Bytes.{zeros}
use Rattle.machine.specs.Calls.{total, after_calls}
use Rattle.machine.proofs.CallLaws.{calls-end}
use Rattle.tree.specs.Nodes.{root}
use Rattle.tree.specs.Walk.{nodes_in}
use Rattle.run.specs.Steps as runs
use Rattle.run.specs.Steps.{Stamped}
use Rattle.file_head.specs.Layout.{file_size}
use Rattle.proof_file.specs.FileCheck.{file_check}
use Rattle.run_theory.specs.Runs.{Startable, LevelsFit, at_start, called}
use Rattle.run_theory.proofs.Step.{label-size}
use Rattle.run_theory.proofs.StartLaws.{levels-fit}
use Rattle.run_theory.proofs.RunLaws.{finished-held, run-goes}
use Rattle.run_theory.proofs.Editions.{run-steps-keep-edition}
use Rattle.run_theory.proofs.Finished.{finished-holds, finished-length}
use Rattle.check_theory.specs.TreeFile.{root_of, tree_file}
use Rattle.writing.specs.Steps.{Written, started, advanced}
use Rattle.writing_theory.specs.Filed.{Writable, labels_anew, file_from}
use Rattle.writing_theory.proofs.Laid.{front-accepted}
use Rattle.writing_theory.proofs.Rows.{started-done}
use Rattle.writing_theory.proofs.Calls.{file-carried}

-- ---- a finished run, and the file from it at its own level and at every lower one
module _ (edition : ℕ) (statement : List ℕ) (n m : ℕ) (store : List ℕ) (fit : LevelsFit n m (length store)) where
  pub finished-root : take 32 (runs.steps (nodes_in n) (at_start edition statement n m store)).run.held ≡ root_of edition statement n
  finished-root =
      rw (finished-held edition statement n m store fit.shallow)
      (take_at (root_of edition statement n) (zeros (held_size - 32)) 32 (label-size edition statement n root))

  finished-edition : (runs.steps (nodes_in n) (at_start edition statement n m store)).run.edition ≡ edition
  unfolding at_start
  finished-edition = run-steps-keep-edition (nodes_in n) (at_start edition statement n m store)

  pub file-finished :
      (lower t : ℕ) (file : List ℕ) → lower ≤ m → length statement ≡ 32 → Writable edition n lower t (length store) (length file)
      → (budgets : List ℕ) → labels_anew n lower t ≤ total budgets
      → file_from (runs.steps (nodes_in n) (at_start edition statement n m store)) statement n lower t file budgets
      ≡ tree_file edition statement n t ++ drop (file_size n t) file
  file-finished lower t file le size writable budgets enough =
      let s : Stamped = runs.steps (nodes_in n) (at_start edition statement n m store) in
      let fits : Writable edition n lower t (length s.store) (length file) = rw (finished-length edition statement n m store fit) writable in
      let from : Written → List ℕ = λ w. (after_calls (advanced s.store) w budgets).file in
      ap (λ (e : ℕ). from (started e statement (take 32 s.run.held) n lower t s.store file)) finished-edition
      ∙ ap (λ (r : List ℕ). from (started edition statement r n lower t s.store file)) finished-root
      ∙ ap from (started-done edition statement (root_of edition statement n) n lower t s.store file fits)
      ∙ file-carried edition statement n lower t s.store file size (finished-holds edition statement n m store fit lower le) fits budgets enough

-- ---- from a start
module _
    (edition : ℕ) (statement : List ℕ) (n m : ℕ) (store : List ℕ) (startable : Startable edition n m (length store)) (t : ℕ) (file : List ℕ)
    (size : length statement ≡ 32) (count : IsCount t) (fits : file_size n t ≤ length file) where
  writable : Writable edition n m t (length store) (length file)
  writable =
      record {
        exists = startable.exists;
        depth = (startable.positive, startable.shallow);
        memory = startable.memory;
        store_fits = startable.enough;
        count = count;
        file_fits = fits;
      }

  -- whatever the memory level, and however labelling and writing are cut
  pub run-to-file :
      (labelling budgets : List ℕ) → nodes_in n ≤ total labelling → labels_anew n m t ≤ total budgets
      → file_from (called (at_start edition statement n m store) labelling) statement n m t file budgets
      ≡ tree_file edition statement n t ++ drop (file_size n t) file
  run-to-file labelling budgets all enough =
      let done : called (at_start edition statement n m store) labelling ≡ runs.steps (nodes_in n) (at_start edition statement n m store) =
      calls-end runs.run_machine (at_start edition statement n m store) (nodes_in n) (run-goes edition statement n m store startable) labelling all in
      rw done (file-finished edition statement n m store (levels-fit edition n m (length store) startable) m t file (omega arith) size writable budgets enough)

  pub run-to-file-accepted :
      (labelling budgets : List ℕ) → nodes_in n ≤ total labelling → labels_anew n m t ≤ total budgets
      → file_check (take (file_size n t) (file_from (called (at_start edition statement n m store) labelling) statement n m t file budgets)) statement n t
      ≡ 0
  run-to-file-accepted labelling budgets all enough =
      rw (run-to-file labelling budgets all enough)
      (front-accepted edition statement n t (drop (file_size n t) file) startable.exists size (startable.positive, startable.shallow) count)

-- one file, at whichever memory levels and over whichever stores
pub one-file :
    (edition : ℕ) (statement : List ℕ) (n m m' t : ℕ) (store store' file labelling labelling' budgets budgets' : List ℕ)
    → Startable edition n m (length store) → Startable edition n m' (length store') → length statement ≡ 32 → IsCount t → file_size n t ≤ length file
    → nodes_in n ≤ total labelling → nodes_in n ≤ total labelling'
    → labels_anew n m t ≤ total budgets → labels_anew n m' t ≤ total budgets'
    → file_from (called (at_start edition statement n m store) labelling) statement n m t file budgets
    ≡ file_from (called (at_start edition statement n m' store') labelling') statement n m' t file budgets'
one-file edition statement n m m' t store store' file labelling labelling' budgets budgets' s s' size count fits all all' enough enough' =
    run-to-file edition statement n m store s t file size count fits labelling budgets all enough
    ∙ sym (run-to-file edition statement n m' store' s' t file size count fits labelling' budgets' all' enough')
