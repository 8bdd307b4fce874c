-- A seal that was stopped goes on from what it left on the disk as if it had never been stopped.
use Rattle.std.specs.Prelude.{◌≡◌, ◌⊎◌, ℕ, ◌≤◌, ◌<◌, List, ◌++◌, length, drop}
use Rattle.base.specs.Limits.{IsCount}
use Rattle.tree.specs.Openings.{opening_size}
use Rattle.tree.specs.Walk.{nodes_in}
use Rattle.run.specs.declared.Run.{Run}
use Rattle.run.specs.Rows.{continue_row}
use Rattle.file_head.specs.Layout.{file_size}
use Rattle.check_theory.specs.TreeFile.{root_of, tree_file}
use Rattle.checkpoint.specs.Reading.{store_in, fault_of, run_found, count_found}
use Rattle.checkpoint_theory.specs.OnTheWay.{OnTheWay, on_disk}
use Rattle.sealing.specs.Front.{Front, Seals}
use Rattle.sealing.specs.TakenUp.{openings_done, file_taken}

-- What a seal on its way leaves: its checkpoint, behind it the q openings that are finished, none before all labels are made, and a part
-- of the next one.
pub record Left (run : Run) (store : List ℕ) (t q : ℕ) (bytes : List ℕ) : Type 0 where
  pub way : OnTheWay run store
  pub count : IsCount t
  pub few : q ≤ t
  pub labels_first : (q ≡ 0) ⊎ (run.made ≡ nodes_in run.depth)
  pub cut : List ℕ
  pub short : length cut < opening_size run.depth
  pub disk : bytes ≡ on_disk run t store q ++ cut

-- What reading the bytes gives, and that a seal of it gives what it would have given had it not been stopped.
pub record Resumable (run : Run) (store : List ℕ) (t q : ℕ) (bytes : List ℕ) : Type 0 where
  -- the bytes are read as a checkpoint
  pub whole : fault_of bytes ≡ 0
  -- the run, the store and the order's count are those that were written
  pub same_run : run_found bytes ≡ run
  pub same_store : store_in bytes ≡ store
  pub same_count : count_found bytes ≡ t
  -- as many openings are taken as were finished
  pub same_openings : openings_done bytes ≡ q
  -- all that `seal_on` requires holds of them, with any file that is long enough
  pub asked : (file : List ℕ) → file_size run.depth t ≤ length file
      → (continue_row (run_found bytes) (length (store_in bytes)) ≡ 0) × IsCount (count_found bytes)
      × (openings_done bytes ≤ count_found bytes)
      × (file_size (run_found bytes).depth (count_found bytes) ≤ length (file_taken bytes file))
  -- run and store are on the way of a start
  pub on_the_way : OnTheWay (run_found bytes) (store_in bytes)
  -- the openings stand behind the head's place of that file
  pub front : (file : List ℕ) → file_size run.depth t ≤ length file
      → Front (run_found bytes) (count_found bytes) (openings_done bytes) (file_taken bytes file)
  -- so what `seal_on` ensures is the root and the file of the tree whose seal was stopped, in its own edition
  pub tree_sealed : (file root sealed_file : List ℕ) → file_size run.depth t ≤ length file
      → Seals (run_found bytes) (store_in bytes) (count_found bytes) (openings_done bytes) (file_taken bytes file) root sealed_file
      → (root ≡ root_of run.edition run.statement run.depth)
      × (sealed_file ≡ tree_file run.edition run.statement run.depth t ++ drop (file_size run.depth t) file)
