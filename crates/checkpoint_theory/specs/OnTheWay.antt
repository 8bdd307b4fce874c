-- A seal on its way, and what it leaves on the disk.
use Rattle.std.specs.Prelude.{◌≡◌, ℕ, ◌≤◌, List, ◌++◌, length}
use Rattle.base.specs.Bytes.{joined}
use Rattle.tree.specs.Store.{store_size}
use Rattle.tree.specs.Walk.{nodes_in}
use Rattle.run.specs.declared.Run.{Run}
use Rattle.run.specs.Steps.{stamped, steps}
use Rattle.run_theory.specs.Runs.{Startable, at_start}
use Rattle.check_theory.specs.TreeFile.{tree_openings}
use Rattle.checkpoint.specs.Layout.{checkpoint_of}

-- the run and its store are those after so many labels from a start of the run's edition
pub record OnTheWay (run : Run) (store : List ℕ) : Type 0 where
  pub first : List ℕ
  pub startable : Startable run.edition run.depth run.memory (length first)
  pub whole : length store ≡ store_size run.memory
  pub statement_size : length run.statement ≡ 32
  pub few : run.made ≤ nodes_in run.depth
  pub reached : stamped run store ≡ steps run.made (at_start run.edition run.statement run.depth run.memory first)

-- the checkpoint, and behind it the first q openings of the tree's file in the run's edition
abbrev pub on_disk : Run → ℕ → List ℕ → ℕ → List ℕ
on_disk run t store q = checkpoint_of run t store ++ joined (tree_openings run.edition run.statement run.depth q)
