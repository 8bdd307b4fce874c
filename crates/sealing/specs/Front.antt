-- The openings that a seal has already when it goes on, and what it gives with them.
use Rattle.std.specs.Prelude.{◌≡◌, ℕ, ◌*◌, ◌≤◌, List, ◌++◌, take, drop}
use Rattle.base.specs.Bytes.{joined}
use Rattle.base.specs.Limits.{max_depth, max_challenges}
use Rattle.tree.specs.Openings.{opening_size}
use Rattle.tree.specs.Walk.{nodes_in}
use Rattle.run.specs.declared.Run.{Run}
use Rattle.file_head.specs.Layout.{head_size, file_size}
use Rattle.check_theory.specs.TreeFile.{root_of, tree_openings, tree_file}
use Rattle.checkpoint_theory.specs.OnTheWay.{OnTheWay}
use Rattle.sealing.specs.declared.Seal.{Seal}

-- behind the head's place stand the first q openings of the tree's file in the run's edition
abbrev pub Front : Run → ℕ → ℕ → List ℕ → Type 0
Front run t q file =
    take (q * opening_size run.depth) (drop (head_size run.depth t) file) ≡ joined (tree_openings run.edition run.statement run.depth q)

-- what sealing on ensures: of a run and a store on the way of a start, with the first q openings in the file, the tree's root and file in
-- the run's edition
abbrev pub Seals : Run → List ℕ → ℕ → ℕ → List ℕ → List ℕ → List ℕ → Type 0
Seals run store t q file root sealed_file =
    OnTheWay run store → Front run t q file
    → (root ≡ root_of run.edition run.statement run.depth)
    × (sealed_file ≡ tree_file run.edition run.statement run.depth t ++ drop (file_size run.depth t) file)

-- all labels are made, and some of the openings
pub record Finished (seal : Seal) : Type 0 where
  pub made : seal.run.made ≡ nodes_in seal.run.depth
  pub depth : seal.run.depth ≤ max_depth
  pub count : seal.count ≤ max_challenges
  pub few : seal.done ≤ seal.count
