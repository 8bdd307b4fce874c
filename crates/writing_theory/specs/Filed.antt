-- What a writing and its file hold when k labels are made from a start, over a store as a finished run left it.
use Rattle.std.specs.Prelude.{ℕ, ◌+◌, ◌-◌, ◌*◌, ◌/◌, ◌≤◌, min, List, ◌++◌, eqb, take, drop}
use Rattle.base.specs.Choice.{pick}
use Rattle.base.specs.Bytes.{joined}
use Rattle.base.specs.Limits.{IsEdition, IsDepth, IsMemory, IsCount}
use Rattle.machine.specs.Calls.{after_calls}
use Rattle.tree.specs.Store.{store_size}
use Rattle.tree.specs.Openings.{opening_size}
use Rattle.run.specs.Steps.{Stamped}
use Rattle.opening.specs.Rows.{nodes_anew}
use Rattle.opening.specs.Steps.{Open}
use Rattle.file_head.specs.Challenge.{challenge_leaf}
use Rattle.file_head.specs.Layout.{head, head_size, file_size}
use Rattle.run_theory.specs.Openings.{open_after}
use Rattle.check_theory.specs.TreeFile.{root_of, tree_openings}
use Rattle.writing.specs.Steps.{Written, new_writing, started, advanced}

-- the six conditions of a start, over the lengths of store and file
pub record Writable (edition n m t store file : ℕ) : Type 0 where
  pub exists : IsEdition edition
  pub depth : IsDepth n
  pub memory : IsMemory n m
  pub store_fits : store_size m ≤ store
  pub count : IsCount t
  pub file_fits : file_size n t ≤ file

-- a new writing of an edition's file of the tree
abbrev pub new_file : ℕ → List ℕ → ℕ → ℕ → ℕ → List ℕ → List ℕ → Written
new_file edition statement n m t store file = new_writing edition statement (root_of edition statement n) n m t store file

-- all labels that a file of t openings takes
abbrev pub labels_anew : ℕ → ℕ → ℕ → ℕ
labels_anew n m t = t * nodes_anew n m

-- the file after calls with these budgets, started from a run with its store, and of the run's edition
abbrev pub file_from : Stamped → List ℕ → ℕ → ℕ → ℕ → List ℕ → List ℕ → List ℕ
file_from s statement n m t file budgets =
    (after_calls (advanced s.store) (started s.run.edition statement (take 32 s.run.held) n m t s.store file) budgets).file

-- the head and the first q openings of the tree's file, and their size
unfoldable pub laid : ℕ → List ℕ → ℕ → ℕ → ℕ → List ℕ
laid edition statement n t q = head edition statement (root_of edition statement n) n t ++ joined (tree_openings edition statement n q)

unfoldable pub laid_size : ℕ → ℕ → ℕ → ℕ
laid_size n t q = head_size n t + q * opening_size n

-- an opening and its part under way as opening q + 1, between the bytes before and after
unfoldable pub under_way : List ℕ → ℕ → ℕ → List ℕ → Open → List ℕ → Written
under_way root t q before o after =
    record {
      writing = record { root = root; count = t; number = q + 1; opening = o.opening };
      file = before ++ (o.out ++ after);
    }

-- the leaf of opening q + 1
abbrev pub leaf_after : ℕ → List ℕ → ℕ → ℕ → ℕ
leaf_after edition statement n q = challenge_leaf edition n statement (root_of edition statement n) (q + 1)

-- q openings written, and r labels of the next
unfoldable pub written_at : ℕ → List ℕ → ℕ → ℕ → ℕ → List ℕ → ℕ → ℕ → Written
written_at edition statement n m t file q r =
    under_way (root_of edition statement n) t q (laid edition statement n t q)
    (open_after edition statement n m (leaf_after edition statement n q) r (take (opening_size n) (drop (laid_size n t q) file)))
    (drop (laid_size n t (q + 1)) file)

-- the openings done before the one under way after k labels; the last one stays under way
unfoldable pub openings_done : ℕ → ℕ → ℕ → ℕ → ℕ
openings_done n m t k = pick (eqb (nodes_anew n m) 0) (t - 1) (min (k / nodes_anew n m) (t - 1))

-- the writing and its file after k labels
unfoldable pub written_after : ℕ → List ℕ → ℕ → ℕ → ℕ → List ℕ → ℕ → Written
written_after edition statement n m t file k =
    let q : ℕ = openings_done n m t k in
    written_at edition statement n m t file q (k - q * nodes_anew n m)
