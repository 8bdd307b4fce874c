-- Demand 2, sentence by sentence.
use Rattle.std.specs.Prelude.{◌≡◌, ◌↔◌, ℕ, ◌+◌, ◌-◌, ◌*◌, ◌/◌, ◌^◌, ◌≤◌, ◌<◌, min, eqb, length, take, drop, get_or}
use mathlib.Core.List.{List, ◌∷◌, ◌++◌, map, reverse, flatten}
use Rattle.base.specs.Limits.{IsDepth, IsCount}
use Rattle.base.specs.Bytes.{big_endian, joined}
use Rattle.base.specs.Choice.{pick}
use Rattle.sha256.specs.Digest.{digest}
use Rattle.sha256.specs.Portions.{new_hash, updated_all, AllDone, finish_row, finish_digest, digest_row, digest_answer}
use Rattle.tree.specs.Nodes.{Node, root, InTree, parents}
use Rattle.tree.specs.Labels.{Label, label}
use Rattle.tree.specs.Store.{slot}
use Rattle.tree.specs.Openings.{opening_nodes, Right}
use Rattle.labelling.specs.Rule.{stamp_rule}
use Rattle.run.specs.Steps as runs
use Rattle.run.specs.Steps.{Stamped}
use Rattle.opening.specs.Steps as openings
use Rattle.opening_check.specs.OpeningCheck.{given_by, opening_row}
use Rattle.file_head.specs.Challenge.{challenge_word, big_endian_value, challenged}
use Rattle.file_head.specs.Layout.{file_size, file}
use Rattle.proof_file.specs.FileCheck.{file_check}
use Rattle.run_theory.specs.Reached.{run_after, store_after}
use Rattle.machine.specs.Calls.{total, after_calls}
use Rattle.check_theory.specs.IsProof.{RightAlone, IsProof}
use Rattle.check_theory.specs.TreeFile.{tree_openings}
use Rattle.writing_theory.specs.Filed.{file_from}
use Rattle.demands.specs.Demand1.{AnEdition, InBounds, run_at_start, started_opening}

-- ---- 'Statement, labels, challenges, openings and verdict are those of the paper over SHA-256, laid out as document 01 says.'
-- 'The statement is SHA-256 of the report, which may be empty': in any portions, and at once
pub record StatementIs (report : List (List ℕ)) : Type 0 where
  pub portions : AllDone new_hash report
  pub ends : finish_row (updated_all new_hash report) ≡ 0
  pub hash : finish_digest (updated_all new_hash report) ≡ digest (flatten report)
  pub at_once : (digest_row (flatten report) ≡ 0) × (digest_answer (flatten report) ≡ digest (flatten report))

-- 'left child before right, and for a leaf smallest level first', as the parents are listed; W-206, in edition 2: 'the label made last
-- comes first .. right child before left, and for a leaf the largest level first'
abbrev pub in_order : ℕ → List Label → List Label
in_order edition labels = pick (eqb edition 1) labels (reverse labels)

-- 'A label is SHA-256 of: statement (32 bytes), level (1 byte), position (8 bytes, big-endian), then the parents' labels': what a
-- labelling gives a node by that
abbrev pub hash_of : ℕ → List ℕ → ℕ → (Node → Label) → Node → Label
hash_of edition statement n label_of v =
    digest (statement ++ v.level ∷ big_endian 8 v.position ++ joined (in_order edition (map label_of (parents n v))))

-- the paper's Definition 1 as an equation, which the labels meet and nothing else
pub record LabelsAre (edition : ℕ) (statement : List ℕ) (n : ℕ) : Type 0 where
  pub equation :
      (v : Node) → InTree n v
      → label (stamp_rule edition n statement) n v ≡ hash_of edition statement n (label (stamp_rule edition n statement) n) v
  pub only :
      (label_of : Node → Label) → ((v : Node) → InTree n v → label_of v ≡ hash_of edition statement n label_of v)
      → (v : Node) → InTree n v → label_of v ≡ label (stamp_rule edition n statement) n v

-- a run of an edition and its store after calls with any budgets
abbrev pub run_from : ℕ → List ℕ → ℕ → ℕ → List ℕ → List ℕ → Stamped
run_from edition statement n m store budgets = after_calls runs.advanced (run_at_start edition statement n m store) budgets

-- It has made the labels of the first k nodes in labelling order, holds those that are held, and those of levels 0 to m are stored;
-- when all are made the store has each in its slot.
pub record RunLabels (edition : ℕ) (statement : List ℕ) (n m : ℕ) (store budgets : List ℕ) : Type 0 where
  pub run : (run_from edition statement n m store budgets).run ≡ run_after edition statement n m (min (total budgets) (2 ^ (n + 1) - 1))
  pub stored : (run_from edition statement n m store budgets).store ≡ store_after edition statement n m (min (total budgets) (2 ^ (n + 1) - 1)) store
  pub slots :
      2 ^ (n + 1) - 1 ≤ total budgets → (v : Node) → InTree n v → v.level ≤ m
      → take 32 (drop (slot v) (run_from edition statement n m store budgets).store) ≡ label (stamp_rule edition n statement) n v

-- 'SHA-256 of the statement, then the nine ASCII bytes `challenge`, then the root, then i in 4 bytes big-endian. The first n bits of
-- the result are the leaf's position.'
pub record ChallengeIs (edition n : ℕ) (statement root : List ℕ) (i : ℕ) : Type 0 where
  pub leaf :
      challenged edition n statement root i ≡
      big_endian_value (digest (statement ++ challenge_word ++ root ++ big_endian 4 i)) / 2 ^ (256 - n)
  pub inside : challenged edition n statement root i < 2 ^ n

-- an opening's output after calls with any budgets, over the store of a run
abbrev pub opening_from : Stamped → ℕ → List ℕ → ℕ → ℕ → ℕ → List ℕ → List ℕ → List ℕ
opening_from s edition statement n m leaf out budgets =
    (after_calls (openings.advanced s.store) (started_opening edition statement n m leaf s.store out) budgets).out

-- 'An opening is the leaf's label, then its path's siblings from level n to level 1'; no other byte is written; it is right
pub record OpeningIs (edition : ℕ) (statement : List ℕ) (n leaf : ℕ) (out after : List ℕ) : Type 0 where
  pub labels : take (32 * (n + 1)) after ≡ joined (map (label (stamp_rule edition n statement) n) (opening_nodes n leaf))
  pub behind : drop (32 * (n + 1)) after ≡ drop (32 * (n + 1)) out
  pub right : Right (stamp_rule edition n statement) n leaf (given_by (take (32 * (n + 1)) after)) (label (stamp_rule edition n statement) n root)

-- ---- 'The file from a finished run and its untouched store is the same for every memory level and is accepted'
-- the file after labelling and writing, each in calls with any budgets
abbrev pub filed_from : ℕ → List ℕ → ℕ → ℕ → ℕ → List ℕ → List ℕ → List ℕ → List ℕ → List ℕ
filed_from edition statement n m t store file labelling budgets =
    file_from (run_from edition statement n m store labelling) statement n m t file budgets

-- the tree's root and its openings of the challenged leaves, laid out as document 01 says; no other byte is written
pub record FileIs (edition : ℕ) (statement : List ℕ) (n t : ℕ) (bytes after : List ℕ) : Type 0 where
  pub same :
      take (file_size n t) after
      ≡ file edition statement (label (stamp_rule edition n statement) n root) n t (tree_openings edition statement n t)
  pub behind : drop (file_size n t) after ≡ drop (file_size n t) bytes
  pub accepted : file_check (take (file_size n t) after) statement n t ≡ 0

-- ---- the demand
pub record Demand2 : Type 0 where
  pub statement : (report : List (List ℕ)) → length (flatten report) ≤ 2 ^ 61 - 1 → StatementIs report
  pub labels : (edition : ℕ) (statement : List ℕ) (n : ℕ) → LabelsAre edition statement n
  pub run :
      (edition : ℕ) (statement : List ℕ) (n m : ℕ) (store budgets : List ℕ) → AnEdition edition → InBounds n m (length store)
      → RunLabels edition statement n m store budgets
  pub challenges :
      (edition n : ℕ) (statement root : List ℕ) (i : ℕ) → AnEdition edition → IsDepth n → IsCount i → ChallengeIs edition n statement root i
  pub openings :
      (edition : ℕ) (statement : List ℕ) (n m leaf : ℕ) (store out labelling budgets : List ℕ) → AnEdition edition
      → InBounds n m (length store) → leaf < 2 ^ n → 32 * (n + 1) ≤ length out
      → 2 ^ (n + 1) - 1 ≤ total labelling → 2 ^ (n - m + 1) - 2 ≤ total budgets
      → OpeningIs edition statement n leaf out (opening_from (run_from edition statement n m store labelling) edition statement n m leaf out budgets)
  pub verdict :
      (edition : ℕ) (statement : List ℕ) (n leaf : ℕ) (root bytes : List ℕ) → opening_row edition statement n leaf root bytes ≡ 0
      ↔ RightAlone edition statement n leaf root bytes
  pub file :
      (edition : ℕ) (statement : List ℕ) (n m t : ℕ) (store file labelling budgets : List ℕ) → AnEdition edition → length statement ≡ 32
      → InBounds n m (length store) → IsCount t → file_size n t ≤ length file
      → 2 ^ (n + 1) - 1 ≤ total labelling → t * (2 ^ (n - m + 1) - 2) ≤ total budgets
      → FileIs edition statement n t file (filed_from edition statement n m t store file labelling budgets)
  pub one_file :
      (edition : ℕ) (statement : List ℕ) (n m m' t : ℕ) (store store' file labelling labelling' budgets budgets' : List ℕ)
      → AnEdition edition → length statement ≡ 32
      → InBounds n m (length store) → InBounds n m' (length store') → IsCount t → file_size n t ≤ length file
      → 2 ^ (n + 1) - 1 ≤ total labelling → 2 ^ (n + 1) - 1 ≤ total labelling'
      → t * (2 ^ (n - m + 1) - 2) ≤ total budgets → t * (2 ^ (n - m' + 1) - 2) ≤ total budgets'
      → filed_from edition statement n m t store file labelling budgets ≡ filed_from edition statement n m' t store' file labelling' budgets'
  -- 'a file is accepted only if all its openings obey the paper, and always if they do and the rest is as document 01 says', in the edition
  -- that its head says
  pub accepted :
      (bytes statement : List ℕ) (n t : ℕ) → ((j : ℕ) → get_or bytes j 0 < 256)
      → file_check bytes statement n t ≡ 0 ↔ ((edition : ℕ) × IsProof edition bytes statement n t)
