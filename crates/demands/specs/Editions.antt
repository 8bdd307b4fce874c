-- W-206, 'Edition 2: latest label first', sentence by sentence. That labels, runs, openings, files, acceptance and the drawn chain are what
-- the demands say in either edition is said there, with the edition a variable.
use Rattle.std.specs.Prelude.{◌≡◌, ◌↔◌, ℕ, ◌+◌, ◌-◌, ◌*◌, ◌^◌, ◌≤◌, ◌<◌, List, ◌∷◌, ◌++◌, map, length, get_or}
use Rattle.base.specs.Bytes.{big_endian, joined}
use Rattle.base.specs.Limits.{IsCount}
use Rattle.sha256.specs.Digest.{digest}
use Rattle.machine.specs.Calls.{total, after_calls}
use Rattle.tree.specs.Nodes.{Node, node, left_child, right_child, parents}
use Rattle.tree.specs.Labels.{Label, Rule}
use Rattle.labelling.specs.Rule.{stamp_rule}
use Rattle.run.specs.declared.Run.{Run}
use Rattle.run.specs.Rows.{continue_row}
use Rattle.run.specs.Steps.{Stamped}
use Rattle.run_record.specs.Layout.{record_of, record_row}
use Rattle.run_record_theory.specs.Pausing.{called_pausing}
use Rattle.run_theory.specs.Runs.{called}
use Rattle.opening.specs.declared.Opening.{Opening}
use Rattle.opening.specs.Rows.{open_row, reopen_row}
use Rattle.opening.specs.Steps as openings
use Rattle.opening.specs.Steps.{Open}
use Rattle.opening_check.specs.OpeningCheck.{opening_row}
use Rattle.file_head.specs.Challenge.{challenge_row}
use Rattle.file_head.specs.Layout.{head, file_size, head_row}
use Rattle.proof_file.specs.FileCheck.{file_check}
use Rattle.check_theory.specs.IsProof.{IsProof}
use Rattle.writing.specs.declared.Writing.{Writing}
use Rattle.writing.specs.Rows.{write_row, rewrite_row}
use Rattle.writing.specs.Steps as writings
use Rattle.writing.specs.Steps.{Written}
use Rattle.writing_theory.specs.Filed.{file_from}
use Rattle.compare.specs.Comparison.{compare_row}
use Rattle.draw.specs.Drawing.{proof_edition}
use Rattle.demands.specs.Rows.{NoEdition}
use Rattle.demands.specs.Demand1.{AnEdition, InBounds, started_run}
use Rattle.demands.specs.Demand2.{FileIs}

-- the rule of labels from before the request, word for word: 'statement (32 bytes), level (1 byte), position (8 bytes, big-endian), then the
-- parents' labels: left child before right, and for a leaf smallest level first'
abbrev pub old_rule : List ℕ → Rule
old_rule statement =
    record { input = λ v labels. statement ++ v.level ∷ big_endian 8 v.position ++ joined labels; hash = digest }

-- ---- rows that are given an edition
-- '(12 .. comes first where an opening, a head or a challenge is given its edition.)', whatever else would be refused
pub record RefusedFirst (edition : ℕ) : Type 0 where
  pub starting_opening : (n m leaf store out : ℕ) → open_row edition n m leaf store out ≡ 12
  pub one_opening : (statement : List ℕ) (n leaf : ℕ) (root bytes : List ℕ) → opening_row edition statement n leaf root bytes ≡ 12
  pub writing_head : (n t out : ℕ) → head_row edition n t out ≡ 12
  pub challenge : (n i : ℕ) → challenge_row edition n i ≡ 12
  pub starting_file : (n m t store out : ℕ) → write_row edition n m t store out ≡ 12
  pub comparing : (n : ℕ) (leaves : List ℕ) (size : ℕ) → compare_row edition n leaves size ≡ 12

-- ---- the request
pub record Editions : Type 0 where
  -- 'In it the label made last comes first after the position: right child before left, ..'
  pub inner_input :
      (statement : List ℕ) (n : ℕ) (v : Node) (label_of : Node → Label) → v.level < n
      → (stamp_rule 2 n statement).input v (map label_of (parents n v))
      ≡ statement ++ v.level ∷ big_endian 8 v.position ++ (label_of (right_child v) ++ label_of (left_child v))
  -- '.. and for a leaf the largest level first': leaf 13 of depth 4 has three parents
  pub leaf_input :
      (statement : List ℕ) (label_of : Node → Label)
      → (stamp_rule 2 4 statement).input (node 4 13) (map label_of (parents 4 (node 4 13)))
      ≡ statement ++ 4 ∷ big_endian 8 13 ++ (label_of (node 4 12) ++ (label_of (node 2 2) ++ label_of (node 1 0)))
  -- 'The head says 2 and so does a paused record': the first byte of each is its edition
  pub head_says : (edition : ℕ) (statement root : List ℕ) (n t : ℕ) → AnEdition edition → get_or (head edition statement root n t) 0 0 ≡ edition
  pub record_says : (run : Run) → AnEdition run.edition → get_or (record_of run) 0 0 ≡ run.edition
  -- 'New runs write 2': a run that is started is of edition 2, and so is its file
  pub new_runs : (statement : List ℕ) (n m : ℕ) (store : List ℕ) → InBounds n m (length store) → (started_run statement n m store).run.edition ≡ 2
  pub new_files :
      (statement : List ℕ) (n m t : ℕ) (store bytes labelling budgets : List ℕ) → length statement ≡ 32 → InBounds n m (length store)
      → IsCount t → file_size n t ≤ length bytes → 2 ^ (n + 1) - 1 ≤ total labelling → t * (2 ^ (n - m + 1) - 2) ≤ total budgets
      → FileIs 2 statement n t bytes (file_from (called (started_run statement n m store) labelling) statement n m t bytes budgets)
  -- an opening and a file are of the edition that their start is given
  pub given_opening :
      (edition : ℕ) (statement : List ℕ) (n m leaf store out : ℕ) → open_row edition n m leaf store out ≡ 0
      → (openings.started edition statement n m leaf store out).edition ≡ edition
  pub given_file :
      (edition : ℕ) (statement root : List ℕ) (n m t : ℕ) (store bytes : List ℕ) → write_row edition n m t (length store) (length bytes) ≡ 0
      → (writings.started edition statement root n m t store bytes).writing.opening.edition ≡ edition
  -- 'a run keeps its edition', and an opening and a file do: whatever the state, by any calls; a run also by pauses
  pub run_keeps : (s : Stamped) (budgets : List ℕ) → (called s budgets).run.edition ≡ s.run.edition
  pub opening_keeps :
      (store : List ℕ) (s : Open) (budgets : List ℕ) → (after_calls (openings.advanced store) s budgets).opening.edition ≡ s.opening.edition
  pub file_keeps :
      (store : List ℕ) (s : Written) (budgets : List ℕ)
      → (after_calls (writings.advanced store) s budgets).writing.opening.edition ≡ s.writing.opening.edition
  pub pause_keeps :
      (s : Stamped) (portions : List (List ℕ)) → length s.run.statement ≡ 32 → length s.run.held ≡ 1312
      → continue_row s.run (length s.store) ≡ 0 → (called_pausing s portions).run.edition ≡ s.run.edition
  -- '.. and one that does not exist gets 4', where a run, an opening or a file is continued and where a record is written
  pub run_refused : (run : Run) (store : ℕ) → NoEdition run.edition → continue_row run store ≡ 4
  pub opening_refused : (o : Opening) (store out : ℕ) → NoEdition o.edition → reopen_row o store out ≡ 4
  pub file_refused : (w : Writing) (store out : ℕ) → NoEdition w.opening.edition → rewrite_row w store out ≡ 4
  pub record_refused : (run : Run) (out : ℕ) → NoEdition run.edition → record_row run out ≡ 4
  pub refused_first : (edition : ℕ) → NoEdition edition → RefusedFirst edition
  -- 'files of edition 1 are still checked by their own order': edition 1's rule is the old one, and the files of edition 1 that are accepted
  -- now are just the proofs by it, which were accepted before, since challenges and layout of edition 1 are what they were
  pub old_order : (n : ℕ) (statement : List ℕ) → stamp_rule 1 n statement ≡ old_rule statement
  pub old_files :
      (bytes statement : List ℕ) (n t : ℕ) → ((j : ℕ) → get_or bytes j 0 < 256)
      → IsProof 1 bytes statement n t ↔ ((file_check bytes statement n t ≡ 0) × (proof_edition bytes ≡ 1))
  -- 'An owner's acceptance and the drawn chain mean the same for either edition': demands 2 and 3 speak of the edition that the bytes say
  pub said_edition : (edition : ℕ) (bytes statement : List ℕ) (n t : ℕ) → IsProof edition bytes statement n t → proof_edition bytes ≡ edition
