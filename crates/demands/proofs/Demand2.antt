-- Demand 2, each sentence with its proof.
use mathlib.Core.Path.{◌≡◌, sym, ap, ◌∙◌}
use Prim.Native.Nat.{ℕ, ◌+◌, ◌-◌, ◌*◌, ◌^◌, ◌≤◌, ◌<◌, min}
use native.Mathlib.Omega.{arith}
use mathlib.Core.List.{List, ◌++◌, flatten}
use lib.ListN.{length, drop}
use lib.Seq.{take_at, drop_at}
use borrow.Author.Tests.{lt-leb}
use Rattle.base.specs.Limits.{max_hashed, IsDepth, IsCount}
use Rattle.sha256.specs.Digest.{digest}
use Rattle.sha256.specs.Portions.{digest_row, digest_answer}
use Rattle.sha256.proofs.Portions.{in-portions}
use Rattle.tree.specs.Walk.{nodes_in}
use Rattle.tree.specs.Labels.{ordered, tag, input_head, document_input}
use Rattle.tree.proofs.Labelling.{label-labels, labelling-unique}
use Rattle.labelling.specs.Rule.{stamp_rule}
use Rattle.run.specs.Steps as runs
use Rattle.run.specs.Steps.{Stamped}
use Rattle.opening.specs.Rows.{nodes_anew}
use Rattle.opening.specs.Steps as openings
use Rattle.file_head.specs.Challenge.{challenge_input, challenge_leaf, challenged}
use Rattle.file_head.specs.Layout.{file_size}
use Rattle.machine.specs.Calls.{total, after_calls}
use Rattle.run_theory.specs.Runs.{LevelsFit, at_start, called, reached_at}
use Rattle.run_theory.specs.Openings.{Openable, new_open}
use Rattle.run_theory.proofs.StartLaws.{levels-fit}
use Rattle.run_theory.proofs.RunLaws.{run-reached, called-cut}
use Rattle.run_theory.proofs.OpeningCalls.{started-fits, started_out-fits}
use Rattle.run_theory.proofs.Finished.{finished-length, finished-holds, finished-opening}
use Rattle.check_theory.specs.TreeFile.{tree_file, opening_of}
use Rattle.file_head.proofs.Leaves.{challenge_leaf-small}
use Rattle.file_head.proofs.RowLaws.{challenge-done}
use Rattle.check_theory.proofs.RowLaws.{opening-done, done-opening}
use Rattle.check_theory.proofs.TreeFile.{opening-size, opening-right, length-tree_file}
use Rattle.check_theory.proofs.Accepted.{exactly-proofs}
use Rattle.writing_theory.specs.Filed.{file_from}
use Rattle.writing_theory.proofs.Laid.{front-accepted}
use Rattle.writing_theory.proofs.Finished.{run-to-file}
use Rattle.demands.specs.Demand1.{AnEdition, InBounds, started_opening}
use Rattle.demands.specs.Demand2.{StatementIs, LabelsAre, run_from, RunLabels, ChallengeIs, opening_from, OpeningIs, filed_from, FileIs, Demand2}
use Rattle.demands.proofs.Carrying.{startable, can-open, run-at-start}

-- ---- statement
at-once : (m : List ℕ) → length m ≤ max_hashed → (digest_row m ≡ 0) × (digest_answer m ≡ digest m)
unfolding digest_row digest_answer
at-once m small =
    let fits = lt-leb (max_hashed + 1) (0 + length m) (omega arith) in
    (rw fits, rw fits)

statement-is : (report : List (List ℕ)) → length (flatten report) ≤ 2 ^ 61 - 1 → StatementIs report
statement-is report small =
    let p = in-portions report small in
    record { portions = p.taken; ends = p.done; hash = p.same; at_once = at-once (flatten report) small }

-- ---- labels
labels-are : (edition : ℕ) (statement : List ℕ) (n : ℕ) → LabelsAre edition statement n
unfolding document_input input_head ordered tag
labels-are edition statement n =
    record {
      equation = label-labels (stamp_rule edition n statement) n;
      only = λ label_of meets. labelling-unique (stamp_rule edition n statement) n label_of meets;
    }

fit-bounds : (edition n m store : ℕ) → AnEdition edition → InBounds n m store → LevelsFit n m store
fit-bounds edition n m store exists bounds = levels-fit edition n m store (startable edition n m store exists bounds)

module _
    (edition : ℕ) (statement : List ℕ) (n m : ℕ) (store : List ℕ) (exists : AnEdition edition) (bounds : InBounds n m (length store)) where
  run-called : (budgets : List ℕ) → run_from edition statement n m store budgets ≡ called (at_start edition statement n m store) budgets
  run-called budgets = ap (λ (s : Stamped). after_calls runs.advanced s budgets) (run-at-start edition statement n m store)

  run-steps :
      (budgets : List ℕ)
      → run_from edition statement n m store budgets ≡ runs.steps (min (total budgets) (nodes_in n)) (at_start edition statement n m store)
  run-steps budgets = run-called budgets ∙ called-cut edition statement n m store (startable edition n m (length store) exists bounds) budgets

  run_at : (budgets : List ℕ) → run_from edition statement n m store budgets ≡ reached_at edition statement n m store (min (total budgets) (nodes_in n))
  run_at budgets = run-steps budgets ∙ run-reached edition statement n m store bounds.depth.1 (min (total budgets) (nodes_in n)) (omega arith)

  -- a finished run
  run-finished :
      (budgets : List ℕ) → nodes_in n ≤ total budgets
      → run_from edition statement n m store budgets ≡ runs.steps (nodes_in n) (at_start edition statement n m store)
  run-finished budgets all =
      let whole : min (total budgets) (nodes_in n) ≡ nodes_in n = omega arith in
      run-steps budgets ∙ rw whole

  run-labels : (budgets : List ℕ) → RunLabels edition statement n m store budgets
  unfolding nodes_in
  run-labels budgets =
      record {
        run = ap (λ (s : Stamped). s.run) (run_at budgets);
        stored = ap (λ (s : Stamped). s.store) (run_at budgets);
        slots =
            λ all v in_tree low.
            rw (run-finished budgets all)
            (finished-holds edition statement n m store (fit-bounds edition n m (length store) exists bounds) m (omega arith) v (low, in_tree.1));
      }

-- ---- challenges
challenge-is :
    (edition n : ℕ) (statement root : List ℕ) (i : ℕ) → AnEdition edition → IsDepth n → IsCount i → ChallengeIs edition n statement root i
unfolding challenged challenge_leaf challenge_input
challenge-is edition n statement root i exists depth count =
    let done = challenge-done edition n i exists depth count in
    record { leaf = rw done; inside = rw done (challenge_leaf-small edition n statement root i (omega (arith, depth.1))) }

-- ---- openings
pub opening-started :
    (edition : ℕ) (statement : List ℕ) (n m leaf : ℕ) (store out : List ℕ) → Openable edition n m leaf (length store) (length out)
    → started_opening edition statement n m leaf store out ≡ new_open edition statement n m leaf store out
opening-started edition statement n m leaf store out fits =
    rw (started-fits edition statement n m leaf (length store) (length out) fits, started_out-fits edition n m leaf store out fits)

module _ (edition : ℕ) (statement : List ℕ) (n leaf : ℕ) (out : List ℕ) (exists : AnEdition edition) (inside : leaf < 2 ^ n) where
  tree-opening : OpeningIs edition statement n leaf out (opening_of edition statement n leaf ++ drop (32 * (n + 1)) out)
  tree-opening =
      let bytes : List ℕ = opening_of edition statement n leaf in
      let front = take_at bytes (drop (32 * (n + 1)) out) (32 * (n + 1)) (opening-size edition statement n leaf) in
      record {
        labels = front;
        behind = drop_at bytes (drop (32 * (n + 1)) out) (32 * (n + 1)) (opening-size edition statement n leaf);
        right = rw front (opening-right edition statement n leaf inside);
      }

  -- the opening from a finished run's store, at the run's level and at every lower one
  pub opening-lower :
      (m lower : ℕ) (store budgets : List ℕ) → LevelsFit n m (length store) → lower ≤ m → InBounds n lower (length store)
      → 32 * (n + 1) ≤ length out → nodes_anew n lower ≤ total budgets
      → OpeningIs edition statement n leaf out
      (opening_from (runs.steps (nodes_in n) (at_start edition statement n m store)) edition statement n lower leaf out budgets)
  opening-lower m lower store budgets fit le bounds room enough =
      let after : List ℕ = (runs.steps (nodes_in n) (at_start edition statement n m store)).store in
      let fits : Openable edition n lower leaf (length after) (length out) =
      rw (finished-length edition statement n m store fit) (can-open edition n lower (length store) exists bounds leaf (length out) inside room) in
      rw
      (ap (λ (o : openings.Open). (after_calls (openings.advanced after) o budgets).out) (opening-started edition statement n lower leaf after out fits)
      ∙ finished-opening edition statement n m store fit lower leaf out le fits budgets enough)
      tree-opening

  opening-is :
      (m : ℕ) (store labelling budgets : List ℕ) → InBounds n m (length store) → 32 * (n + 1) ≤ length out
      → nodes_in n ≤ total labelling → nodes_anew n m ≤ total budgets
      → OpeningIs edition statement n leaf out (opening_from (run_from edition statement n m store labelling) edition statement n m leaf out budgets)
  opening-is m store labelling budgets bounds room all enough =
      rw (run-finished edition statement n m store exists bounds labelling all)
      (opening-lower m m store budgets (fit-bounds edition n m (length store) exists bounds) (omega arith) bounds room enough)

-- ---- the file
pub tree-file :
    (edition : ℕ) (statement : List ℕ) (n t : ℕ) (bytes : List ℕ) → AnEdition edition → length statement ≡ 32 → IsDepth n → IsCount t
    → FileIs edition statement n t bytes (tree_file edition statement n t ++ drop (file_size n t) bytes)
unfolding tree_file
tree-file edition statement n t bytes exists size depth count =
    let whole : length (tree_file edition statement n t) ≡ file_size n t = length-tree_file edition statement n t (omega (arith, depth)) size in
    record {
      same = take_at (tree_file edition statement n t) (drop (file_size n t) bytes) (file_size n t) whole;
      behind = drop_at (tree_file edition statement n t) (drop (file_size n t) bytes) (file_size n t) whole;
      accepted = front-accepted edition statement n t (drop (file_size n t) bytes) exists size depth count;
    }

module _
    (edition : ℕ) (statement : List ℕ) (n m t : ℕ) (store file labelling budgets : List ℕ) (exists : AnEdition edition)
    (size : length statement ≡ 32)
    (bounds : InBounds n m (length store)) (count : IsCount t) (fits : file_size n t ≤ length file) (all : nodes_in n ≤ total labelling)
    (enough : t * nodes_anew n m ≤ total budgets) where
  filed-tree : filed_from edition statement n m t store file labelling budgets ≡ tree_file edition statement n t ++ drop (file_size n t) file
  filed-tree =
      ap (λ (s : Stamped). file_from s statement n m t file budgets) (run-called edition statement n m store exists bounds labelling)
      ∙ run-to-file edition statement n m store (startable edition n m (length store) exists bounds) t file size count fits labelling budgets all enough

  pub file-is : FileIs edition statement n t file (filed_from edition statement n m t store file labelling budgets)
  file-is = rw filed-tree (tree-file edition statement n t file exists size bounds.depth count)

pub demand2 : Demand2
unfolding nodes_in
demand2 =
    record {
      statement = statement-is;
      labels = labels-are;
      run = λ edition statement n m store budgets exists bounds. run-labels edition statement n m store exists bounds budgets;
      challenges = challenge-is;
      openings =
          λ edition statement n m leaf store out labelling budgets exists bounds inside fits all enough.
          opening-is edition statement n leaf out exists inside m store labelling budgets bounds fits all enough;
      verdict =
          λ edition statement n leaf root bytes.
          (done-opening edition statement n leaf root bytes, opening-done edition statement n leaf root bytes);
      file =
          λ edition statement n m t store file labelling budgets exists size bounds count fits all enough.
          file-is edition statement n m t store file labelling budgets exists size bounds count fits all enough;
      one_file =
          λ edition statement n m m' t store store' file labelling labelling' budgets budgets' exists size bounds bounds' count fits all all' enough
          enough'.
          filed-tree edition statement n m t store file labelling budgets exists size bounds count fits all enough
          ∙ sym (filed-tree edition statement n m' t store' file labelling' budgets' exists size bounds' count fits all' enough');
      accepted = exactly-proofs;
    }
