-- W-206, each sentence with its proof.
use mathlib.Core.Path.{◌≡◌, refl, sym, ap, ◌∙◌, subst}
use mathlib.Core.Logic.{◌↔◌}
use Prim.Native.Nat.{ℕ, ◌+◌, ◌-◌, ◌*◌, ◌^◌, ◌≤◌, ◌<◌}
use native.Mathlib.Omega.{arith}
use mathlib.Core.Bool.{Bool, true, false}
use mathlib.Core.List.{List, [], ◌∷◌, ◌++◌, map}
use lib.ListN.{length, get_or}
use Rattle.base.specs.Bytes.{big_endian}
use Rattle.base.specs.Limits.{max_edition, IsCount}
use Rattle.base.specs.Row.{no_edition}
use Rattle.machine.specs.Calls.{total}
use Rattle.groups.proofs.Steps.{groups-last}
use Rattle.tree.specs.Nodes.{Node, node, left_child, right_child, parents, left_siblings}
use Rattle.tree.specs.Labels.{Label, ordered, tag, input_head, document_input}
use Rattle.tree.specs.Walk.{nodes_in}
use Rattle.tree.proofs.Labelling.{parents-inner}
use Rattle.tree.proofs.Inputs.{right-before-left, largest-level-first}
use Rattle.labelling.specs.Rule.{stamp_rule}
use Rattle.run.specs.declared.Run.{Run}
use Rattle.run.specs.Rows.{continue_row}
use Rattle.run.specs.Steps.{Stamped}
use Rattle.run_record.specs.Layout.{record_numbers, record_of, record_row}
use Rattle.run_record_theory.specs.Pausing.{Continuable}
use Rattle.run_record_theory.proofs.Pausing.{pausing-keeps-edition}
use Rattle.run_theory.specs.Runs.{called}
use Rattle.run_theory.proofs.Editions.{run-calls-keep-edition, opening-calls-keep-edition}
use Rattle.opening.specs.declared.Opening.{Opening}
use Rattle.opening.specs.Rows.{open_row, reopen_row}
use Rattle.opening.specs.Steps as openings
use Rattle.opening_check.specs.OpeningCheck.{opening_row}
use Rattle.file_head.specs.Challenge.{challenge_row}
use Rattle.file_head.specs.Layout.{head, head_numbers, file_size, head_row}
use Rattle.proof_file.specs.FileCheck.{file_check}
use Rattle.check_theory.specs.IsProof.{IsProof}
use Rattle.check_theory.proofs.Accepted.{exactly-proofs}
use Rattle.writing.specs.declared.Writing.{Writing}
use Rattle.writing.specs.Rows.{write_row, rewrite_row}
use Rattle.writing.specs.Steps as writings
use Rattle.writing_theory.specs.Filed.{file_from}
use Rattle.writing_theory.proofs.Editions.{new-edition, writing-calls-keep-edition}
use Rattle.compare.specs.Comparison.{compare_row}
use Rattle.draw.specs.Drawing.{proof_edition}
use Rattle.draw_theory.proofs.Demand3.{edition-said, proof-of}
use Rattle.demands.specs.Rows.{NoEdition}
use Rattle.demands.specs.Demand1.{AnEdition, InBounds, started_run}
use Rattle.demands.specs.Demand2.{FileIs}
use Rattle.demands.specs.Editions.{old_rule, RefusedFirst, Editions}
use Rattle.demands.proofs.Decisions.{Decides, decides-outside}
use Rattle.demands.proofs.Carrying.{run-started}
use Rattle.demands.proofs.Demand2.{file-is}

-- ---- the order
inner-input :
    (statement : List ℕ) (n : ℕ) (v : Node) (label_of : Node → Label) → v.level < n
    → (stamp_rule 2 n statement).input v (map label_of (parents n v))
    ≡ statement ++ v.level ∷ big_endian 8 v.position ++ (label_of (right_child v) ++ label_of (left_child v))
inner-input statement n v label_of inner =
    ap (λ (vs : List Node). document_input 2 n statement v (map label_of vs)) (parents-inner n v inner)
    ∙ right-before-left n statement v (label_of (left_child v)) (label_of (right_child v))

-- 0, 10 and 1100 in bits
leaf-parents : parents 4 (node 4 13) ≡ node 1 0 ∷ node 2 2 ∷ node 4 12 ∷ []
unfolding parents left_siblings
leaf-parents = refl

leaf-input :
    (statement : List ℕ) (label_of : Node → Label)
    → (stamp_rule 2 4 statement).input (node 4 13) (map label_of (parents 4 (node 4 13)))
    ≡ statement ++ 4 ∷ big_endian 8 13 ++ (label_of (node 4 12) ++ (label_of (node 2 2) ++ label_of (node 1 0)))
leaf-input statement label_of =
    ap (λ (vs : List Node). document_input 2 4 statement (node 4 13) (map label_of vs)) leaf-parents
    ∙ largest-level-first 4 statement (node 4 13) (label_of (node 1 0)) (label_of (node 2 2)) (label_of (node 4 12))

-- ---- what is written
head-says : (edition : ℕ) (statement root : List ℕ) (n t : ℕ) → AnEdition edition → get_or (head edition statement root n t) 0 0 ≡ edition
unfolding head head_numbers
head-says edition statement root n t exists = rw (groups-last 1 edition (omega (arith, exists)))

new-files :
    (statement : List ℕ) (n m t : ℕ) (store bytes labelling budgets : List ℕ) → length statement ≡ 32 → InBounds n m (length store)
    → IsCount t → file_size n t ≤ length bytes → 2 ^ (n + 1) - 1 ≤ total labelling → t * (2 ^ (n - m + 1) - 2) ≤ total budgets
    → FileIs 2 statement n t bytes (file_from (called (started_run statement n m store) labelling) statement n m t bytes budgets)
unfolding nodes_in
new-files statement n m t store bytes labelling budgets size bounds count fits all enough =
    subst (λ (s : Stamped). FileIs 2 statement n t bytes (file_from (called s labelling) statement n m t bytes budgets))
    (sym (run-started statement n m store bounds))
    (file-is 2 statement n m t store bytes labelling budgets (omega arith, omega arith) size bounds count fits all enough)

record-says : (run : Run) → AnEdition run.edition → get_or (record_of run) 0 0 ≡ run.edition
unfolding record_of record_numbers
record-says run exists = rw (groups-last 1 run.edition (omega (arith, exists)))

-- ---- what a start is given
given-opening :
    (edition : ℕ) (statement : List ℕ) (n m leaf store out : ℕ) → open_row edition n m leaf store out ≡ 0
    → (openings.started edition statement n m leaf store out).edition ≡ edition
unfolding openings.started
given-opening edition statement n m leaf store out done = rw done

given-file :
    (edition : ℕ) (statement root : List ℕ) (n m t : ℕ) (store bytes : List ℕ) → write_row edition n m t (length store) (length bytes) ≡ 0
    → (writings.started edition statement root n m t store bytes).writing.opening.edition ≡ edition
unfolding writings.started
given-file edition statement root n m t store bytes done = rw done (new-edition edition statement root n m t store bytes)

-- ---- an edition that does not exist
holds : {condition : Type 0} (test : Bool) → Decides test condition → condition → test ≡ true
holds true decided so = refl
holds false decided so = absurd (decided.no refl so)

no-edition : (edition : ℕ) → NoEdition edition → no_edition edition ≡ true
no-edition edition none = holds (no_edition edition) (decides-outside 1 max_edition edition) none

run-refused : (run : Run) (store : ℕ) → NoEdition run.edition → continue_row run store ≡ 4
unfolding continue_row
run-refused run store none = rw (no-edition run.edition none)

opening-refused : (o : Opening) (store out : ℕ) → NoEdition o.edition → reopen_row o store out ≡ 4
unfolding reopen_row
opening-refused o store out none = rw (no-edition o.edition none)

file-refused : (w : Writing) (store out : ℕ) → NoEdition w.opening.edition → rewrite_row w store out ≡ 4
unfolding rewrite_row
file-refused w store out none = rw (no-edition w.opening.edition none)

record-refused : (run : Run) (out : ℕ) → NoEdition run.edition → record_row run out ≡ 4
unfolding record_row
record-refused run out none = rw (no-edition run.edition none)

refused-first : (edition : ℕ) → NoEdition edition → RefusedFirst edition
unfolding open_row opening_row head_row challenge_row write_row compare_row
refused-first edition none =
    let e = no-edition edition none in
    record {
      starting_opening = λ n m leaf store out. rw e;
      one_opening = λ statement n leaf root bytes. rw e;
      writing_head = λ n t out. rw e;
      challenge = λ n i. rw e;
      starting_file = λ n m t store out. rw e;
      comparing = λ n leaves size. rw e;
    }

-- ---- files of edition 1
old-rule : (n : ℕ) (statement : List ℕ) → stamp_rule 1 n statement ≡ old_rule statement
unfolding document_input input_head ordered tag
old-rule n statement = refl

old-files :
    (bytes statement : List ℕ) (n t : ℕ) → ((j : ℕ) → get_or bytes j 0 < 256)
    → IsProof 1 bytes statement n t ↔ ((file_check bytes statement n t ≡ 0) × (proof_edition bytes ≡ 1))
old-files bytes statement n t small = (
  (λ p. ((exactly-proofs bytes statement n t small).1 (1, p), edition-said 1 bytes statement n t p)),
  (λ said. subst (λ (e : ℕ). IsProof e bytes statement n t) said.1 (proof-of bytes statement n t small said.0)),
)

pub editions : Editions
editions =
    record {
      inner_input = inner-input;
      leaf_input = leaf-input;
      head_says = head-says;
      record_says = record-says;
      new_runs = λ statement n m store bounds. ap (λ (s : Stamped). s.run.edition) (run-started statement n m store bounds);
      new_files = new-files;
      given_opening = given-opening;
      given_file = given-file;
      run_keeps = λ s budgets. run-calls-keep-edition budgets s;
      opening_keeps = λ store s budgets. opening-calls-keep-edition store budgets s;
      file_keeps = λ store s budgets. writing-calls-keep-edition store budgets s;
      pause_keeps =
          λ s portions statement held goes.
          pausing-keeps-edition s (record { arrays = record { statement_size = statement; places_size = held }; goes = goes }) portions;
      run_refused = run-refused;
      opening_refused = opening-refused;
      file_refused = file-refused;
      record_refused = record-refused;
      refused_first = refused-first;
      old_order = old-rule;
      old_files = old-files;
      said_edition = edition-said;
    }
