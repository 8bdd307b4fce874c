-- W-203, each sentence with its proof.
use mathlib.Core.Path.{◌≡◌, refl, ◌∙◌}
use mathlib.Core.Logic.{inr, ⊎_elim}
use Prim.Native.Nat.{ℕ, ◌≤◌, ◌<◌}
use native.Mathlib.Omega.{arith}
use mathlib.Core.Bool.{true}
use mathlib.Core.List.{List, [], ◌∷◌, ◌++◌, append-nil}
use lib.Dec.{ltb}
use lib.ListN.{length, get_or, drop}
use borrow.Author.Tests.{le-ltb, not-false}
use Rattle.base.specs.Choice.{every}
use Rattle.base.specs.Bytes.{joined}
use Rattle.base.proofs.ChoiceLaws.{lt-or-le}
use Rattle.base.proofs.Ranges.{in-range, within, above-range}
use Rattle.base.proofs.RowLaws.{never-gives}
use Rattle.base.proofs.WrittenLaws.{written_none}
use Rattle.chain_theory.specs.Ways.{chain, chain_codes}
use Rattle.chain_theory.specs.Planning.{is_leaf}
use Rattle.chain_theory.specs.Counts.{different}
use Rattle.chain_theory.proofs.Counting.{chain-count, chain-none, largest-none, root-largest, largest-root-only}
use Rattle.chain.specs.Leaves.{leaves_checks}
use Rattle.chain.specs.PlanRow.{plan_row, planned_count, planned_list}
use Rattle.chain.proofs.Rows.{plan-passed}
use Rattle.decimal.specs.Ascii.{ascii}
use Rattle.decimal.specs.Text.{digits, decimal}
use Rattle.decimal.specs.Numbers.{numbers, numbers_from}
use Rattle.planning.specs.Input.{unreadable}
use Rattle.planning.specs.Output.{head_text, nodes_text, plan_text, printed}
use Rattle.file_head.specs.Challenge.{challenge_row}
use Rattle.file_head.specs.Layout.{head_row}
use Rattle.file_head.specs.Head as read
use Rattle.file_head.specs.Head.{head_of}
use Rattle.file_head.proofs.HeadLaws.{head-within}
use Rattle.proof_file.specs.FileCheck.{file_check}
use Rattle.check_theory.proofs.Accepted.{exactly-proofs}
use Rattle.writing.specs.Rows.{write_row}
use Rattle.compare.specs.Comparison.{compare_row}
use Rattle.draw.specs.Drawing.{drawn_chain, drawing_of}
use Rattle.draw_theory.proofs.Demand3.{chain-exactly}
use Rattle.demands.specs.Rows.{IsFirst, Unreadable, planning_program}
use Rattle.demands.specs.Demand1.{AnEdition, PlanningProgram}
use Rattle.demands.specs.EmptyPlan.{PlannedEmpty, WholeTree, NoProof, EmptyPlan}
use Rattle.demands.proofs.Decisions.{one_answer}
use Rattle.demands.proofs.Checks.{planning-row}
use Rattle.demands.proofs.Programs.{planning-program}

module _ (n : ℕ) (inside : (1 ≤ n) × (n ≤ 40)) where
  -- ---- planning
  row_done : (list : ℕ) → plan_row n [] list ≡ 0
  unfolding plan_row every
  row_done list = rw (within 1 40 n inside, chain-none n, le-ltb list 0 (omega arith))

  planned-empty : (list : List ℕ) → PlannedEmpty n list
  unfolding planned_count planned_list chain_codes
  planned-empty list =
      record {
        answer = row_done (length list);
        count = rw (row_done (length list), chain-none n);
        untouched = rw (row_done (length list), chain-none n) (written_none list 0);
      }

  -- ---- the program
  module _ (input : List ℕ) (readable : Unreadable input → ⊥) (one : numbers input ≡ n ∷ []) where
    row-input : plan_row (get_or (numbers input) 0 0) (drop 1 (numbers input)) 6855 ≡ 0
    row-input = rw one (row_done 6855)

    head-only : printed input ≡ head_text n 0 0
    unfolding different nodes_text joined
    head-only =
        let p : PlanningProgram input = planning-program input in
        let first : IsFirst (planning_program input) 0 =
        inr (readable, rw row-input at (planning-row (get_or (numbers input) 0 0) (drop 1 (numbers input)) 6855)) in
        let none : p.number ≡ 0 = one_answer (planning_program input) p.number 0 p.answer first in
        p.done none ∙ rw (one, chain-none n) (append-nil (head_text n 0 0))

  -- ---- 0 challenges
  no_proof : (edition : ℕ) → AnEdition edition → NoProof edition n
  unfolding challenge_row head_row write_row compare_row
  no_proof edition exists =
      let there = within 1 2 edition exists in
      let depth = within 1 40 n inside in
      record {
        challenge = rw (there, depth);
        head = λ out. rw (there, depth);
        writing = λ m store out bounds. rw (there, depth, le-ltb _ m bounds.memory, le-ltb store _ bounds.room);
        comparing = λ size. rw (there, depth);
      }

depth-two : printed (ascii "2") ≡ ascii "depth 2 leaves 0 chain 0\n"
unfolding printed plan_text plan_row head_text nodes_text unreadable numbers numbers_from decimal digits every different joined
depth-two = rw (chain-none 2)

whole-tree : (n : ℕ) → WholeTree n
unfolding different
whole-tree n = record { opened = refl; largest = root-largest n; single = largest-root-only n; counted = largest-none n }

-- ---- the count of every plan
module _ (n : ℕ) (leaves : List ℕ) (list : ℕ) (done : plan_row n leaves list ≡ 0) where
  count-is-length : planned_count n leaves list ≡ length (chain n leaves)
  unfolding planned_count
  count-is-length = rw done

  all-leaves : every (is_leaf n) leaves ≡ true
  all-leaves = not-false _ (plan-passed n leaves list done).1.1.0

-- ---- above 200 leaves
not_within : (n : ℕ) (leaves : List ℕ) (list : ℕ) → length leaves ≤ 200 → plan_row n leaves list ≡ 8 → ⊥
unfolding plan_row
not_within n leaves list few =
    never-gives (leaves_checks 0 n leaves ++ (ltb list (length (chain n leaves)), 16) ∷ []) 8 (omega arith) (
      λ one. absurd (omega arith),
      λ _. (
        λ _. in-range 0 200 (length leaves) (omega arith) few,
        λ _. (λ six. absurd (omega arith), λ _. (λ sixteen. absurd (omega arith), λ _. tt)),
      ),
    )

over-only : (n : ℕ) (leaves : List ℕ) (list : ℕ) → plan_row n leaves list ≡ 8 → 200 < length leaves
over-only n leaves list e =
    ⊎_elim (λ over. over) (λ (few : length leaves ≤ 200). absurd (not_within n leaves list few e)) (lt-or-le 200 (length leaves))

over-refused : (n : ℕ) (leaves : List ℕ) (list : ℕ) → (1 ≤ n) × (n ≤ 40) → 200 < length leaves → plan_row n leaves list ≡ 8
unfolding plan_row
over-refused n leaves list inside over = rw (within 1 40 n inside, above-range 0 200 (length leaves) over)

-- ---- files of 0 challenges
no-head : (bytes : List ℕ) (e n at : ℕ) → ((j : ℕ) → get_or bytes j 0 < 256) → head_of bytes ≡ read.numbers e n 0 at → ⊥
no-head bytes e n at small read = omega (arith, (head-within bytes e n 0 at small read).count.0)

no-file : (bytes statement : List ℕ) (n : ℕ) → ((j : ℕ) → get_or bytes j 0 < 256) → file_check bytes statement n 0 ≡ 0 → ⊥
no-file bytes statement n small accepted = let (edition, proof) = (exactly-proofs bytes statement n 0 small).0 accepted in omega (arith, proof.count.0)

no-chain :
    (bytes statement : List ℕ) (n list count : ℕ) → ((j : ℕ) → get_or bytes j 0 < 256)
    → drawing_of bytes statement n 0 list ≡ drawn_chain count → ⊥
no-chain bytes statement n list count small drawn =
    no-file bytes statement n small ((chain-exactly bytes statement n 0 small list).0 (count, drawn)).0

pub empty-plan : EmptyPlan
empty-plan =
    record {
      planned = λ n list inside. planned-empty n inside list;
      program = λ input n readable one inside. head-only n inside input readable one;
      depth_two = depth-two;
      whole_tree = whole-tree;
      count = λ n leaves list done.
          omega (arith, count-is-length n leaves list done, chain-count n leaves (all-leaves n leaves list done));
      eight = λ n leaves list inside. (over-only n leaves list, over-refused n leaves list inside);
      no_proof = λ edition n exists inside. no_proof n inside edition exists;
      no_head = no-head;
      no_file = no-file;
      no_chain = no-chain;
    }
