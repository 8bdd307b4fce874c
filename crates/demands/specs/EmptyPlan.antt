-- W-203, 'A plan with no leaves', sentence by sentence.
use Rattle.std.specs.Prelude.{◌≡◌, ◌↔◌, ℕ, ◌+◌, ◌*◌, ◌≤◌, ◌<◌, true, List, [], ◌∷◌, length, get_or}
use Rattle.tree.specs.Nodes.{Node, root, InTree}
use Rattle.chain_theory.specs.Counts.{leaves_opened, is_largest_empty, largest_empty}
use Rattle.chain.specs.PlanRow.{plan_row, planned_count, planned_list}
use Rattle.decimal.specs.Ascii.{ascii}
use Rattle.decimal.specs.Numbers.{numbers}
use Rattle.planning.specs.Output.{head_text, printed}
use Rattle.file_head.specs.Challenge.{challenge_row}
use Rattle.file_head.specs.Layout.{head_row}
use Rattle.file_head.specs.Head as read
use Rattle.file_head.specs.Head.{head_of}
use Rattle.proof_file.specs.FileCheck.{file_check}
use Rattle.writing.specs.Rows.{write_row}
use Rattle.compare.specs.Comparison.{compare_row}
use Rattle.draw.specs.Drawing.{drawn_chain, drawing_of}
use Rattle.demands.specs.Rows.{Unreadable}
use Rattle.demands.specs.Demand1.{AnEdition, InBounds}

-- 'Planning from an empty leaf list now gives count 0 and an empty list': every place keeps what it had, and 0 places are enough
pub record PlannedEmpty (n : ℕ) (list : List ℕ) : Type 0 where
  pub answer : plan_row n [] (length list) ≡ 0
  pub count : planned_count n [] (length list) ≡ 0
  pub untouched : planned_list n [] list ≡ list

-- 'The whole tree is then the single largest subtree without an opened leaf': k = 0, c = 1
pub record WholeTree (n : ℕ) : Type 0 where
  pub opened : leaves_opened [] ≡ 0
  pub largest : is_largest_empty n [] root ≡ true
  pub single : (v : Node) → InTree n v → is_largest_empty n [] v ≡ true → v ≡ root
  pub counted : largest_empty n [] ≡ 1

-- 'a proof of 0 challenges is still refused', and 0 openings are not compared, in every edition that exists
pub record NoProof (edition n : ℕ) : Type 0 where
  pub challenge : challenge_row edition n 0 ≡ 8
  pub head : (out : ℕ) → head_row edition n 0 out ≡ 8
  pub writing : (m store out : ℕ) → InBounds n m store → write_row edition n m 0 store out ≡ 8
  pub comparing : (size : ℕ) → compare_row edition n [] size ≡ 8

-- ---- the request
pub record EmptyPlan : Type 0 where
  pub planned : (n : ℕ) (list : List ℕ) → (1 ≤ n) × (n ≤ 40) → PlannedEmpty n list
  -- 'the program prints its head only'
  pub program :
      (input : List ℕ) (n : ℕ) → (Unreadable input → ⊥) → numbers input ≡ n ∷ [] → (1 ≤ n) × (n ≤ 40) → printed input ≡ head_text n 0 0
  -- '`depth 2 leaves 0 chain 0` for depth 2'
  pub depth_two : printed (ascii "2") ≡ ascii "depth 2 leaves 0 chain 0\n"
  pub whole_tree : (n : ℕ) → WholeTree n
  -- 'so 2k − 1 + c gives 0 here too': the count of every plan, with 1 on the other side, since with k = 0 no ℕ is 2k − 1
  pub count :
      (n : ℕ) (leaves : List ℕ) (list : ℕ) → plan_row n leaves list ≡ 0
      → planned_count n leaves list + 1 ≡ 2 * leaves_opened leaves + largest_empty n leaves
  -- 'Planning refuses with 8 only above 200 leaves'
  pub eight : (n : ℕ) (leaves : List ℕ) (list : ℕ) → (1 ≤ n) × (n ≤ 40) → plan_row n leaves list ≡ 8 ↔ (200 < length leaves)
  pub no_proof : (edition n : ℕ) → AnEdition edition → (1 ≤ n) × (n ≤ 40) → NoProof edition n
  pub no_head : (bytes : List ℕ) (e n at : ℕ) → ((j : ℕ) → get_or bytes j 0 < 256) → head_of bytes ≡ read.numbers e n 0 at → ⊥
  pub no_file : (bytes statement : List ℕ) (n : ℕ) → ((j : ℕ) → get_or bytes j 0 < 256) → file_check bytes statement n 0 ≡ 0 → ⊥
  pub no_chain :
      (bytes statement : List ℕ) (n list count : ℕ) → ((j : ℕ) → get_or bytes j 0 < 256)
      → drawing_of bytes statement n 0 list ≡ drawn_chain count → ⊥
