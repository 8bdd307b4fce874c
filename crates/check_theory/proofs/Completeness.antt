-- A proof is accepted.
use mathlib.Core.Path.{◌≡◌, refl, ap}
use Prim.Native.Nat.{ℕ, ◌+◌, ◌-◌, ◌≤◌, ◌<◌}
use native.Mathlib.Omega.{arith}
use mathlib.Core.List.{List}
use lib.ListN.{length}
use borrow.Author.Tests.{le-ltb, eq-eqb}
use Rattle.base.specs.Bytes.{joined}
use Rattle.base.proofs.ListsLaws.{test-same, tells-bytes}
use Rattle.tree.specs.Disagreement.{Given32}
use Rattle.tree.specs.Openings.{opening_size}
use Rattle.file_head.specs.Challenge.{challenge_leaf}
use Rattle.file_head.specs.Layout.{head_numbers, file}
use Rattle.file_head.specs.Head.{numbers, head_edition, head_of, length_from, statement_at, root_at, opening_at}
use Rattle.opening_check.specs.OpeningCheck.{given_by}
use Rattle.opening_check.proofs.OneOpening.{given-labels}
use Rattle.proof_file.specs.FileCheck.{openings_from, file_rest, file_check}
use Rattle.check_theory.specs.IsProof.{OpeningRight, nth, IsProof}
use Rattle.check_theory.proofs.RowLaws.{right-done}
use Rattle.check_theory.proofs.Parts.{each_at}
use Rattle.check_theory.proofs.Reading.{head-back, statement-back, root-back, opening-back, length-file}
use Rattle.check_theory.proofs.Openings.{row_of, rows-accepted}

rest-accepted :
    (edition : ℕ) (bytes statement : List ℕ) (n t at : ℕ) → length bytes ≡ length_from n t at → statement_at bytes at ≡ statement
    → openings_from edition bytes n at 1 t ≡ 0 → file_rest bytes statement n t (numbers edition n t at) ≡ 0
rest-accepted edition bytes statement n t at size same openings =
    rw (
      le-ltb (length bytes) (length_from n t at) (omega arith),
      le-ltb (length_from n t at) (length bytes) (omega arith),
      test-same tells-bytes (statement_at bytes at) statement same,
      eq-eqb n n refl,
      eq-eqb t t refl,
    )
    openings

-- what reading a proof gives: its head's numbers, statement, root and openings, with 32 bytes a label, and right
module _ (edition : ℕ) (bytes statement : List ℕ) (n t : ℕ) (p : IsProof edition bytes statement n t) where
  pub file-statement : statement_at bytes (length (head_numbers edition n t)) ≡ statement
  unfolding file
  file-statement = rw p.is_file (statement-back edition statement p.root n t p.statement_size p.root_size (joined p.openings))

  pub file-root : root_at bytes (length (head_numbers edition n t)) ≡ p.root
  unfolding file
  file-root = rw p.is_file (root-back edition statement p.root n t p.statement_size p.root_size (joined p.openings))

  pub file-opening : (i : ℕ) → 1 ≤ i → i ≤ t → opening_at bytes n (length (head_numbers edition n t)) i ≡ nth p.openings i
  file-opening i positive small =
      rw p.is_file
      (opening-back edition statement p.root n t p.statement_size p.root_size p.openings p.opening_count p.opening_sizes
      i positive small)

  pub file-size : length bytes ≡ length_from n t (length (head_numbers edition n t))
  file-size =
      rw p.is_file
      (length-file edition statement p.root n t p.statement_size p.root_size p.openings p.opening_count
      p.opening_sizes)

  pub file-sized : (i : ℕ) → 1 ≤ i → i ≤ t → Given32 n (given_by (opening_at bytes n (length (head_numbers edition n t)) i))
  file-sized i positive small =
      let size : length (nth p.openings i) ≡ opening_size n =
      each_at (opening_size n) p.openings p.opening_sizes (i - 1) (omega (arith, p.opening_count)) in
      given-labels n (opening_at bytes n (length (head_numbers edition n t)) i) (omega (arith, rw (← file-opening i positive small) at size))

  pub file-right :
      (i : ℕ) → 1 ≤ i → i ≤ t
      → OpeningRight edition statement n (challenge_leaf edition n statement p.root i) p.root
      (opening_at bytes n (length (head_numbers edition n t)) i)
  file-right i positive small = rw (file-opening i positive small) (p.all_right i positive small)

  file-row : (i : ℕ) → 1 ≤ i → i < 1 + t → row_of edition bytes n (length (head_numbers edition n t)) i ≡ 0
  file-row i positive small =
      rw (file-statement, file-root)
      (right-done
      edition
      statement
      n
      (challenge_leaf edition n statement p.root i)
      p.root
      (opening_at bytes n (length (head_numbers edition n t)) i)
      (file-right i positive (omega arith)))

  pub file-head : head_of bytes ≡ numbers edition n t (length (head_numbers edition n t))
  unfolding file
  file-head = rw p.is_file (head-back edition statement p.root n t p.exists p.depth p.count (joined p.openings))

  -- the head says the proof's edition
  pub file-edition : head_edition (head_of bytes) ≡ edition
  file-edition = ap head_edition file-head

  -- 'and always if they do and the rest is as document 01 says'
  pub proof-accepted : file_check bytes statement n t ≡ 0
  unfolding file_check
  proof-accepted =
      rw file-head
      (rest-accepted edition bytes statement n t (length (head_numbers edition n t)) file-size file-statement
      (rows-accepted edition bytes n (length (head_numbers edition n t)) 1 t file-row))
