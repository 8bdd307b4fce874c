-- Theorems of what is refused: 9 is told by at least one line, and `info` refuses just as `verify` does.
use mathlib.Core.Path.{◌≡◌, refl}
use Prim.Native.Nat.{ℕ, zero, suc, ◌+◌, ◌≤◌, ◌<◌}
use native.Mathlib.Omega.{arith}
use mathlib.Core.Bool.{Bool, true, false}
use mathlib.Core.Logic.{◌⊎◌, inl, inr}
use mathlib.Core.List.{List, [], ◌++◌}
use lib.Dec.{ltb, leb, eqb}
use lib.ListN.{length, get_or, length-append}
use Rattle.base.specs.Choice.{pick, both}
use Rattle.base.specs.Lists.{same_bytes}
use Rattle.base.proofs.ChoiceLaws.{both-second, both_true, true-false, lt-or-le}
use Rattle.decimal.specs.Ascii.{ascii}
use Rattle.decimal.specs.Text.{field}
use Rattle.file_head.specs.Head.{HeadAnswer, numbers, not_read, head_of, head_depth, head_count, length_from, statement_at}
use Rattle.file_head.proofs.HeadLaws.{head-within}
use Rattle.proof_file.specs.FileCheck.{found_in, opened, openings_from, wanted, file_rest, file_check}
use Rattle.check_theory.proofs.Openings.{row_of}
use Rattle.drawing_text.specs.declared.Found.{Found}
use Rattle.drawing_text.specs.Heads.{report_in, of_report, found_of}
use Rattle.drawing_text.specs.Differ.{report_text, other_text, depth_text, count_text, differ_text}
use Rattle.drawing_text.specs.Info.{shape_from, shape_refusal}

-- ---- where no line tells what differs, nothing does
report-silent : (same : Bool) → length (report_text same) ≡ 0 → same ≡ true
unfolding report_text
report-silent true e = refl
report-silent false e = absurd (omega arith)

other-silent : (a : List ℕ) (x : ℕ) (b : List ℕ) (y : ℕ) → length (other_text a x b y) ≡ 0 → eqb x y ≡ true
unfolding other_text
other-silent a x b y e = go (eqb x y) e
  where
    go : (t : Bool) → length (pick t [] (field a x ++ field b y ++ ascii "\n")) ≡ 0 → t ≡ true
    go true e = refl
    go false e = absurd (omega (arith, length-append (field a x ++ field b y) (ascii "\n")))

module _ (found : Found) (n t : ℕ) (silent : length (differ_text found n t) ≡ 0) where
  none : (length (report_text found.same_report) ≡ 0) × (length (depth_text found.depth n) ≡ 0) × (length (count_text found.count t) ≡ 0)
  unfolding differ_text
  none =
      let front = length-append (report_text found.same_report) (depth_text found.depth n) in
      let all = length-append (report_text found.same_report ++ depth_text found.depth n) (count_text found.count t) in
      (omega (arith, silent, front, all), omega (arith, silent, front, all), omega (arith, silent, front, all))

  same-report : found.same_report ≡ true
  same-report = report-silent found.same_report none.0

  same-depth : eqb found.depth n ≡ true
  unfolding depth_text
  same-depth = other-silent (ascii "the proof's depth is ") found.depth (ascii ", not ") n none.1

  same_count : eqb found.count t ≡ true
  unfolding count_text
  same_count = other-silent (ascii "the proof has ") found.count (ascii " challenges, not ") t none.2

-- ---- no opening is refused with 9
opened-not-nine : (row i next : ℕ) → 1 ≤ i → i < 256 → (next ≡ found_in 0 9 → ⊥) → opened row i next ≡ found_in 0 9 → ⊥
opened-not-nine zero i next low high rest e = rest e
opened-not-nine (suc row) i next low high rest e = omega arith

module _ (edition : ℕ) (bytes : List ℕ) (n at : ℕ) where
  openings-not-nine : (i left : ℕ) → 1 ≤ i → i + left ≤ 256 → openings_from edition bytes n at i left ≡ found_in 0 9 → ⊥
  unfolding openings_from
  openings-not-nine i zero low high e = omega arith
  openings-not-nine i (suc left) low high e =
      opened-not-nine (row_of edition bytes n at i) i _ low (omega arith) (openings-not-nine (i + 1) left (omega arith) (omega arith)) e

-- ---- a file that is refused with 9 is told by at least one line
module _ (bytes statement : List ℕ) (n t : ℕ) where
  rest-not-nine : (e' n' t' at : ℕ) → t' ≤ 200 → wanted (statement_at bytes at) n' t' statement n t ≡ true
      → file_rest bytes statement n t (numbers e' n' t' at) ≡ found_in 0 9 → ⊥
  rest-not-nine e' n' t' at few w e =
      go (ltb (length bytes) (length_from n' t' at)) (ltb (length_from n' t' at) (length bytes)) (rw w at e)
    where
      go : (short long : Bool)
          → pick short (found_in 0 10) (pick long (found_in 0 13) (openings_from e' bytes n' at 1 t')) ≡ found_in 0 9 → ⊥
      go true long e = omega arith
      go false true e = omega arith
      go false false e = openings-not-nine e' bytes n' at 1 t' (omega arith) (omega arith) e

  by-head : ((j : ℕ) → get_or bytes j 0 < 256) → (head : HeadAnswer) → head_of bytes ≡ head
      → file_rest bytes statement n t head ≡ found_in 0 9 → report_in bytes statement head ≡ true
      → eqb (head_depth head) n ≡ true → eqb (head_count head) t ≡ true → ⊥
  by-head small (not_read r) h e s d c = true-false false s refl
  by-head small (numbers e' n' t' at) h e s d c =
      let same = both-second (leb (at + 32) (length bytes)) (same_bytes (statement_at bytes at) statement) s in
      rest-not-nine e' n' t' at (head-within bytes e' n' t' at small h).count.1
      (both_true (same_bytes (statement_at bytes at) statement) (both (eqb n' n) (eqb t' t)) same (both_true (eqb n' n) (eqb t' t) d c)) e

  pub nine-told : ((j : ℕ) → get_or bytes j 0 < 256) → file_check bytes statement n t ≡ found_in 0 9
      → 1 ≤ length (differ_text (found_of bytes statement) n t)
  unfolding file_check found_of of_report
  nine-told small e = some-line (lt-or-le 0 (length (differ_text (found_of bytes statement) n t)))
    where
      some-line : (0 < length (differ_text (found_of bytes statement) n t)) ⊎ (length (differ_text (found_of bytes statement) n t) ≤ 0)
          → 1 ≤ length (differ_text (found_of bytes statement) n t)
      some-line (inl some) = some
      some-line (inr none) =
          let silent : length (differ_text (found_of bytes statement) n t) ≡ 0 = omega arith in
          let found = found_of bytes statement in
          absurd (by-head small (head_of bytes) refl e (same-report found n t silent) (same-depth found n t silent) (same_count found n t silent))

  -- ---- what `info` refuses is refused by `verify` with the same number, whatever is wanted
  shape-by : (head : HeadAnswer) → 1 ≤ shape_from bytes head → file_rest bytes statement n t head ≡ found_in 0 (shape_from bytes head)
  shape-by (not_read r) some = refl
  shape-by (numbers e' n' t' at) some =
      go (ltb (length bytes) (length_from n' t' at)) (ltb (length_from n' t' at) (length bytes)) _ some
    where
      go : (short long : Bool) (rest : ℕ) → 1 ≤ pick short 10 (pick long 13 0)
          → pick short (found_in 0 10) (pick long (found_in 0 13) rest) ≡ found_in 0 (pick short 10 (pick long 13 0))
      go true long rest some = refl
      go false true rest some = refl
      go false false rest some = absurd (omega arith)

  pub info-refused : 1 ≤ shape_refusal bytes → file_check bytes statement n t ≡ found_in 0 (shape_refusal bytes)
  unfolding file_check shape_refusal
  info-refused some = shape-by (head_of bytes) some
