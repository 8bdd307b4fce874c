-- The lines on what differs: their lengths, and one law for each return.
use mathlib.Core.Path.{◌≡◌, ◌∙◌}
use Prim.Native.Nat.{ℕ, ◌+◌, ◌≤◌}
use native.Mathlib.Omega.{arith}
use mathlib.Core.Bool.{Bool, true, false}
use mathlib.Core.List.{List, [], ◌++◌, append_assoc}
use lib.Dec.{eqb}
use lib.ListN.{length, length-append}
use borrow.Author.Tests.{eq-eqb, ne_eqb}
use Rattle.base.specs.Choice.{pick}
use Rattle.decimal.specs.Ascii.{ascii}
use Rattle.decimal.specs.Text.{decimal, field}
use Rattle.decimal.proofs.Laying.{decimal-short, field-length}
use Rattle.lines.specs.Line.{added}
use Rattle.lines.proofs.LineLaws.{first, more}
use Rattle.drawing_text.specs.declared.Found.{Found}
use Rattle.drawing_text.specs.Differ.{report_text, other_text, depth_text, count_text, differ_text}
use Rattle.drawing_text.proofs.TwoLines.{two}

-- the report
pub report-same : (same : Bool) (line : List ℕ) → same ≡ true → line ≡ [] → line ≡ report_text same
unfolding report_text
report-same same line e l = rw e l

pub report-other : (same : Bool) (line : List ℕ) → same ≡ false → line ≡ ascii "the proof is not of this report\n" → line ≡ report_text same
unfolding report_text
report-other same line e l = rw e l

report-short : (same : Bool) → length (report_text same) ≤ 50
unfolding report_text
report-short true = omega arith
report-short false = omega arith

-- two numbers
module _ (a : List ℕ) (x : ℕ) (b : List ℕ) (y : ℕ) where
  pub other-same : (line : List ℕ) → x ≡ y → line ≡ [] → line ≡ other_text a x b y
  unfolding other_text
  other-same line e l = rw (eq-eqb x y e) l

  pub other-told : {none named own joined wanted line : List ℕ} → length a ≤ 100 → length b ≤ 100 → (x ≡ y → ⊥) → none ≡ []
      → named ≡ added none a → own ≡ added named (decimal x) → joined ≡ added own b → wanted ≡ added joined (decimal y)
      → line ≡ added wanted (ascii "\n") → line ≡ other_text a x b y
  unfolding other_text
  other-told ha hb d e1 e2 e3 e4 e5 e6 =
      let s = more (decimal x) 20 (first _ _ a 100 e1 e2 ha (omega arith)) e3 (decimal-short x) (omega arith) in
      let w = more (decimal y) 20 (more b 100 s e4 hb (omega arith)) e5 (decimal-short y) (omega arith) in
      rw (ne_eqb x y d) ((more (ascii "\n") 1 w e6 (omega arith) (omega arith)).out ∙ simp append_assoc)

  other-short : length (other_text a x b y) ≤ length a + length b + 41
  unfolding other_text
  other-short = go (eqb x y)
    where
      go : (t : Bool) → length (pick t [] (field a x ++ field b y ++ ascii "\n")) ≤ length a + length b + 41
      go true = omega arith
      go false =
          omega (
            arith,
            length-append (field a x ++ field b y) (ascii "\n"),
            length-append (field a x) (field b y),
            field-length a x,
            field-length b y,
          )

depth-short : (own n : ℕ) → length (depth_text own n) ≤ 100
unfolding depth_text
depth-short own n = omega (arith, other-short (ascii "the proof's depth is ") own (ascii ", not ") n)

count-short : (own t : ℕ) → length (count_text own t) ≤ 100
unfolding count_text
count-short own t = omega (arith, other-short (ascii "the proof has ") own (ascii " challenges, not ") t)

-- all three
module _ (found : Found) (n t : ℕ) where
  front-short : length (report_text found.same_report ++ depth_text found.depth n) ≤ 150
  front-short =
      omega (
        arith,
        length-append (report_text found.same_report) (depth_text found.depth n),
        report-short found.same_report,
        depth-short found.depth n,
      )

  pub differ-short : length (differ_text found n t) ≤ 300
  unfolding differ_text
  differ-short =
      omega (
        arith,
        length-append (report_text found.same_report ++ depth_text found.depth n) (count_text found.count t),
        front-short,
        count-short found.count t,
      )

  pub differ-told : {all front report depths counts : List ℕ} → front ≡ added report depths → all ≡ added front counts
      → report ≡ report_text found.same_report → depths ≡ depth_text found.depth n → counts ≡ count_text found.count t
      → all ≡ differ_text found n t
  unfolding differ_text
  differ-told e f p q r =
      two f (two e p q (omega (arith, report-short found.same_report)) (omega (arith, depth-short found.depth n))) r
      (omega (arith, front-short)) (omega (arith, count-short found.count t))
