-- What `info` prints: one law for each return.
use mathlib.Core.Path.{◌≡◌, refl, ap, ◌∙◌}
use Prim.Native.Nat.{ℕ, ◌+◌, ◌≤◌}
use native.Mathlib.Omega.{arith}
use mathlib.Core.Bool.{Bool, true, false}
use mathlib.Core.List.{List, [], ◌++◌}
use lib.Dec.{eqb}
use lib.ListN.{length, length-append}
use borrow.Author.Tests.{eq-eqb, ne_eqb, eqb-true}
use Rattle.base.specs.Choice.{pick}
use Rattle.base.specs.Row.{is_done}
use Rattle.base.proofs.Parts.{part_length}
use Rattle.base.proofs.RowLaws.{some-refused}
use Rattle.decimal.specs.Ascii.{ascii}
use Rattle.file_head.specs.Head.{HeadAnswer, numbers, not_read, head_of, length_from, statement_at, root_at}
use Rattle.lines.specs.Line.{added}
use Rattle.lines.specs.Texts.{fact_text, bytes_text, rejected_text}
use Rattle.drawing_text.specs.Plain.{plain_text}
use Rattle.drawing_text.specs.Info.{shape_refusal, numbers_text, labels_text, rest_text, known_from, known_text, end_text, info_text}
use Rattle.drawing_text.proofs.TwoLines.{two}
use Rattle.drawing_text.proofs.TellingLaws.{plain-short, fact-short, bytes-short, rejected-short}

-- the numbers

front-short : (edition n : ℕ) → length (fact_text (ascii "edition ") edition ++ fact_text (ascii "depth ") n) ≤ 100
front-short edition n =
    omega (
      arith,
      length-append (fact_text (ascii "edition ") edition) (fact_text (ascii "depth ") n),
      fact-short (ascii "edition ") edition,
      fact-short (ascii "depth ") n,
    )

pub numbers-told : {all front one two' three : List ℕ} (edition n t : ℕ) → front ≡ added one two' → all ≡ added front three
    → one ≡ fact_text (ascii "edition ") edition → two' ≡ fact_text (ascii "depth ") n → three ≡ fact_text (ascii "challenges ") t
    → all ≡ numbers_text edition n t
unfolding numbers_text
numbers-told edition n t e f p q r =
    two f (two e p q (omega (arith, fact-short (ascii "edition ") edition)) (omega (arith, fact-short (ascii "depth ") n))) r
    (omega (arith, front-short edition n)) (omega (arith, fact-short (ascii "challenges ") t))

numbers-short : (edition n t : ℕ) → length (numbers_text edition n t) ≤ 200
unfolding numbers_text
numbers-short edition n t =
    omega (
      arith,
      length-append (fact_text (ascii "edition ") edition ++ fact_text (ascii "depth ") n) (fact_text (ascii "challenges ") t),
      front-short edition n,
      fact-short (ascii "challenges ") t,
    )

-- statement and root
module _ (bytes : List ℕ) (at : ℕ) (inside : at + 64 ≤ length bytes) where
  statement-short : length (bytes_text (ascii "statement ") (statement_at bytes at)) ≤ 100
  statement-short = omega (arith, bytes-short (ascii "statement ") (statement_at bytes at), part_length bytes at 32 (omega arith))

  root-short : length (bytes_text (ascii "root ") (root_at bytes at)) ≤ 100
  root-short = omega (arith, bytes-short (ascii "root ") (root_at bytes at), part_length bytes (at + 32) 32 (omega arith))

  pub labels-told : {all one two' : List ℕ} (statement root : List ℕ) → all ≡ added one two' → statement ≡ statement_at bytes at
      → root ≡ root_at bytes at → one ≡ bytes_text (ascii "statement ") statement → two' ≡ bytes_text (ascii "root ") root
      → all ≡ labels_text bytes at
  unfolding labels_text
  labels-told statement root e s r p q =
      two e (p ∙ ap (bytes_text (ascii "statement ")) s) (q ∙ ap (bytes_text (ascii "root ")) r) (omega (arith, statement-short))
      (omega (arith, root-short))

  labels-short : length (labels_text bytes at) ≤ 200
  unfolding labels_text
  labels-short =
      omega (
        arith,
        length-append (bytes_text (ascii "statement ") (statement_at bytes at)) (bytes_text (ascii "root ") (root_at bytes at)),
        statement-short,
        root-short,
      )

-- the size, behind them
module _ (bytes : List ℕ) (whole at : ℕ) where
  pub rest-whole : {all labels size : List ℕ} → at + 64 ≤ whole → length bytes ≡ whole → all ≡ added labels size → labels ≡ labels_text bytes at
      → size ≡ fact_text (ascii "size ") (length bytes) → all ≡ rest_text bytes whole at
  unfolding rest_text
  rest-whole h w e p q =
      rw (eq-eqb (length bytes) whole w)
      (two e p q (omega (arith, labels-short bytes at (omega arith))) (omega (arith, fact-short (ascii "size ") (length bytes))))

  pub rest-other : (size : List ℕ) → (length bytes ≡ whole → ⊥) → size ≡ fact_text (ascii "size ") (length bytes) → size ≡ rest_text bytes whole at
  unfolding rest_text
  rest-other size d q = rw (ne_eqb (length bytes) whole d) q

  rest-short : at + 64 ≤ whole → length (rest_text bytes whole at) ≤ 300
  unfolding rest_text
  rest-short h = go (eqb (length bytes) whole) refl
    where
      go : (b : Bool) → eqb (length bytes) whole ≡ b
          → length (pick b (labels_text bytes at) [] ++ fact_text (ascii "size ") (length bytes)) ≤ 300
      go true e =
          omega (
            arith,
            length-append (labels_text bytes at) (fact_text (ascii "size ") (length bytes)),
            labels-short bytes at (omega (arith, eqb-true (length bytes) whole e)),
            fact-short (ascii "size ") (length bytes),
          )
      go false e = omega (arith, fact-short (ascii "size ") (length bytes))

-- what a head that can be read says
pub known-told : {all one two' : List ℕ} (bytes : List ℕ) (edition n t at whole : ℕ) → whole ≡ length_from n t at → all ≡ added one two'
    → one ≡ numbers_text edition n t → two' ≡ rest_text bytes whole at → all ≡ known_from bytes (numbers edition n t at)
known-told bytes edition n t at whole w e p q =
    two e p (q ∙ ap (λ (k : ℕ). rest_text bytes k at) w) (omega (arith, numbers-short edition n t))
    (omega (arith, rest-short bytes (length_from n t at) at (omega arith)))

known-short : (bytes : List ℕ) (head : HeadAnswer) → length (known_from bytes head) ≤ 500
known-short bytes (not_read r) = omega arith
known-short bytes (numbers edition n t at) =
    omega (
      arith,
      length-append (numbers_text edition n t) (rest_text bytes (length_from n t at) at),
      numbers-short edition n t,
      rest-short bytes (length_from n t at) at (omega arith),
    )

pub head-told : (bytes : List ℕ) (head : HeadAnswer) (line : List ℕ) → head ≡ head_of bytes → line ≡ known_from bytes head
    → line ≡ known_text bytes
unfolding known_text
head-told bytes head line e l = l ∙ ap (known_from bytes) e

-- the end
module _ (number size : ℕ) where
  pub end_none : (line : List ℕ) → number ≡ 0 → line ≡ [] → line ≡ end_text number size
  unfolding end_text
  end_none line z l = rw z l

  pub end_refused : {all one two' : List ℕ} → (number ≡ 0 → ⊥) → all ≡ added one two' → one ≡ plain_text number size
      → two' ≡ rejected_text number 0 → all ≡ end_text number size
  unfolding end_text
  end_refused d e p q =
      rw (some-refused number (omega arith)) (two e p q (omega (arith, plain-short number size)) (omega (arith, rejected-short number 0)))

  end_short : length (end_text number size) ≤ 200
  unfolding end_text
  end_short = go (is_done number)
    where
      go : (b : Bool) → length (pick b [] (plain_text number size ++ rejected_text number 0)) ≤ 200
      go true = omega arith
      go false =
          omega (
            arith,
            length-append (plain_text number size) (rejected_text number 0),
            plain-short number size,
            rejected-short number 0,
          )

pub info-told : {all known end : List ℕ} (bytes : List ℕ) (number : ℕ) → number ≡ shape_refusal bytes → all ≡ added known end
    → known ≡ known_text bytes → end ≡ end_text number (length bytes) → all ≡ info_text bytes
unfolding info_text known_text
info-told bytes number s e p q =
    two e p (q ∙ ap (λ (k : ℕ). end_text k (length bytes)) s) (omega (arith, known-short bytes (head_of bytes)))
    (omega (arith, end_short (shape_refusal bytes) (length bytes)))
