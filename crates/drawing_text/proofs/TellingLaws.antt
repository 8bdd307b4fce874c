-- What is told of a drawing: its lines, their lengths, and one law for each return.
use mathlib.Core.Path.{◌≡◌, refl, sym, ap}
use Prim.Native.Nat.{ℕ, ◌+◌, ◌*◌, ◌≤◌}
use Prim.Native.String.{String}
use native.Mathlib.Omega.{arith}
use mathlib.Core.Bool.{Bool, true, false}
use mathlib.Core.List.{List, [], ◌∷◌, ◌++◌}
use lib.Dec.{leb, eqb}
use lib.ListN.{length, length-append}
use borrow.Author.Tests.{leb-true, eq-eqb, ne_eqb}
use Rattle.base.specs.Choice.{pick, both}
use Rattle.base.proofs.ChoiceLaws.{both_first, both-second}
use Rattle.base.specs.declared.refusal.Rejection.{Rejection}
use Rattle.base.specs.Number.{number_of}
use Rattle.decimal.specs.Ascii.{ascii}
use Rattle.decimal.specs.Text.{field}
use Rattle.decimal.proofs.Laying.{field-length}
use Rattle.lines.specs.Line.{added, hex_of}
use Rattle.lines.specs.Texts.{fact_text, bytes_text, three_text, accepted_text, rejected_text, clash_text}
use Rattle.lines.proofs.LineLaws.{length-hex}
use Rattle.draw.specs.declared.Drawing.{Drawing}
use Rattle.draw.specs.declared.Drawing.TheVariants.{Chain}
use Rattle.draw.specs.declared.Drawing.TheVariants as drawings
use Rattle.compare.specs.declared.Clash.{Clash}
use Rattle.std.proofs.Common.{Result, Ok, Err}
use Rattle.drawing_text.specs.Plain.{plain_table, words_for, plain_text}
use Rattle.drawing_text.specs.declared.Found.{Found}
use Rattle.drawing_text.specs.Differ.{differ_text}
use Rattle.drawing_text.specs.Verdict.{why_text, refusal_text, clash_lines, edition_text, wanted_text, no_chain_text, judged_text, verdict_text}
use Rattle.drawing_text.proofs.TwoLines.{two}
use Rattle.drawing_text.proofs.DifferLaws.{differ-short}

-- a number and the refusal that is told as it is: the words, and whether what differs tells it
pub told-known : (number k : ℕ) → number ≡ k → (words_for k plain_table ≡ words_for number plain_table) × (eqb k 9 ≡ eqb number 9)
told-known number k e = rw e (refl, refl)

pub words-other :
    (number : ℕ) (line : List ℕ) → (number ≡ 1 → ⊥) → (number ≡ 8 → ⊥) → (number ≡ 10 → ⊥) → (number ≡ 11 → ⊥) → (number ≡ 12 → ⊥)
    → (number ≡ 13 → ⊥) → (number ≡ 14 → ⊥) → (number ≡ 15 → ⊥)
    → line ≡ ascii "the proof is refused\n" → line ≡ words_for number plain_table
words-other number line a b c d e f g h l =
    rw (
      ne_eqb number 1 a,
      ne_eqb number 8 b,
      ne_eqb number 10 c,
      ne_eqb number 11 d,
      ne_eqb number 12 e,
      ne_eqb number 13 f,
      ne_eqb number 14 g,
      ne_eqb number 15 h,
    )
    l

pub told-other :
    (number : ℕ) → (number ≡ 1 → ⊥) → (number ≡ 8 → ⊥) → (number ≡ 9 → ⊥) → (number ≡ 10 → ⊥) → (number ≡ 11 → ⊥) → (number ≡ 12 → ⊥)
    → (number ≡ 13 → ⊥) → (number ≡ 14 → ⊥) → (number ≡ 15 → ⊥)
    → (words_for 17 plain_table ≡ words_for number plain_table) × (eqb 17 9 ≡ eqb number 9)
told-other number a b i c d e f g h = (words-other number (ascii "the proof is refused\n") a b c d e f g h refl, sym (ne_eqb number 9 i))

pub plain-same : (number told size : ℕ) → words_for told plain_table ≡ words_for number plain_table → plain_text told size ≡ plain_text number size
unfolding plain_text
plain-same number told size e = ap (λ (w : List ℕ). pick (eqb size 0) (ascii "the proof file is empty\n") w) e

pub why-same :
    (number told size : ℕ) (found : Found) (n t : ℕ) → words_for told plain_table ≡ words_for number plain_table → eqb told 9 ≡ eqb number 9
    → why_text told size found n t ≡ why_text number size found n t
unfolding why_text
why-same number told size found n t e f = λ i. pick (f i) (differ_text found n t) (plain-same number told size e i)

short_table : List (ℕ × String) → Bool
short_table [] = true
short_table (line ∷ table) = both (leb (length (ascii line.1)) 100) (short_table table)

words-short : (number : ℕ) (table : List (ℕ × String)) → short_table table ≡ true → length (words_for number table) ≤ 100
unfolding short_table
words-short number [] h = omega arith
words-short number (line ∷ table) h =
    go (eqb number line.0) (leb-true (length (ascii line.1)) 100 (both_first (leb (length (ascii line.1)) 100) (short_table table) h))
    (words-short number table (both-second (leb (length (ascii line.1)) 100) (short_table table) h))
  where
    go : (b : Bool) → length (ascii line.1) ≤ 100 → length (words_for number table) ≤ 100
        → length (pick b (ascii line.1) (words_for number table)) ≤ 100
    go true p q = p
    go false p q = q

pub plain-short : (number size : ℕ) → length (plain_text number size) ≤ 100
unfolding plain_text short_table
plain-short number size = go (eqb size 0) (words-short number plain_table refl)
  where
    go :
        (b : Bool) → length (words_for number plain_table) ≤ 100
        → length (pick b (ascii "the proof file is empty\n") (words_for number plain_table)) ≤ 100
    go true h = omega arith
    go false h = h

-- the lengths of the other lines
pub fact-short : (name : List ℕ) (x : ℕ) → length (fact_text name x) ≤ length name + 21
unfolding fact_text
fact-short name x = omega (arith, length-append (field name x) (ascii "\n"), field-length name x)

pub bytes-short : (name bytes : List ℕ) → length (bytes_text name bytes) ≤ length name + 2 * length bytes + 1
unfolding bytes_text
bytes-short name bytes =
    omega (arith, length-append (name ++ hex_of bytes) (ascii "\n"), length-append name (hex_of bytes), length-hex bytes)

three-short : (a : List ℕ) (x : ℕ) (b : List ℕ) (y : ℕ) (c : List ℕ) (z : ℕ) (end : List ℕ)
    → length (three_text a x b y c z end) ≤ length a + length b + length c + length end + 60
unfolding three_text
three-short a x b y c z end =
    omega (
      arith,
      length-append (field a x ++ field b y ++ field c z) end,
      length-append (field a x ++ field b y) (field c z),
      length-append (field a x) (field b y),
      field-length a x,
      field-length b y,
      field-length c z,
    )

pub accepted-short : (n t nodes : ℕ) → length (accepted_text n t nodes) ≤ 100
unfolding accepted_text
accepted-short n t nodes = omega (arith, three-short (ascii "accepted depth ") n (ascii " challenges ") t (ascii " chain ") nodes (ascii "\n"))

pub clash-short : (i j l : ℕ) → length (clash_text i j l) ≤ 100
unfolding clash_text
clash-short i j l = omega (arith, three-short (ascii "clash openings ") i (ascii " and ") j (ascii " level ") l (ascii "\n"))

pub rejected-short : (number opening : ℕ) → length (rejected_text number opening) ≤ 100
unfolding rejected_text
rejected-short number opening =
    omega (
      arith,
      length-append (field (ascii "refused ") number ++ field (ascii " ") opening) (ascii "\n"),
      length-append (field (ascii "refused ") number) (field (ascii " ") opening),
      field-length (ascii "refused ") number,
      field-length (ascii " ") opening,
    )

why-short : (number size : ℕ) (found : Found) (n t : ℕ) → length (why_text number size found n t) ≤ 300
unfolding why_text
why-short number size found n t = go (eqb number 9)
  where
    go : (b : Bool) → length (pick b (differ_text found n t) (plain_text number size)) ≤ 300
    go true = differ-short found n t
    go false = omega (arith, plain-short number size)

pub refusal-short : (number opening size : ℕ) (found : Found) (n t : ℕ) → length (refusal_text number opening size found n t) ≤ 400
unfolding refusal_text
refusal-short number opening size found n t =
    omega (
      arith,
      length-append (why_text number size found n t) (rejected_text number opening),
      why-short number size found n t,
      rejected-short number opening,
    )

pub no-chain-short : (n t : ℕ) → length (no_chain_text n t) ≤ 200
unfolding no_chain_text
no-chain-short n t =
    omega (
      arith,
      length-append (ascii "two openings clash, so there is no chain; 'mastdock chain' shows both inputs\n") (accepted_text n t 0),
      accepted-short n t 0,
    )

pub wanted-short : (n t : ℕ) → length (wanted_text n t) ≤ 100
unfolding wanted_text
wanted-short n t = go (eqb n 0)
  where
    go : (b : Bool) → length (pick b [] (fact_text (ascii "depth ") n ++ fact_text (ascii "challenges ") t)) ≤ 100
    go true = omega arith
    go false =
        omega (
          arith,
          length-append (fact_text (ascii "depth ") n) (fact_text (ascii "challenges ") t),
          fact-short (ascii "depth ") n,
          fact-short (ascii "challenges ") t,
        )

edition-short : (drawing : Result Drawing Rejection) (edition : ℕ) → length (edition_text drawing edition) ≤ 100
edition-short (Err why) edition = omega arith
edition-short (Ok drawing) edition = omega (arith, fact-short (ascii "edition ") edition)

pub judged-short : (drawing : Result Drawing Rejection) (n t : ℕ) (found : Found) (size : ℕ) → length (judged_text drawing n t found size) ≤ 400
judged-short (Err why) n t found size = refusal-short (number_of why.refusal) why.opening size found n t
judged-short (Ok (Chain nodes)) n t found size = omega (arith, accepted-short n t nodes)
judged-short (Ok (drawings.Clash clash)) n t found size = omega (arith, no-chain-short n t)

-- each function's lines
pub refusal-told :
    {all one two' : List ℕ} (number opening size : ℕ) (found : Found) (n t : ℕ) → all ≡ added one two'
    → one ≡ why_text number size found n t → two' ≡ rejected_text number opening → all ≡ refusal_text number opening size found n t
unfolding refusal_text
refusal-told number opening size found n t e p q =
    two e p q (omega (arith, why-short number size found n t)) (omega (arith, rejected-short number opening))

pub none-wanted : (n t : ℕ) (line : List ℕ) → n ≡ 0 → line ≡ [] → line ≡ wanted_text n t
unfolding wanted_text
none-wanted n t line e l = rw (eq-eqb n 0 e) l

pub wanted-told : {all one two' : List ℕ} (n t : ℕ) → (n ≡ 0 → ⊥) → all ≡ added one two' → one ≡ fact_text (ascii "depth ") n
    → two' ≡ fact_text (ascii "challenges ") t → all ≡ wanted_text n t
unfolding wanted_text
wanted-told n t h e p q =
    rw (ne_eqb n 0 h)
    (two e p q (omega (arith, fact-short (ascii "depth ") n)) (omega (arith, fact-short (ascii "challenges ") t)))

pub clash-told : {all both' pair one two' : List ℕ} (clash : Clash) → length clash.first ≡ 105 → length clash.second ≡ 105
    → both' ≡ added pair one → all ≡ added both' two' → pair ≡ clash_text clash.pair.first clash.pair.second clash.pair.level
    → one ≡ bytes_text (ascii "first ") clash.first → two' ≡ bytes_text (ascii "second ") clash.second → all ≡ clash_lines clash
unfolding clash_lines
clash-told clash f s e g p q r =
    let told = clash-short clash.pair.first clash.pair.second clash.pair.level in
    let short = bytes-short (ascii "first ") clash.first in
    two g (two e p q (omega (arith, told)) (omega (arith, short))) r
    (omega (arith, told, short, length-append (clash_text clash.pair.first clash.pair.second clash.pair.level) (bytes_text (ascii "first ") clash.first)))
    (omega (arith, bytes-short (ascii "second ") clash.second))

pub no-chain-told : {all one two' : List ℕ} (n t : ℕ) → all ≡ added one two'
    → one ≡ ascii "two openings clash, so there is no chain; 'mastdock chain' shows both inputs\n" → two' ≡ accepted_text n t 0
    → all ≡ no_chain_text n t
unfolding no_chain_text
no-chain-told n t e p q = two e p q (omega arith) (omega (arith, accepted-short n t 0))

module _ (drawing : Result Drawing Rejection) (n t : ℕ) (found : Found) (size : ℕ) where
  pub verdict-told : {all front one two' three : List ℕ} → front ≡ added one two' → all ≡ added front three
      → one ≡ edition_text drawing found.edition → two' ≡ wanted_text n t → three ≡ judged_text drawing n t found size
      → all ≡ verdict_text drawing n t found size
  unfolding verdict_text
  verdict-told e f p q r =
      let first = edition-short drawing found.edition in
      two f (two e p q (omega (arith, first)) (omega (arith, wanted-short n t))) r
      (omega (arith, first, wanted-short n t, length-append (edition_text drawing found.edition) (wanted_text n t)))
      (omega (arith, judged-short drawing n t found size))
