-- A refusal in plain words.
use Rattle.std.specs.Prelude.{ℕ, List, [], ◌∷◌, eqb}
use Prim.Native.String.{String}
use Rattle.base.specs.Choice.{pick}
use Rattle.decimal.specs.Ascii.{ascii}

-- by document 01's number; 9 is told by what differs
abbrev pub plain_table : List (ℕ × String)
plain_table =
    (1, "the proof's depth is not 1 to 40\n")
    ∷ (8, "the proof's number of challenges is not 1 to 200\n")
    ∷ (10, "the proof file ends too early\n")
    ∷ (11, "a number at the start of the proof file is not in its shortest form\n")
    ∷ (12, "the proof file's edition is neither 1 nor 2\n")
    ∷ (13, "the proof file has more bytes than its openings take\n")
    ∷ (14, "an opening's leaf label is not the hash of its left siblings\n")
    ∷ (15, "an opening does not lead to the proof's root\n")
    ∷ []

abbrev pub words_for : ℕ → List (ℕ × String) → List ℕ
words_for number [] = ascii "the proof is refused\n"
words_for number (line ∷ table) = pick (eqb number line.0) (ascii line.1) (words_for number table)

-- of a file with so many bytes
unfoldable pub plain_text : ℕ → ℕ → List ℕ
plain_text number size = pick (eqb size 0) (ascii "the proof file is empty\n") (words_for number plain_table)
