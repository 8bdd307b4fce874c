-- What `info` prints of a file, in bytes.
use Rattle.std.specs.Prelude.{ℕ, List, [], ◌∷◌, ◌++◌, ltb, eqb, length}
use Rattle.base.specs.Choice.{pick}
use Rattle.base.specs.Row.{first_of, is_done}
use Rattle.decimal.specs.Ascii.{ascii}
use Rattle.file_head.specs.Head.{HeadAnswer, numbers, not_read, head_of, length_from, statement_at, root_at}
use Rattle.lines.specs.Texts.{fact_text, bytes_text, rejected_text}
use Rattle.drawing_text.specs.Plain.{plain_text}

-- 10 or 13, by a file's size and the size that its numbers ask for
abbrev pub size_row : ℕ → ℕ → ℕ
size_row size whole = first_of ((ltb size whole, 10) ∷ (ltb whole size, 13) ∷ [])

-- the refusal by head and size, whatever is wanted; 0 where there is none
abbrev pub shape_from : List ℕ → HeadAnswer → ℕ
shape_from bytes (not_read r) = r
shape_from bytes (numbers e n t at) = size_row (length bytes) (length_from n t at)

unfoldable pub shape_refusal : List ℕ → ℕ
shape_refusal bytes = shape_from bytes (head_of bytes)

-- the edition is the one that the head says
unfoldable pub numbers_text : ℕ → ℕ → ℕ → List ℕ
numbers_text edition n t = fact_text (ascii "edition ") edition ++ fact_text (ascii "depth ") n ++ fact_text (ascii "challenges ") t

unfoldable pub labels_text : List ℕ → ℕ → List ℕ
labels_text bytes at = bytes_text (ascii "statement ") (statement_at bytes at) ++ bytes_text (ascii "root ") (root_at bytes at)

-- statement and root are told where the size is what the numbers ask for
unfoldable pub rest_text : List ℕ → ℕ → ℕ → List ℕ
rest_text bytes whole at = pick (eqb (length bytes) whole) (labels_text bytes at) [] ++ fact_text (ascii "size ") (length bytes)

abbrev pub known_from : List ℕ → HeadAnswer → List ℕ
known_from bytes (not_read r) = []
known_from bytes (numbers e n t at) = numbers_text e n t ++ rest_text bytes (length_from n t at) at

unfoldable pub known_text : List ℕ → List ℕ
known_text bytes = known_from bytes (head_of bytes)

-- a refusal in plain words and by its number; nothing where there is none
unfoldable pub end_text : ℕ → ℕ → List ℕ
end_text number size = pick (is_done number) [] (plain_text number size ++ rejected_text number 0)

unfoldable pub info_text : List ℕ → List ℕ
info_text bytes = known_text bytes ++ end_text (shape_refusal bytes) (length bytes)
