-- A program's words as one line of bytes: each word is ended by a byte 0, which no argument of a program holds.
use Rattle.std.specs.Prelude.{ℕ, ◌+◌, List, [], ◌∷◌, ◌++◌, ◌==◌, ltb, length, unwrap_or, slice_get, count_by}
use Rattle.std.specs.List.{slice_split}
use Rattle.base.specs.Choice.{pick}

-- word i, from 0; no bytes where there is none
unfoldable pub word_at : ℕ → List ℕ → List ℕ
word_at i bytes = unwrap_or (slice_get (slice_split (λ byte. byte == 0) bytes) i) []

-- as many words as bytes 0
unfoldable pub word_count : List ℕ → ℕ
word_count bytes = count_by (λ byte. byte == 0) bytes

-- a word with its 0, where there is room for both behind a place; else nothing
unfoldable pub ended_word : ℕ → ℕ → List ℕ → List ℕ
ended_word room at word = pick (ltb (at + length word) room) (word ++ 0 ∷ []) []
