-- The shared vectors as text: lines of fields, which are parted by blanks, in hexadecimal or decimal.
use Rattle.std.specs.Prelude.{ℕ, zero, suc, ◌+◌, ◌-◌, ◌*◌, ◌%◌, Bool, true, List, [], ◌∷◌, ◌++◌, length, drop, ◌==◌, nat_lt, slice_index, slice_get, unwrap_or}
use Rattle.std.specs.List.{slice_split}
use Rattle.base.specs.Choice.{pick}

-- how many bytes stand before a mark; all, if it is not there
unfoldable pub before_mark : ℕ → List ℕ → ℕ
before_mark mark [] = 0
before_mark mark (x ∷ xs) = pick (x == mark) 0 (suc (before_mark mark xs))

-- where a mark stands, from a place on; the text's end if it does not
unfoldable pub end_from : List ℕ → ℕ → ℕ → ℕ
end_from text at mark = at + before_mark mark (drop at text)

-- a line has no vector if it is empty or begins with '#'
abbrev pub is_comment : List ℕ → Bool
is_comment line = pick (length line == 0) true (slice_index line 0 == 35)

-- a field of a line, from 0; empty if there is none
unfoldable pub field_of : List ℕ → ℕ → List ℕ
field_of line number = unwrap_or (slice_get (slice_split (λ b. b == 32) line) number) []

-- the value of a hexadecimal digit, with small letters
abbrev pub digit_value : ℕ → ℕ
digit_value byte = pick (nat_lt byte 97) (byte % 16) ((byte - 87) % 16)

-- the bytes that the first k pairs of digits spell
unfoldable pub spelled : List ℕ → ℕ → List ℕ
spelled text zero = []
spelled text (suc k) = spelled text k ++ (16 * digit_value (slice_index text (2 * k)) + digit_value (slice_index text (2 * k + 1))) ∷ []

-- the digits of a text behind a value that is read already; of that the last 17 digits count
unfoldable pub decimal_from : ℕ → List ℕ → ℕ
decimal_from value [] = value
decimal_from value (x ∷ xs) = decimal_from (10 * (value % 100000000000000000) + x % 16) xs
