-- A line under way, in a place of 8,192 bytes.
use Rattle.std.specs.Prelude.{ℕ, ◌+◌, ◌/◌, ◌%◌, ◌≤◌, Bool, List, [], ◌∷◌, ◌++◌, ltb, leb, eqb, length, take}
use Rattle.base.specs.Choice.{pick}
use Rattle.base.specs.Row.{either}
use Rattle.lines.specs.Digits.{hex_digit_ascii}
use Rattle.lines.specs.declared.Line.{Line}

abbrev pub room : ℕ
room = 8192

-- its length is within its place. Every line that begins empty is so, whatever is added to it; the fields are public, so another may be longer
abbrev pub IsInRoom : Line → Type 0
IsInRoom l = l.length ≤ room

-- what the line holds so far
unfoldable pub line_of : Line → List ℕ
line_of l = take l.length l.text

-- a part after it; where there is no room for it, nothing
unfoldable pub added : List ℕ → List ℕ → List ℕ
added line part = pick (leb (length line + length part) room) (line ++ part) line

-- a byte in hexadecimal, and bytes
unfoldable pub hex_byte : ℕ → List ℕ
hex_byte b = hex_digit_ascii (b / 16) ∷ hex_digit_ascii (b % 16) ∷ []

unfoldable pub hex_of : List ℕ → List ℕ
hex_of [] = []
hex_of (b ∷ bytes) = hex_byte b ++ hex_of bytes

-- bytes in hexadecimal after it, as many as there is room for
unfoldable pub added_hex : List ℕ → List ℕ → List ℕ
added_hex line [] = line
added_hex line (b ∷ bytes) = added_hex (added line (hex_byte b)) bytes

-- a byte that a terminal may obey
abbrev pub is_control : ℕ → Bool
is_control b = either (ltb b 32) (eqb b 127)

-- a byte of a name as it is shown: a control character as `\x` and its number, a backslash twice, any other as it is
unfoldable pub shown_byte : ℕ → List ℕ
shown_byte b = pick (is_control b) (92 ∷ 120 ∷ hex_byte b) (pick (eqb b 92) (92 ∷ 92 ∷ []) (b ∷ []))

-- as many bytes may stand before a byte of a name: the rest of a message still fits behind it
abbrev pub name_room : ℕ
name_room = 8000

unfoldable pub added_byte : List ℕ → ℕ → List ℕ
added_byte line b = pick (leb (length line) name_room) (added line (shown_byte b)) line

-- a name after it, byte by byte
unfoldable pub added_name : List ℕ → List ℕ → List ℕ
added_name line [] = line
added_name line (b ∷ bytes) = added_name (added_byte line b) bytes
