-- The numbers of a text: 'in decimal, parted by blanks or line feeds'.
use Rattle.std.specs.Prelude.{ℕ, ◌+◌, ◌-◌, ◌*◌, ◌^◌, Bool, true, false, List, [], ◌∷◌, ltb, leb, eqb}
use Rattle.base.specs.Choice.{pick, both}
use Rattle.base.specs.Limits.{max_challenges}
use Rattle.base.specs.Row.{either}

-- how many numbers of an input are kept: a depth and one leaf more than any plan takes
abbrev pub max_numbers : ℕ
max_numbers = max_challenges + 2

abbrev pub is_digit : ℕ → Bool
is_digit b = both (leb 48 b) (leb b 57)

-- a blank or a line feed
abbrev pub parts : ℕ → Bool
parts b = either (eqb b 32) (eqb b 10)

abbrev pub readable : ℕ → Bool
readable b = either (is_digit b) (parts b)

-- the numbers of a text, in order; in a number, of which the digits so far give a value, or between two
unfoldable pub numbers_from : Bool → ℕ → List ℕ → List ℕ
numbers_from within value [] = pick within (value ∷ []) []
numbers_from within value (b ∷ bytes) =
    pick (is_digit b)
    (numbers_from true (10 * value + (b - 48)) bytes)
    (pick within (value ∷ numbers_from false 0 bytes) (numbers_from false 0 bytes))

unfoldable pub numbers : List ℕ → List ℕ
numbers bytes = numbers_from false 0 bytes

-- at most 2^64 − 1
abbrev pub fits : ℕ → Bool
fits x = ltb x (2 ^ 64)
