-- The number that a word says.
use Rattle.std.specs.Prelude.{ℕ, List, Option, Some, None, ltb, eqb, length, get_or}
use mathlib.Core.Bool.{Bool, not}
use Rattle.base.specs.Choice.{pick, both, every}
use Rattle.decimal.specs.Numbers.{is_digit, numbers}
use Rattle.decimal.specs.Steps.{all_fit}

-- a 0 before other bytes
unfoldable pub leading_zero : List ℕ → Bool
leading_zero word = both (ltb 1 (length word)) (eqb (get_or word 0 0) 48)

-- no byte but digits, and no 0 before others
unfoldable pub is_plain : List ℕ → Bool
is_plain word = both (every is_digit word) (not (leading_zero word))

-- one number in decimal as the planning program reads its input, and nothing else; it is at most 2^64 − 1
unfoldable pub is_number : List ℕ → Bool
is_number word = both (is_plain word) (both (all_fit mathlib.Core.Bool.false 0 word) (eqb (length (numbers word)) 1))

unfoldable pub value_of : List ℕ → Option ℕ
value_of word = pick (is_number word) (Some (get_or (numbers word) 0 0)) None
