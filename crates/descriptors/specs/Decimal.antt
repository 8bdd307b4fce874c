-- The number that a text begins with.
use Rattle.std.specs.Prelude.{ℕ, ◌+◌, ◌-◌, ◌*◌, List, [], ◌∷◌, ltb}
use Rattle.std.specs.Char.{is_ascii_digit}
use Rattle.base.specs.Choice.{pick, both}

-- a value with the digits after it, up to another byte, or to where the value has no room for another digit
unfoldable pub number_after : ℕ → List ℕ → ℕ
number_after value [] = value
number_after value (byte ∷ text) =
    pick (both (is_ascii_digit byte) (ltb value 1000000000000000000)) (number_after (10 * value + (byte - 48)) text) value
