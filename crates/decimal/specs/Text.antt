-- A number as text.
use Rattle.std.specs.Prelude.{ℕ, zero, suc, ◌+◌, ◌/◌, ◌%◌, List, [], ◌∷◌, ◌++◌, ltb}
use Rattle.base.specs.Choice.{pick}

-- a number in decimal, of at most k digits
unfoldable pub digits : ℕ → ℕ → List ℕ
digits zero x = []
digits (suc k) x = pick (ltb x 10) ((48 + x) ∷ []) (digits k (x / 10) ++ (48 + x % 10) ∷ [])

-- 20 digits hold every number below 2^64
unfoldable pub decimal : ℕ → List ℕ
decimal x = digits 20 x

-- a text and a number after it
abbrev pub field : List ℕ → ℕ → List ℕ
field name x = name ++ decimal x
