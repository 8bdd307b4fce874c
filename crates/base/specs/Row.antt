-- Document 01, 'The checks, by place': a row of the table. 'Within a place the order is as listed. Each is given just when
-- its condition holds and no earlier one did.'
use Rattle.std.specs.Prelude.{ℕ, zero, suc, min, Bool, true, false, not, List, [], ◌∷◌, ltb, leb}
use Rattle.base.specs.Choice.{pick, both}
use Rattle.base.specs.Limits.{max_memory, max_edition}

-- the number of the first condition of a row that holds; 0 where none does
abbrev pub first_of : List (Bool × ℕ) → ℕ
first_of [] = 0
first_of (check ∷ row) = pick check.0 check.1 (first_of row)

-- a number is not from low to high
abbrev pub outside : ℕ → ℕ → ℕ → Bool
outside low high x = not (both (leb low x) (leb x high))

-- 2: m over min(n, max_memory)
abbrev pub memory_over : ℕ → ℕ → Bool
memory_over n m = ltb (min n max_memory) m

-- 12: an edition that does not exist
abbrev pub no_edition : ℕ → Bool
no_edition e = outside 1 max_edition e

-- one of the two holds
abbrev pub either : Bool → Bool → Bool
either x y = pick x true y

-- the call was not refused
abbrev pub is_done : ℕ → Bool
is_done zero = true
is_done (suc number) = false
