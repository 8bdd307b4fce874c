-- Document 01: numbers 'in seven-bit groups, low group first, top bit set where another follows, shortest form'.
use Rattle.std.specs.Prelude.{ℕ, zero, suc, ◌+◌, ◌/◌, ◌%◌, List, [], ◌∷◌, ltb}
use Rattle.base.specs.Choice.{pick}

-- a number below 128 ^ k in its groups, at most k
unfoldable pub groups : ℕ → ℕ → List ℕ
groups zero x = []
groups (suc k) x = pick (ltb x 128) (x ∷ []) ((128 + x % 128) ∷ groups k (x / 128))

-- the most groups of a number of a file, and of a run's record but for its labels made
abbrev pub number_groups : ℕ
number_groups = 2

-- the most groups of a number, read or written: ten hold every number of 64 bits
abbrev pub max_groups : ℕ
max_groups = 10

abbrev pub groups_of : ℕ → List ℕ
groups_of x = groups max_groups x
