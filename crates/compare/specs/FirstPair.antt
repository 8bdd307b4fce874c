-- Document 01, 'Drawing the chain': 'the answer names the first pair i < j (by i, then j), the smallest such level'. Openings are
-- numbered from 1; the test says whether two of them disagree at a level.
use Rattle.std.specs.Prelude.{ℕ, zero, suc, ◌+◌, ◌≤◌, ◌<◌, Bool, Option, Some, None}
use Rattle.base.specs.Choice.{pick}
use Rattle.compare.specs.declared.Pair.{Pair}

-- openings i and j disagree at level l
abbrev pub disagree_at_level : ℕ → ℕ → ℕ → Option Pair
disagree_at_level i j l = Some (record { first = i; second = j; level = l })

-- the smallest of `left` levels from l on
unfoldable pub levels_from : (ℕ → ℕ → ℕ → Bool) → ℕ → ℕ → ℕ → ℕ → Option Pair
levels_from disagree i j l zero = None
levels_from disagree i j l (suc left) = pick (disagree i j l) (disagree_at_level i j l) (levels_from disagree i j (l + 1) left)

-- the first answer, unless it found none
abbrev pub or_else : Option Pair → Option Pair → Option Pair
or_else None next = next
or_else (Some pair) next = Some pair

-- the pairs of i with `left` openings from j on, at n levels each
unfoldable pub seconds_from : (ℕ → ℕ → ℕ → Bool) → ℕ → ℕ → ℕ → ℕ → Option Pair
seconds_from disagree n i j zero = None
seconds_from disagree n i j (suc left) = or_else (levels_from disagree i j 0 n) (seconds_from disagree n i (j + 1) left)

-- the pairs of `left` openings from i on, each with those after it
unfoldable pub firsts_from : (ℕ → ℕ → ℕ → Bool) → ℕ → ℕ → ℕ → Option Pair
firsts_from disagree n i zero = None
firsts_from disagree n i (suc left) = or_else (seconds_from disagree n i (i + 1) left) (firsts_from disagree n (i + 1) left)

-- the pairs of t openings
unfoldable pub first_pair : (ℕ → ℕ → ℕ → Bool) → ℕ → ℕ → Option Pair
first_pair disagree n t = firsts_from disagree n 1 t

-- where a pair of t openings of n levels lies
pub record Lies (n t : ℕ) (pair : Pair) : Type 0 where
  pub first : 1 ≤ pair.first
  pub order : pair.first < pair.second
  pub second : pair.second ≤ t
  pub level : pair.level < n
