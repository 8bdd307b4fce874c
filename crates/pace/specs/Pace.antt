-- How fast labels are made, and how long those that are left take.
use Rattle.std.specs.Prelude.{ℕ, zero, suc, ◌+◌, ◌*◌, ◌/◌, ◌^◌, ltb, leb, eqb}
use Rattle.base.specs.Choice.{pick}
use Rattle.base.specs.Limits.{max_depth}
use Rattle.base.specs.Row.{either}

-- labels a second, of some made in some milliseconds; 0 where no time is passed, or where 1,000 times as many do not fit 64 bits
unfoldable pub rate_of : ℕ → ℕ → ℕ
rate_of made ms = pick (either (eqb ms 0) (leb (2 ^ 53) made)) 0 (1000 * made / ms)

-- how often a number can be halved until 1 or nothing is left, k times at most: the depth of a tree of as many labels, where k is no less
unfoldable pub height : ℕ → ℕ → ℕ
height zero made = 0
height (suc k) made = pick (ltb made 2) 0 (suc (height k (made / 2)))

-- In a tree of depth d a label takes (d + 13) / 8 blocks of SHA-256 on average. The first labels of a deep tree are those of a shallow one,
-- and are made faster than the later ones. 0 where the rate is not known, or where the numbers are too large.
unfoldable pub seconds_left : ℕ → ℕ → ℕ → ℕ → ℕ
seconds_left left rate made n =
    pick (either (eqb rate 0) (either (leb (2 ^ 50) left) (ltb max_depth n))) 0
    (left * (n + 13) / (height n made + 13) / rate)
