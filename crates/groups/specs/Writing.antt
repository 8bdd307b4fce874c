-- A number's groups written at a place: all of them where they fit, and nothing otherwise (document 01, 7: output short).
use Rattle.std.specs.Prelude.{ℕ, ◌+◌, List, [], ◌∷◌, ltb, length}
use Rattle.base.specs.Choice.{pick}
use Rattle.base.specs.Bytes.{written}
use Rattle.base.specs.Row.{first_of, is_done}
use Rattle.groups.specs.Groups.{groups_of}

-- 7: the number's groups do not fit from the place on
unfoldable pub put_row : List ℕ → ℕ → ℕ → ℕ
put_row out at x = first_of ((ltb (length out) (at + length (groups_of x)), 7) ∷ [])

-- how many bytes are written: 0 where it is refused
unfoldable pub put_count : List ℕ → ℕ → ℕ → ℕ
put_count out at x = pick (is_done (put_row out at x)) (length (groups_of x)) 0

-- what the output holds afterwards
unfoldable pub output_after : List ℕ → ℕ → ℕ → List ℕ
output_after out at x = pick (is_done (put_row out at x)) (written out at (groups_of x)) out
