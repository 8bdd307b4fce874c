-- Answers that are enums, as numbers: one definition for each number, 0 where the case has none.
use Rattle.std.specs.Prelude.{ℕ, Option, Some, None}
use Rattle.compare.specs.declared.Pair.{Pair}
use Rattle.draw.specs.Drawing.{DrawingAnswer, not_drawn, drawn_chain, drawn_clash}

-- the openings of the first pair that disagrees, from 1, and the smallest level: 0, 0 and 0 where no pair does
abbrev pub first_of : Option Pair → ℕ
first_of None = 0
first_of (Some pair) = pair.first

abbrev pub second_of : Option Pair → ℕ
second_of None = 0
second_of (Some pair) = pair.second

abbrev pub level_of : Option Pair → ℕ
level_of None = 0
level_of (Some pair) = pair.level

-- what drawing found: 0 refused, 1 a chain, 2 a clash
abbrev pub kind_of : DrawingAnswer → ℕ
kind_of (not_drawn code) = 0
kind_of (drawn_chain count) = 1
kind_of (drawn_clash i j l) = 2

-- a refused drawing's code is that of the check
abbrev pub refusal_of : DrawingAnswer → ℕ
refusal_of (not_drawn code) = code
refusal_of (drawn_chain count) = 0
refusal_of (drawn_clash i j l) = 0

abbrev pub count_of : DrawingAnswer → ℕ
count_of (not_drawn code) = 0
count_of (drawn_chain count) = count
count_of (drawn_clash i j l) = 0
