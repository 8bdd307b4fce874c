-- Where a reader stands after a number: behind it, or where it stood if the number is refused.
use Rattle.std.specs.Prelude.{ℕ, Result, Ok, Err}
use Rattle.base.specs.declared.refusal.Refusal.{Refusal}
use Rattle.base.specs.Number.{number_of}
use Rattle.groups.specs.Reading.{Answer, value, refused}

-- what a reader that stands at a place afterwards has read
abbrev pub answered : Result ℕ Refusal → ℕ → Answer
answered (Ok x) at = value x at
answered (Err r) at = refused (number_of r)

abbrev pub place_after : ℕ → Answer → ℕ
place_after at (value x end) = end
place_after at (refused r) = at
