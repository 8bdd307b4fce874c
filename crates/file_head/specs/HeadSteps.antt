-- Reading the head number by number: the steps of `head_of`.
use Rattle.std.specs.Prelude.{ℕ, List}
use Rattle.base.specs.Limits.{max_depth, max_challenges}
use Rattle.base.specs.Row.{outside}
use Rattle.groups.specs.Groups.{number_groups}
use Rattle.groups.specs.Reading.{read_at, checked}
use Rattle.file_head.specs.Head.{HeadAnswer, numbers, not_read}

-- the count at a place, after the depth
unfoldable pub count_from : List ℕ → ℕ → ℕ → ℕ → HeadAnswer
count_from bytes e n at =
    checked not_read (read_at bytes at number_groups) (outside 1 max_challenges) 8 (λ t at. numbers e n t at)

-- the depth at a place, after the edition
unfoldable pub depth_from : List ℕ → ℕ → ℕ → HeadAnswer
depth_from bytes e at = checked not_read (read_at bytes at number_groups) (outside 1 max_depth) 1 (λ n at. count_from bytes e n at)
