-- Reading the numbers one by one: the steps of `numbers_of`.
use Rattle.std.specs.Prelude.{ℕ, List}
use Rattle.groups.specs.Groups.{number_groups}
use Rattle.groups.specs.Reading.{read_at, checked}
use Rattle.run_record.specs.Layout.{made_groups}
use Rattle.run_record.specs.Reading.{NumbersAnswer, numbers, not_read, any_number}

-- the labels made, after the memory level
unfoldable pub made_from : List ℕ → ℕ → ℕ → ℕ → ℕ → NumbersAnswer
made_from bytes e n m at = checked not_read (read_at bytes at made_groups) any_number 4 (λ made at. numbers e n m made at)

-- the memory level, after the depth
unfoldable pub memory_from : List ℕ → ℕ → ℕ → ℕ → NumbersAnswer
memory_from bytes e n at = checked not_read (read_at bytes at number_groups) any_number 4 (λ m at. made_from bytes e n m at)

-- the depth, after the edition
unfoldable pub depth_from : List ℕ → ℕ → ℕ → NumbersAnswer
depth_from bytes e at = checked not_read (read_at bytes at number_groups) any_number 4 (λ n at. memory_from bytes e n at)
