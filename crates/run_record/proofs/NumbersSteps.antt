-- Reading the edition, and then the other numbers.
use mathlib.Core.Path.{◌≡◌, refl}
use mathlib.Core.List.{List}
use Prim.Native.Nat.{ℕ}
use Rattle.base.specs.Row.{no_edition}
use Rattle.groups.specs.Groups.{number_groups}
use Rattle.groups.specs.Reading.{read_at, checked}
use Rattle.run_record.specs.Reading.{not_read, numbers_of}
use Rattle.run_record.specs.ReadingSteps.{made_from, memory_from, depth_from}

module _ (bytes : List ℕ) where
  pub by-steps : numbers_of bytes ≡ checked not_read (read_at bytes 0 number_groups) no_edition 12 (depth_from bytes)
  unfolding numbers_of depth_from memory_from made_from
  by-steps = refl
