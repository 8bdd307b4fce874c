-- `decimal::reading::read_numbers` meets its contract: the invariant: those kept and those left are all numbers,
-- and zeros stand behind those kept.
use Rattle.std.proofs.Common.{unwrap_or, is_some, ◌≡◌, ◌<◌, ◌++◌, true, length, drop, take}
use Rattle.base.specs.Bytes.{zeros}
use Rattle.decimal.specs.Steps.{all_fit}
use Rattle.decimal.specs.Numbers.{max_numbers, fits, numbers, numbers_from}
use Rattle.decimal.proofs.reading.read_numbers.Given as goal

abbrev pub invariant-loop-byte : goal.invariant-loop-byte
invariant-loop-byte l =
    (length l.list ≡ max_numbers) × (l.count < max_numbers)
    × (take l.count l.list ++ numbers_from (is_some l.number) (unwrap_or l.number 0) (drop l.byte-index l.input) ≡ numbers l.input) × (fits (unwrap_or l.number 0) ≡ true)
    × (all_fit true (unwrap_or l.number 0) (drop l.byte-index l.input) ≡ true) × (drop l.count l.list ≡ drop l.count (zeros max_numbers))
