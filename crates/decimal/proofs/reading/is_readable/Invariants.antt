-- `decimal::reading::is_readable` meets its contract: the invariant: what is left to read tells the same.
use Rattle.std.proofs.Common.{unwrap_or, ◌≡◌, true, false, drop}
use Rattle.decimal.specs.Steps.{all_fit}
use Rattle.decimal.specs.Numbers.{fits}
use Rattle.decimal.proofs.reading.is_readable.Given as goal

abbrev pub invariant-loop-byte : goal.invariant-loop-byte
invariant-loop-byte l = (fits (unwrap_or l.number 0) ≡ true) × (all_fit true (unwrap_or l.number 0) (drop l.byte-index l.input) ≡ all_fit false 0 l.input)
