-- The invariant: what is left of the text gives the same number.
use mathlib.Core.Path.{◌≡◌}
use lib.ListN.{drop}
use Rattle.descriptors.specs.Decimal.{number_after}
use Rattle.descriptors.proofs.small_file.number_in.Given as goal

abbrev pub invariant-loop-byte : goal.invariant-loop-byte
invariant-loop-byte l = number_after l.value (drop l.byte-index l.text) ≡ number_after 0 l.text
