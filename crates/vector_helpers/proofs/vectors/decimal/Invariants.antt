-- `vector_helpers::vectors::decimal` meets its contract. The invariant: what is left of the digits gives the same value.
use Rattle.std.proofs.Common.{◌≡◌, drop}
use Rattle.vector_helpers.specs.Text.{decimal_from}
use Rattle.vector_helpers.proofs.vectors.decimal.Given as goal

abbrev pub invariant-loop-byte : goal.invariant-loop-byte
invariant-loop-byte l = decimal_from 0 l.text ≡ decimal_from l.value (drop l.byte-index l.text)
