-- `vector_helpers::vectors::decode` meets its contract. The invariant: the bytes spelled so far stand in front.
use Rattle.std.proofs.Common.{◌≡◌}
use Rattle.base.specs.Bytes.{written}
use Rattle.vector_helpers.specs.Text.{spelled}
use Rattle.vector_helpers.proofs.vectors.decode.Given as goal

abbrev pub invariant-loop-i : goal.invariant-loop-i
invariant-loop-i l = l.out ≡ written l.initial.out 0 (spelled l.text l.i)
