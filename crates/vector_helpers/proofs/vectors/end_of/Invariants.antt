-- `vector_helpers::vectors::end_of` meets its contract. The invariant: no mark was passed. The measure is what is left.
use Rattle.std.proofs.Common.{◌≡◌, ◌-◌, ◌≤◌, length}
use Rattle.vector_helpers.specs.Text.{end_from}
use Rattle.vector_helpers.proofs.vectors.end_of.Given as goal

abbrev pub invariant-loop-end : goal.invariant-loop-end
invariant-loop-end l = (l.at ≤ l.end) × (l.end ≤ length l.text) × (end_from l.text l.at l.mark ≡ end_from l.text l.end l.mark)

abbrev pub decreases-loop-end : goal.decreases-loop-end
decreases-loop-end l = length l.text - l.end
