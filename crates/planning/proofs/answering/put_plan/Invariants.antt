-- `planning::answering::put_plan` meets its contract: the invariant: laying out the nodes from here on gives all of them.
use Rattle.planning.specs.Output.{nodes_text}
use Rattle.chain_theory.specs.Ways.{chain}
use Rattle.base.specs.Bytes.{written}
use lib.ListN.{length, drop}
use Prim.Native.Nat.{◌+◌, ◌*◌, ◌≤◌}
use mathlib.Core.Path.{◌≡◌}
use Rattle.planning.proofs.answering.put_plan.Given as goal

abbrev pub invariant-loop-code : goal.invariant-loop-code
invariant-loop-code l =
    (written l.out l.at (nodes_text (drop l.code-index (chain l.depth l.leaves))) ≡ written l.initial.out l.initial.at (nodes_text (chain l.depth l.leaves)))
    × (l.at + length (nodes_text (drop l.code-index (chain l.depth l.leaves))) ≡ l.initial.at + length (nodes_text (chain l.depth l.leaves)))
    × (length l.out ≡ length l.initial.out) × (l.at ≤ l.initial.at + 42 * l.code-index)
