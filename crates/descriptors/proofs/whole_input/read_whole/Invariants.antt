-- `descriptors::whole_input::read_whole` meets its contract.
use mathlib.Core.Path.{◌≡◌}
use Prim.Native.Nat.{◌-◌, ◌≤◌}
use lib.ListN.{length}
use Rattle.descriptors.proofs.whole_input.read_whole.Given as goal

abbrev pub invariant-loop-size : goal.invariant-loop-size
invariant-loop-size l = (l.size ≤ length l.place) × (length l.place ≡ length l.initial.place)

abbrev pub decreases-loop-size : goal.decreases-loop-size
decreases-loop-size l = length l.place - l.size
