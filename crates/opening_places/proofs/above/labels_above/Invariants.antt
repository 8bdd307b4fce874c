-- `opening_places::above::labels_above` meets its contract. The invariant: the first `filled` bytes are the labels of the levels before
-- `level`, and zeros follow.
use mathlib.Core.Path.{◌≡◌}
use Prim.Native.Nat.{◌+◌, ◌-◌, ◌≤◌}
use lib.ListN.{length}
use Rattle.opening_places.specs.Possible.{front_size}
use Rattle.opening_places.proofs.AboveLaws.{Above}
use Rattle.opening_places.proofs.above.labels_above.Given as goal

abbrev pub invariant-loop-level : goal.invariant-loop-level
invariant-loop-level l =
    (l.level ≤ l.memory + 1) × Above l.depth l.leaf l.store (l.level - 1) l.filled l.bytes × (length l.bytes ≡ front_size)
