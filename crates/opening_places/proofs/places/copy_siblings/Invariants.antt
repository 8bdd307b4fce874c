-- `opening_places::places::copy_siblings` meets its contract. The invariant: the siblings of the levels before `level` are copied.
use mathlib.Core.Path.{◌≡◌}
use Prim.Native.Nat.{◌+◌, ◌-◌, ◌≤◌}
use lib.ListN.{length}
use Rattle.opening_places.specs.Places.{copied}
use Rattle.opening_places.proofs.places.copy_siblings.Given as goal

abbrev pub invariant-loop-level : goal.invariant-loop-level
invariant-loop-level l =
    (l.level ≤ l.memory + 1) × (l.out ≡ copied l.depth l.leaf l.store l.initial.out (l.level - 1)) × (length l.out ≡ length l.initial.out)
