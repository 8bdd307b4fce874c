-- `draw::leaves::opened_leaves` meets its contract. The invariant: the leaves written and those left are all.
use mathlib.Core.Path.{◌≡◌}
use mathlib.Core.List.{◌++◌}
use Prim.Native.Nat.{◌+◌, ◌-◌}
use lib.ListN.{take}
use Rattle.draw.specs.Drawing.{leaves_from}
use Rattle.draw.proofs.leaves.opened_leaves.Given as goal

abbrev pub invariant-loop-i : goal.invariant-loop-i
invariant-loop-i l =
    take l.i l.room ++ leaves_from l.head.edition l.head.depth l.statement l.root (l.i + 1) (l.head.count - l.i)
    ≡ leaves_from l.head.edition l.head.depth l.statement l.root 1 l.head.count
