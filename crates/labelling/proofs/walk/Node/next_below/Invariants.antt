use Prim.Native.Nat.{◌+◌, ◌-◌}
use Rattle.labelling.proofs.Walking.{Walking}
use Rattle.labelling.proofs.walk.Node.next_below.Given as goal

abbrev pub invariant-loop-left : goal.invariant-loop-left
invariant-loop-left l =
    Walking l.height l.fn.self.level l.fn.self.position l.made (l.fn.self.level + l.height - l.level) l.level l.position l.left l.half

abbrev pub decreases-loop-left : goal.decreases-loop-left
decreases-loop-left l = l.half
