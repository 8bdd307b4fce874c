-- `writing::Writing::follow` meets its contract. The invariant: what is left to begin gives the same. The measure is the number of
-- openings after the one under way.
use mathlib.Core.Path.{◌≡◌}
use Prim.Native.Nat.{◌-◌}
use lib.ListN.{length}
use Rattle.writing.proofs.FollowLaws.{Following}
use Rattle.writing.proofs.Writing.follow.Given as goal

abbrev pub invariant-loop-order : goal.invariant-loop-order
invariant-loop-order l =
    Following l.store l.initial.file l.initial.self l.file l.self × (length l.file ≡ length l.initial.file)

abbrev pub decreases-loop-order : goal.decreases-loop-order
decreases-loop-order l = l.self.count - l.self.number
