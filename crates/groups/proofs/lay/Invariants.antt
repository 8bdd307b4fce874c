-- `groups::lay` meets its contract. The invariant: the first i bytes and the groups of the rest are the number's groups, and the
-- rest fits the bytes that are left, whose count is the measure.
use mathlib.Core.Path.{◌≡◌}
use mathlib.Core.List.{◌++◌}
use Prim.Native.Nat.{◌-◌, ◌^◌, ◌<◌}
use lib.ListN.{length, take}
use Rattle.groups.specs.Groups.{groups, groups_of}
use Rattle.groups.proofs.lay.Given as goal

abbrev pub invariant-loop-rest : goal.invariant-loop-rest
invariant-loop-rest l =
    (l.i < 10) × (length l.bytes ≡ 10) × (take l.i l.bytes ++ groups (10 - l.i) l.rest ≡ groups_of l.value) × (l.rest < 128 ^ (10 - l.i))

abbrev pub decreases-loop-rest : goal.decreases-loop-rest
decreases-loop-rest l = 10 - l.i
