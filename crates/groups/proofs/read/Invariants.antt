-- The invariant: what is left to read from here gives what was to be read from the start, and what is read is below the weight of
-- group i.
use mathlib.Core.Path.{◌≡◌}
use Prim.Native.Nat.{◌+◌, ◌-◌, ◌^◌, ◌≤◌, ◌<◌}
use Rattle.groups.specs.Reading.{read_from}
use Rattle.groups.proofs.read.Given as goal

abbrev pub invariant-loop-i : goal.invariant-loop-i
invariant-loop-i l =
    (l.i-end ≤ 10) × (l.value < 128 ^ l.i) × (read_from l.bytes l.at 0 0 l.i-end ≡ read_from l.bytes (l.at + l.i) l.i l.value (l.i-end - l.i))
