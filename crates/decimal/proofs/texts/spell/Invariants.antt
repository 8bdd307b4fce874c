-- `decimal::texts::spell` meets its contract: the invariant: the digits of the rest and those laid are the number's,
-- and zeros stand before them.
use Rattle.decimal.specs.Text.{digits, decimal}
use lib.ListN.{length, take, drop}
use Rattle.base.specs.Bytes.{zeros}
use Prim.Native.Nat.{◌+◌, ◌^◌, ◌<◌}
use mathlib.Core.List.{◌++◌}
use mathlib.Core.Path.{◌≡◌}
use Rattle.decimal.proofs.texts.spell.Given as goal

abbrev pub invariant-loop-rest : goal.invariant-loop-rest
invariant-loop-rest l =
    (l.i < 20) × (length l.text ≡ 20) × (digits (l.i + 1) l.rest ++ drop (l.i + 1) l.text ≡ decimal l.x) × (l.rest < 10 ^ (l.i + 1))
    × (take (l.i + 1) l.text ≡ zeros (l.i + 1))

abbrev pub decreases-loop-rest : goal.decreases-loop-rest
decreases-loop-rest l = l.i
