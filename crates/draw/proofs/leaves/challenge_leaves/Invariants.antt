-- `draw::leaves::challenge_leaves` meets its contract. The invariant: the leaves written and those left are all, and the places behind them are zero.
use mathlib.Core.Path.{◌≡◌}
use mathlib.Core.List.{◌++◌}
use Prim.Native.Nat.{◌+◌, ◌-◌}
use lib.ListN.{length, take, drop}
use Rattle.base.specs.Limits.{max_challenges}
use Rattle.base.specs.Bytes.{zeros}
use Rattle.draw.specs.Drawing.{leaves_from}
use Rattle.draw.proofs.leaves.challenge_leaves.Given as goal

abbrev pub invariant-loop-i : goal.invariant-loop-i
invariant-loop-i l = record {
  wide : length l.leaves ≡ max_challenges;
  written :
      take l.i l.leaves ++ leaves_from l.edition l.depth l.statement l.root (l.i + 1) (l.count - l.i)
      ≡ leaves_from l.edition l.depth l.statement l.root 1 l.count;
  behind : drop l.i l.leaves ≡ zeros (max_challenges - l.i);
}
