use Prim.Native.Nat.{◌+◌, ◌-◌}
use native.Mathlib.Omega.{arith}
use lib.ListN.{length-set}
use Rattle.groups.proofs.Steps.{rest_below, two-left}
use Rattle.groups.proofs.Output.{laid_more, laid-last, taken-count}
use Rattle.groups.proofs.lay.Goals as goal

pub loop-rest-preserved : goal.loop-rest-preserved
loop-rest-preserved c =
    let l = c.loop-rest in (
      omega (arith, two-left _ _ c.loop-rest-test.true l.invariant.3),
      simp length-set l.invariant.1,
      laid_more l.bytes l.i l.rest _ (omega arith) _ (10 - (l.i + 1)) (omega arith) c.loop-rest-test.true l.invariant.2,
      rest_below (10 - l.i) (10 - (l.i + 1)) _ (omega arith) l.invariant.3,
    )

pub returns : goal.returns
returns c =
    let l = c.loop-rest in
    let laid =
    laid-last l.bytes l.i l.rest c.args.value (omega arith) _ (9 - l.i) (omega arith)
    c.loop-rest-test.false l.invariant.2 in
    (laid, taken-count _ _ _ (simp length-set (omega arith)) laid)
