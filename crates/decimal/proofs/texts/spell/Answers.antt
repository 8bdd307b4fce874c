use Rattle.decimal.proofs.Laying.{ten-left, tenth, spelled-more, spelled-last, zeros-more, zeros-last}
use Rattle.decimal.specs.Text.{decimal}
use lib.ListN.{length-set}
use native.Mathlib.Omega.{arith}
use mathlib.Core.List.{append-nil}
use mathlib.Core.Path.{refl}
use Rattle.decimal.proofs.texts.spell.Goals as goal

pub loop-rest-init : goal.loop-rest-init
unfolding decimal
loop-rest-init c = (omega arith, refl, append-nil _, omega arith, refl)

pub overflow_sub-i : goal.overflow_sub-i
overflow_sub-i c = omega (arith, ten-left c.loop-rest.i c.loop-rest.rest c.loop-rest-test.true c.loop-rest.invariant.3)

pub loop-rest-smaller : goal.loop-rest-smaller
loop-rest-smaller c = omega (arith, ten-left c.loop-rest.i c.loop-rest.rest c.loop-rest-test.true c.loop-rest.invariant.3)

pub loop-rest-preserved : goal.loop-rest-preserved
loop-rest-preserved c =
    let l = c.loop-rest in
    let more = ten-left l.i l.rest c.loop-rest-test.true l.invariant.3 in (
      omega arith,
      simp length-set l.invariant.1,
      spelled-more l.text _ l.i l.rest more (omega (arith, l.invariant.1)) c.loop-rest-test.true l.invariant.2,
      tenth l.i l.rest more l.invariant.3,
      zeros-more l.text l.i _ more l.invariant.4,
    )

pub returns : goal.returns
returns c =
    let l = c.loop-rest in (
      (
        spelled-last l.text _ l.i l.rest (omega (arith, l.invariant.1)) c.loop-rest-test.false l.invariant.2,
        zeros-last l.text l.i _ l.invariant.4,
      ),
      (l.invariant.0, simp length-set l.invariant.1),
    )
