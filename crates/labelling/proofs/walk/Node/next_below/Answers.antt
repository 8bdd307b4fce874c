use native.Mathlib.Omega.{arith}
use Rattle.base.proofs.Powers.{shifted_one}
use Rattle.labelling.proofs.Walking.{walking_start, walking-turn, walking-end, walking-small}
use lib.Pow.{pow_pos}
use Rattle.labelling.proofs.walk.Node.next_below.Goals as goal

pub overflow_sub-half : goal.overflow_sub-half
overflow_sub-half c = omega (arith, shifted_one c.args.height (omega arith), pow_pos c.args.height)

pub loop-left-init : goal.loop-left-init
loop-left-init c = walking_start _ _ _ _ (omega arith) c.requires.1 c.requires.2

pub overflow_mul-half : goal.overflow_mul-half
overflow_mul-half c = omega (arith, walking-small _ _ _ _ _ _ _ _ _ c.loop-left.invariant c.requires.0)

pub child-position-requires : goal.child-position-requires
child-position-requires c = (walking-small _ _ _ _ _ _ _ _ _ c.loop-left.invariant c.requires.0).1

pub overflow_add-level : goal.overflow_add-level
overflow_add-level c = omega (arith, walking-small _ _ _ _ _ _ _ _ _ c.loop-left.invariant c.requires.0)

pub loop-left-preserved : goal.loop-left-preserved
loop-left-preserved c =
    rw (c.child-position.ensures, c.remaining-left.ensures)
    (walking-turn _ _ _ _ _ _ _ _ c.loop-left.invariant c.loop-left-test.true)

pub returns : goal.returns
returns c = walking-end _ _ _ _ _ _ _ _ _ c.loop-left.invariant c.loop-left-test.false c.requires.2
