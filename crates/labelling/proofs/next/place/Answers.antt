-- `labelling::next::place` meets its contract: a mask of ones is the rest of a division.
use native.Mathlib.Omega.{arith}
use lib.Pow.{pow_pos}
use Rattle.labelling.proofs.OneStep.{masked, place-le}
use Rattle.base.proofs.Powers.{shifted_one}
use Rattle.labelling.proofs.next.place.Goals as goal

pub overflow_sub-mask : goal.overflow_sub-mask
overflow_sub-mask c = omega (arith, shifted_one c.args.below c.requires, pow_pos c.args.below)

pub overflow_cast-result : goal.overflow_cast-result
overflow_cast-result c = omega (arith, masked c.args.below c.args.position c.requires, place-le c.args.below c.args.position)

pub returns : goal.returns
returns c =
    let e = masked c.args.below c.args.position c.requires in
    (e, omega (arith, e, place-le c.args.below c.args.position))
