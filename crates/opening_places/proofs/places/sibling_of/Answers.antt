-- `opening_places::places::sibling_of` meets its contract, by parity.
use native.Mathlib.Omega.{arith}
use Rattle.base.proofs.ChoiceLaws.{is_odd, is-even}
use Rattle.opening_places.proofs.places.sibling_of.Goals as goal

pub returns-then-position-eq1 : goal.returns-then-position-eq1
returns-then-position-eq1 c = rw (is_odd _ c.if-position-eq1.true)

pub returns-else-position-eq1 : goal.returns-else-position-eq1
returns-else-position-eq1 c = rw (is-even c.args.position (omega (arith, c.if-position-eq1.false)))
