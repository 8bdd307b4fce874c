-- `opening_places::above::add_left` meets its contract, by parity.
use mathlib.Core.Path.{◌∙◌}
use native.Mathlib.Omega.{arith}
use Rattle.opening_places.proofs.AboveLaws.{left-none, left_one}
use Rattle.opening_places.proofs.above.add_left.Goals as goal

pub returns-then-position-eq0 : goal.returns-then-position-eq0
returns-then-position-eq0 c =
    let a = c.args in
    record {
      bytes_after = left-none a.bytes.now a.store.now a.len a.level a.position c.if-position-eq0.true;
      value = omega arith;
    }

pub returns : goal.returns
returns c =
    let if1 = c.if-position-eq0 in
    let a = c.args in
    record {
      bytes_after = c.put.ensures
          ∙ left_one a.bytes.now a.store.now a.len a.level a.position _ if1.false c.slot_of-at.ensures;
      value = omega (arith, if1.false);
    }
