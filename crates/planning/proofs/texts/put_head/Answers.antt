-- `planning::texts::put_head` meets its contract: three fields and a line feed.
use Rattle.decimal.proofs.Laying.{then, field_end}
use Rattle.planning.proofs.Laying.{depth_word, leaves_word, chain_word, head-one, head-two, head-short}
use Rattle.planning.specs.Output.{head_text}
use native.Mathlib.Omega.{arith}
use Rattle.planning.proofs.texts.put_head.Goals as goal

pub put_field-second-requires : goal.put_field-second-requires
put_field-second-requires c =
    let f = c.put_field-first in
    omega (
      arith,
      field_end depth_word _ f.ensures,
      f.auto.out,
      c.requires,
    )

pub put_field-third-requires : goal.put_field-third-requires
put_field-third-requires c =
    let g = c.put_field-second in
    let f = c.put_field-first in
    omega (
      arith,
      field_end leaves_word _ g.ensures,
      g.auto.out,
      field_end depth_word _ f.ensures,
      f.auto.out,
      c.requires,
    )

pub end_line-requires : goal.end_line-requires
end_line-requires c =
    let h = c.put_field-third in
    let g = c.put_field-second in
    let f = c.put_field-first in
    omega (
      arith,
      field_end chain_word _ h.ensures,
      h.auto.out,
      field_end leaves_word _ g.ensures,
      g.auto.out,
      field_end depth_word _ f.ensures,
      f.auto.out,
      c.requires,
    )

pub returns : goal.returns
unfolding head_text
returns c =
    let h = c.put_field-third in
    let g = c.put_field-second in
    let f = c.put_field-first in
    let a = c.args in
    then
    (then (then f.ensures g.ensures (omega (arith, head-one a.depth a.different, c.requires))) h.ensures
    (omega (arith, head-two a.depth a.different a.count, c.requires)))
    c.end_line.ensures (omega (arith, head-short a.depth a.different a.count, c.requires))
