-- `planning::texts::put_refused` meets its contract: a field and a line feed.
use Rattle.decimal.proofs.Laying.{then, field_end}
use Rattle.planning.proofs.Laying.{refused_word, refused-short}
use Rattle.planning.specs.Output.{refused_text}
use native.Mathlib.Omega.{arith}
use Rattle.planning.proofs.texts.put_refused.Goals as goal

pub end_line-requires : goal.end_line-requires
end_line-requires c =
    let f = c.put_field-at in
    omega
    (arith, field_end refused_word _ f.ensures, f.auto.out, c.requires)

pub returns : goal.returns
unfolding refused_text
returns c =
    let f = c.put_field-at in
    rw (← c.number.ensures) (then f.ensures c.end_line.ensures (omega (arith, refused-short c.number.result, c.requires)))
