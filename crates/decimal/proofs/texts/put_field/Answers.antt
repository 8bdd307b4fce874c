-- `decimal::texts::put_field` meets its contract: the text, then the digits.
use Rattle.std.proofs.Common.{length, refl, ap, ◌∙◌, arith}
use Rattle.decimal.proofs.Laying.{field-wrote}
use Rattle.decimal.proofs.texts.put_field.Goals as goal

pub returns : goal.returns
returns c =
    let part = c.digits-digits.ensures ∙ c.spell-spelt.ensures.0.0 in
    field-wrote c.args.out.now c.put.new.dst c.put-2.new.dst c.args.name.now _ c.args.at _ c.args.x _ c.requires
    c.put.ensures refl part c.put-2.ensures (omega (arith, ap length part))
