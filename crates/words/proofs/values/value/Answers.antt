-- `words::values::value` meets its contract.
use Rattle.std.proofs.Common.{◌∙◌, sym}
use Rattle.decimal.proofs.ReadLaws.{kept-all}
use Rattle.words.proofs.ValueLaws.{one}
use Rattle.words.proofs.values.value.Goals as goal

pub returns-then-numbers-eq1 : goal.returns-then-numbers-eq1
returns-then-numbers-eq1 c =
    let r = c.read_numbers-numbers in
    let count = r.result.count in
    one _ r.result.list count (sym c.is_plain.ensures ∙ c.if-not-is_plain.false) (sym c.is_readable.ensures ∙ c.if-not-is_readable.false)
    (kept-all r.result.list _ _ count r.ensures.0 r.ensures.1) r.ensures.1 c.if-numbers-eq1.true
