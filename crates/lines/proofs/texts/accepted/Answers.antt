-- `lines::texts::accepted` meets its contract.
use native.Mathlib.Omega.{arith}
use Rattle.lines.proofs.LineLaws.{three_laid}
use Rattle.lines.specs.Texts.{accepted_text}
use Rattle.lines.proofs.texts.accepted.Goals as goal

pub returns-clause-value : goal.returns-clause-value
unfolding accepted_text
returns-clause-value c =
    three_laid _ _ _ _ _ _ _
    c.new.ensures.value c.add_field.ensures.value c.add_field-2.ensures.value c.add_field-3.ensures.value c.add.ensures.value
    (omega arith) (omega arith) (omega arith) (omega arith)
