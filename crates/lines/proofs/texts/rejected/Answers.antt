-- `lines::texts::rejected` meets its contract.
use native.Mathlib.Omega.{arith}
use Rattle.lines.proofs.LineLaws.{two_laid}
use Rattle.lines.specs.Texts.{rejected_text}
use Rattle.lines.proofs.texts.rejected.Goals as goal

pub returns-clause-value : goal.returns-clause-value
unfolding rejected_text
returns-clause-value c =
    two_laid _ _ _ _ _
    c.new.ensures.value c.add_field.ensures.value c.add_field-2.ensures.value c.add.ensures.value
    (omega arith) (omega arith) (omega arith)
