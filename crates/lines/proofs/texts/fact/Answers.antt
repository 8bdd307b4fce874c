-- `lines::texts::fact` meets its contract.
use native.Mathlib.Omega.{arith}
use Rattle.lines.proofs.LineLaws.{first-field, more}
use Rattle.lines.specs.Texts.{fact_text}
use Rattle.lines.proofs.texts.fact.Goals as goal

pub returns-clause-value : goal.returns-clause-value
unfolding fact_text
returns-clause-value c =
    (more _ 1 (first-field _ _ c.new.ensures.value c.add_field.ensures.value c.requires) c.add.ensures.value (omega arith) (omega arith)).out
