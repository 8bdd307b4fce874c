-- `lines::telling::resumed_at` meets its contract.
use mathlib.Core.Path.{sym, ◌∙◌}
use mathlib.Core.List.{append-nil}
use native.Mathlib.Omega.{arith}
use Rattle.lines.proofs.LineLaws.{first-field, more-field}
use Rattle.lines.specs.Texts.{resumed_text}
use Rattle.lines.proofs.telling.resumed_at.Goals as goal

pub returns-clause-value : goal.returns-clause-value
unfolding resumed_text
returns-clause-value c =
    (more-field _ _ (first-field _ _ c.new.ensures.value c.add_field.ensures.value (omega arith)) c.add_field-2.ensures.value (omega arith) (omega arith)).out
    ∙ sym (append-nil _)
