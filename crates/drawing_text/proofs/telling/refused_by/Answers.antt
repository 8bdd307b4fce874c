-- `drawing_text::telling::refused_by` meets its contract.
use Rattle.std.proofs.Common.{◌∙◌}
use Rattle.lines.specs.Texts.{rejected_text}
use Rattle.drawing_text.proofs.TellingLaws.{refusal-told}
use Rattle.drawing_text.proofs.telling.refused_by.Goals as goal

pub returns-clause-value : goal.returns-clause-value
returns-clause-value c =
    refusal-told _ _ _ _ _ _ c.add_line.ensures.value c.why_refused.ensures.value
    (c.rejected.ensures.value ∙ (λ i. rejected_text (c.number-refusal.ensures i) (c.from-opening.ensures i)))
