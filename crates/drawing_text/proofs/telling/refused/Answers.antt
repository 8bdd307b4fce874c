-- `drawing_text::telling::refused` meets its contract.
use Rattle.std.proofs.Common.{◌∙◌}
use Rattle.drawing_text.proofs.TellingLaws.{refusal-told, why-same}
use Rattle.drawing_text.proofs.telling.refused.Goals as goal

pub returns-clause-value : goal.returns-clause-value
returns-clause-value c =
    let a = c.args in
    let told = c.told_as.ensures in
    refusal-told _ _ _ _ _ _ c.add_line.ensures.value
    (c.why_refused.ensures.value ∙ why-same a.number _ a.size a.found a.depth a.count told.words told.differs) c.rejected.ensures.value
