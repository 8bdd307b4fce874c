-- `drawing_text::telling::verdict` meets its contract.
use Rattle.drawing_text.proofs.TellingLaws.{verdict-told}
use Rattle.drawing_text.proofs.telling.verdict.Goals as goal

pub returns-clause-value : goal.returns-clause-value
returns-clause-value c =
    verdict-told _ _ _ _ _ c.add_line.ensures.value c.add_line-2.ensures.value c.edition_line.ensures.value c.wanted.ensures.value
    c.judged.ensures.value
