-- `drawing_text::facts::numbers_lines` meets its contract.
use Rattle.drawing_text.proofs.InfoLaws.{numbers-told}
use Rattle.drawing_text.proofs.facts.numbers_lines.Goals as goal

pub returns-clause-value : goal.returns-clause-value
returns-clause-value c =
    numbers-told _ _ _ c.add_line.ensures.value c.add_line-2.ensures.value c.fact.ensures.value
    c.fact-2.ensures.value c.fact-3.ensures.value
