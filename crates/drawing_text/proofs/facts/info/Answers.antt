-- `drawing_text::facts::info` meets its contract.
use Rattle.drawing_text.proofs.InfoLaws.{info-told}
use Rattle.drawing_text.proofs.facts.info.Goals as goal

pub returns-clause-value : goal.returns-clause-value
returns-clause-value c = info-told _ _ c.check_shape.ensures c.add_line.ensures.value c.known.ensures.value c.end_lines-end.ensures.value
