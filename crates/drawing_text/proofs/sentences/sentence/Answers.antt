-- `drawing_text::sentences::sentence` meets its contract.
use Rattle.drawing_text.proofs.TwoLines.{one}
use Rattle.drawing_text.proofs.sentences.sentence.Goals as goal

pub returns-clause-value : goal.returns-clause-value
returns-clause-value c = one c.new.ensures.value c.add.ensures.value c.requires
