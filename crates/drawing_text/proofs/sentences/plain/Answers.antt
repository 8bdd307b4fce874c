-- `drawing_text::sentences::plain` meets its contract.
use Rattle.std.proofs.Common.{◌∙◌}
use Rattle.drawing_text.proofs.TellingLaws.{plain-same}
use Rattle.drawing_text.proofs.sentences.plain.Goals as goal

pub returns-clause-value : goal.returns-clause-value
returns-clause-value c = c.plain_refusal.ensures.value ∙ plain-same c.args.number _ c.args.size c.told_as.ensures.words
