-- `drawing_text::telling::no_chain` meets its contract.
use Rattle.drawing_text.proofs.TellingLaws.{no-chain-told}
use Rattle.drawing_text.proofs.telling.no_chain.Goals as goal

pub returns-clause-value : goal.returns-clause-value
returns-clause-value c = no-chain-told _ _ c.add_line.ensures.value c.sentence.ensures.value c.accepted.ensures.value
