-- `drawing_text::telling::wanted` meets its contract.
use Rattle.drawing_text.proofs.TellingLaws.{none-wanted, wanted-told}
use Rattle.drawing_text.proofs.telling.wanted.Goals as goal

pub returns-then-depth-eq0-clause-value : goal.returns-then-depth-eq0-clause-value
returns-then-depth-eq0-clause-value c = none-wanted _ _ _ c.if-depth-eq0.true c.new.ensures.value

pub returns-clause-value : goal.returns-clause-value
returns-clause-value c =
    wanted-told _ _ c.if-depth-eq0.false c.add_line.ensures.value
    c.fact.ensures.value c.fact-2.ensures.value
