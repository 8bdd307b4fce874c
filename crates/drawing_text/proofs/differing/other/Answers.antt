-- `drawing_text::differing::other` meets its contract.
use Rattle.std.proofs.Common.{refl}
use Rattle.drawing_text.proofs.DifferLaws.{other-same, other-told}
use Rattle.drawing_text.proofs.differing.other.Goals as goal

pub returns-then-x-y-clause-value : goal.returns-then-x-y-clause-value
returns-then-x-y-clause-value c = other-same _ _ _ _ _ c.if-x-y.true c.new.ensures.value

pub returns-clause-value : goal.returns-clause-value
returns-clause-value c =
    other-told _ _ _ _ c.requires.0 c.requires.1 c.if-x-y.false
    c.new-2.ensures.value refl c.add_field.ensures.value refl c.add_field-2.ensures.value c.add.ensures.value
