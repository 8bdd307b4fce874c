-- `files::part::is_left_over` meets its contract.
use mathlib.Core.Path.{◌∙◌}
use Rattle.files.proofs.LeftLaws.{left-blank, left-front}
use Rattle.files.proofs.part.is_left_over.Goals as goal

pub returns-then-is_blank : goal.returns-then-is_blank
returns-then-is_blank c = c.if-is_blank.true ∙ left-blank _ _ _ c.is_blank.ensures c.if-is_blank.true

pub returns-else-is_blank : goal.returns-else-is_blank
returns-else-is_blank c = left-front _ _ _ c.is_blank.ensures _ c.if-is_blank.false c.starts_with.ensures.value
