-- `opening_places::places::copy_label` meets its contract: the part lent is the label in the store.
use mathlib.Core.Path.{ap, ◌∙◌}
use Rattle.opening_places.specs.Places.{placed}
use Rattle.opening_places.proofs.PlaceLaws.{part_in}
use Rattle.opening_places.proofs.places.copy_label.Goals as goal

pub returns : goal.returns
returns c = c.put_label.ensures ∙ ap (placed _ _ _ _) (part_in _ _ _ c.slot_of-at.ensures)
