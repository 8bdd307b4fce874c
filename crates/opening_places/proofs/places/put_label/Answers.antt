-- `opening_places::places::put_label` meets its contract: the leaf's label, its way's sibling's, or another node's.
use mathlib.Core.Logic.{inl}
use mathlib.Core.Path.{refl, ◌∙◌}
use Rattle.opening_places.proofs.PlaceLaws.{same, other, placed-leaf, placed-beside, placed-nowhere}
use Rattle.opening_places.proofs.places.put_label.Goals as goal

pub returns-then-position-leaf : goal.returns-then-position-leaf
returns-then-position-leaf c =
    let a = c.args in
    c.put.ensures ∙ placed-leaf _ _ _ _ _ (same a.level a.position a.depth a.leaf c.if-level-depth.true c.if-position-leaf.true)

pub returns-then-position-sibling_of : goal.returns-then-position-sibling_of
returns-then-position-sibling_of c =
    let a = c.args in
    c.put-then-position-sibling_of.ensures
    ∙ placed-beside _ _ _ _ _ _ c.sibling_of.ensures (other a.level a.position a.depth a.leaf c.else-level-depth.either)
    (same a.level a.position a.level c.sibling_of.result refl c.if-position-sibling_of.true)

pub returns-else-position-sibling_of : goal.returns-else-position-sibling_of
returns-else-position-sibling_of c =
    let a = c.args in
    placed-nowhere _ _ _ _ _ _ c.sibling_of.ensures (other a.level a.position a.depth a.leaf c.else-level-depth.either)
    (other a.level a.position a.level c.sibling_of.result (inl (refl, c.if-position-sibling_of.false)))
