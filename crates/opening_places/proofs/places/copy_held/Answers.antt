-- `opening_places::places::copy_held` meets its contract, by whether m is n.
use mathlib.Core.Path.{◌∙◌}
use native.Mathlib.Omega.{arith}
use Rattle.tree.specs.Nodes.{node}
use Rattle.tree.proofs.Slots.{slot-inside}
use Rattle.opening_places.proofs.PlaceLaws.{copied-with-leaf, copied-no-leaf}
use Rattle.opening_places.proofs.places.copy_held.Goals as goal

pub copy_label-requires : goal.copy_label-requires
copy_label-requires c =
    let a = c.args in
    let k = slot-inside a.memory (node a.depth a.leaf) (omega arith, c.requires.possible.inside) in
    record {
      depth_le_max_depth = (c.requires.possible.deep, c.requires.possible.some, omega arith, c.requires.possible.inside);
      position_in_bounds = (omega arith, omega arith);
    }

pub returns-then-memory-depth : goal.returns-then-memory-depth
returns-then-memory-depth c =
    c.copy_label.ensures
    ∙ copied-with-leaf _ _ _ _ _ _ c.copy_siblings.ensures
    (omega (arith, c.if-memory-depth.true))

pub returns-else-memory-depth : goal.returns-else-memory-depth
returns-else-memory-depth c = copied-no-leaf _ _ _ _ _ _ c.copy_siblings.ensures (λ e. omega (arith, c.if-memory-depth.false))
