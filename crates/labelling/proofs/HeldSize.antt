-- A label is put among the held ones, whose bytes stay as many.
use mathlib.Core.Path.{◌≡◌, refl, ◌∙◌}
use mathlib.Core.Bool.{Bool, true, false}
use mathlib.Core.List.{List}
use Prim.Native.Nat.{ℕ, ◌+◌, ◌-◌, ◌*◌, ◌≤◌, ◌<◌}
use native.Mathlib.Omega.{arith}
use borrow.Author.Tests.{eqb-false}
use lib.ListN.{length}
use Rattle.base.specs.Choice.{pick}
use Rattle.base.specs.Limits.{max_depth, held_size}
use Rattle.base.specs.Bytes.{zeros, written}
use Rattle.base.proofs.Copying.{length-written}
use Rattle.tree.specs.Nodes.{Node, node}
use Rattle.tree.specs.Walk.{nodes_in}
use Rattle.labelling.specs.Step.{next_node, place_of, is_leaf, held_with}
use Rattle.labelling.proofs.OneStep.{place-le, next_level}

module _
    (height level position made : ℕ) (shallow : level + height ≤ max_depth) (few : made < nodes_in height) (held label : List ℕ)
    (whole : length held ≡ held_size) (size : length label ≡ 32) where
  abbrev next : Node
  next = next_node height (node level position) made

  abbrev at : ℕ
  at = 32 * place_of (node level position) next

  place-few : place_of (node level position) next ≤ next.level - level
  place-few = place-le (next.level - level) next.position

  inside : (level ≤ next.level) × (next.level ≤ level + height)
  inside = next_level height level position made next.level next.position few refl

  own-place : length (written held at label) ≡ held_size
  own-place = length-written held at label (omega (arith, place-few, inside)) ∙ whole

  size-after :
      (t : Bool) → is_leaf height (node level position) next ≡ t
      → length (pick t (written held at label) (written (written held at label) (at + 32) (zeros 32))) ≡ held_size
  size-after true leaf = own-place
  size-after false inner =
      let lower : next.level ≡ level + height → ⊥ = eqb-false next.level (level + height) inner in
      length-written (written held at label) (at + 32) (zeros 32) (omega (arith, place-few, inside, own-place)) ∙ own-place

  pub held-size : length (held_with height (node level position) held next label) ≡ held_size
  unfolding held_with
  held-size = size-after (is_leaf height (node level position) next) refl
