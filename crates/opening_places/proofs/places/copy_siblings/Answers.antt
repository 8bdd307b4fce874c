use mathlib.Core.Path.{◌≡◌, refl, ◌∙◌}
use Prim.Native.Nat.{◌+◌, ◌-◌}
use native.Mathlib.Omega.{arith}
use borrow.Author.Rules.{rules}
use Rattle.tree.specs.Nodes.{node}
use Rattle.tree.proofs.Slots.{slot-inside}
use Rattle.opening_places.proofs.PlaceLaws.{beside-inside, copied_none, copied-level}
use Rattle.opening_places.proofs.places.copy_siblings.Goals as goal

pub loop-level-init : goal.loop-level-init
loop-level-init c = (omega arith, copied_none _ _ _ _, refl)

pub copy_label-requires : goal.copy_label-requires
copy_label-requires c =
    let a = c.args in
    let l = c.loop-level.level in
    let b = beside-inside a.depth a.leaf l _ (omega arith) (omega arith) c.requires.possible.inside c.sibling_of-beside.ensures in
    let s = slot-inside a.memory (node l c.sibling_of-beside.result) (omega arith, b) in
    record {
      depth_le_max_depth = (c.requires.possible.deep, omega arith, omega arith, b);
      position_in_bounds = (omega arith, omega arith);
    }

pub loop-level-preserved : goal.loop-level-preserved
loop-level-preserved c =
    let l = c.loop-level.level in
    let e : l + 1 - 1 ≡ l = omega arith in (
      omega arith,
      c.copy_label.ensures
          ∙ rw e (copied-level _ _ _ _ _ _ _ (omega arith) c.loop-level.invariant.1 c.sibling_of-beside.ensures),
      search rules,
    )

pub returns : goal.returns
returns c =
    let e : c.loop-level.level - 1 ≡ c.args.memory = omega arith in
    rw e at c.loop-level.invariant.1

pub returns-2 : goal.returns-2
returns-2 c =
    let e : c.loop-level.level ≡ c.args.memory = omega arith in
    rw e at
    (c.copy_label.ensures ∙ copied-level _ _ _ _ _ _ _ (omega arith) c.loop-level.invariant.1 c.sibling_of-beside.ensures)
