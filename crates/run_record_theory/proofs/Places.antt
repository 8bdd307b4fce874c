-- The next node of a run and the places that it uses: how many labels are held before and after it.
use mathlib.Core.Path.{◌≡◌, refl, sym, ap, ◌∙◌}
use mathlib.Core.Bool.{true, false}
use Prim.Native.Nat.{ℕ, ◌+◌, ◌-◌, ◌*◌, ◌≤◌, ◌<◌}
use native.Mathlib.Nat.{mod-eq_of_lt}
use native.Mathlib.Omega.{arith}
use borrow.Author.Tests.{eqb-true, eqb-false}
use lib.Count.{ones}
use lib.ListN.{length, length-append}
use Rattle.base.specs.Limits.{max_depth, held_size}
use Rattle.tree.specs.Nodes.{Node, root, InTree, labelling_order}
use Rattle.tree.specs.Held.{held}
use Rattle.tree.specs.Walk.{nodes_in}
use Rattle.tree.proofs.Order.{tree-at}
use Rattle.tree.proofs.Parents.{left_siblings_below-count}
use Rattle.tree.proofs.HeldLaws.{held_below-after, held-few}
use Rattle.labelling.specs.Step.{next_node, place_of, is_leaf}
use Rattle.run_record.proofs.HeldCounts as counts

module _ (n k : ℕ) (small : k < nodes_in n) where
  next-inside : InTree n (next_node n root k)
  unfolding labelling_order
  next-inside = tree-at n k small

  -- its place is that of its position's one-bits
  place_is : place_of root (next_node n root k) ≡ ones (next_node n root k).position
  place_is =
      let same : (next_node n root k).level - 0 ≡ (next_node n root k).level = omega arith in
      rw (same, mod-eq_of_lt next-inside.1)

  -- a leaf comes next: all that is held stands before its place
  pub count-leaf : is_leaf n root (next_node n root k) ≡ true → length (held n k) ≡ place_of root (next_node n root k)
  count-leaf leaf =
      let w : Node = next_node n root k in
      sym (counts.count-leaf n k w.level w.position small refl (omega (arith, eqb-true w.level (0 + n) leaf))) ∙ sym place_is

  -- an inner node comes next: its two children stand from its place on
  pub count-inner : is_leaf n root (next_node n root k) ≡ false → length (held n k) ≡ place_of root (next_node n root k) + 2
  count-inner inner =
      let w : Node = next_node n root k in
      let d : w.level ≡ 0 + n → ⊥ = eqb-false w.level (0 + n) inner in
      sym (counts.count-inner n k w.level w.position small refl (omega (arith, next-inside.0)))
      ∙ ap (λ (c : ℕ). c + 2) (sym place_is)

  -- and afterwards its own label stands there, the last one
  pub count-after : length (held n (k + 1)) ≡ place_of root (next_node n root k) + 1
  count-after =
      let w : Node = next_node n root k in
      let level : 0 + (w.level - 0) ≡ w.level = omega arith in
      let height : n - w.level + (w.level - 0) ≡ n = omega (arith, next-inside.0) in
      rw (
        held_below-after n k root w (w.level - 0) (n - w.level) level height small refl,
        length-append,
        left_siblings_below-count root.level (w.level - 0) w.position,
      )

  -- its place is one of the 41
  pub place-fits : n ≤ max_depth → 32 * place_of root (next_node n root k) + 32 ≤ held_size
  place-fits shallow = omega (arith, count-after, held-few n (k + 1) (omega arith))
