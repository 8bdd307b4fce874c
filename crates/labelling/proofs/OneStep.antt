-- The next node of a subtree: where it lies, and what one step gives, by its kind.
use mathlib.Core.Path.{◌≡◌, sym, ◌∙◌}
use mathlib.Core.List.{List, [], ◌++◌}
use Prim.Native.Nat.{ℕ, ◌+◌, ◌-◌, ◌*◌, ◌/◌, ◌%◌, ◌^◌, ◌≤◌, ◌<◌}
use native.Mathlib.Nat.{mod-lt}
use native.Mathlib.Omega.{arith}
use borrow.Author.Tests.{eq-eqb, ne_eqb}
use lib.Bits.{bit_and, and_mask}
use lib.Count.{ones, ones-le}
use lib.ListN.{length, take, drop}
use lib.Pow.{pow_pos}
use Rattle.base.specs.Limits.{max_depth}
use Rattle.base.specs.Bytes.{zeros, written}
use Rattle.tree.specs.Nodes.{node}
use Rattle.tree.specs.Walk.{nodes_in}
use Rattle.tree.specs.Labels.{label_by, in_labels}
use Rattle.tree.proofs.Order.{Inside, order-at, inside-level, inside-way}
use Rattle.tree.proofs.InputLengths.{ones_split}
use Rattle.labelling.specs.Rule.{stamp_rule}
use Rattle.labelling.specs.Step.{next_node, hashed_labels, next_label, held_with}
use Rattle.base.proofs.Powers.{shifted_one}

-- the one-bits below a mask
pub masked : (below p : ℕ) → below ≤ max_depth → ones (bit_and p ((1 * 2 ^ below) % 2 ^ 64 - 1)) ≡ ones (p % 2 ^ below)
masked below p small = rw (shifted_one below small, and_mask p below)

pub place-le : (below p : ℕ) → ones (p % 2 ^ below) ≤ below
place-le below p = ones-le below (p % 2 ^ below) (mod-lt p (pow_pos below))

-- the two labels of an inner node are all that it hashes
pub two-hashed : (held : List ℕ) (at : ℕ) → in_labels ([] ++ take (at + 64 - at) (drop at held)) ≡ in_labels (take 64 (drop at held))
two-hashed held at = let e : at + 64 - at ≡ 64 = omega arith in rw e

module _ (height level position made l p : ℕ) (few : made < nodes_in height) (is : node l p ≡ next_node height (node level position) made) where
  next-inside : Inside height (node level position) (node l p)
  next-inside = rw is (order-at height (node level position) made few)

  pub next_level : (level ≤ l) × (l ≤ level + height)
  next_level = let s : Inside height (node level position) (node l p) = next-inside in omega (arith, inside-level s)

  -- its way passes the subtree's node
  pub next_way : p / 2 ^ (l - level) ≡ position
  next_way =
      let s : Inside height (node level position) (node l p) = next-inside in
      let e : s.depth ≡ l - level = omega (arith, inside-level s) in
      rw e at (inside-way s)

  -- Its position's one-bits are the subtree's and those of its place in the subtree.
  pub next-ones : ones p ≡ ones position + ones (p % 2 ^ (l - level))
  next-ones = rw next_way at (ones_split p (l - level))

  pub next-few : position < 2 ^ level → ones p ≤ l
  next-few inside = omega (arith, next-ones, next_level, ones-le level position inside, place-le (l - level) p)

  module _ (edition depth : ℕ) (statement front held : List ℕ) (all : level + height ≡ depth) where
    -- a leaf, whose labels in front are the subtree's
    module _ (leaf : l ≡ depth) (size : length front ≡ 32 * ones position) where
      behind-front : 32 * ones p - length front ≡ 32 * ones (p % 2 ^ (l - level))
      behind-front = omega (arith, next-ones)

      pub leaf-label :
          label_by (stamp_rule edition depth statement) (node l p)
          (in_labels (front ++ take (32 * ones p - length front) held))
          ≡ next_label edition statement height (node level position) front held made
      unfolding next_label hashed_labels
      leaf-label = rw (← all, behind-front, ← is, eq-eqb l (level + height) (leaf ∙ sym all))

      pub leaf-held : (label : List ℕ)
          → written held (32 * ones p - length front) label ≡ held_with height (node level position) held (node l p) label
      unfolding held_with
      leaf-held label = rw (behind-front, eq-eqb l (level + height) (leaf ∙ sym all))

    -- an inner node, whose place is this one
    module _ (inner : l ≡ depth → ⊥) (place : ℕ) (placed : place ≡ ones (p % 2 ^ (l - level))) where
      pub inner-label :
          label_by (stamp_rule edition depth statement) (node l p) (in_labels (take 64 (drop (32 * place) held)))
          ≡ next_label edition statement height (node level position) front held made
      unfolding next_label hashed_labels
      inner-label = rw (← all, placed, ← is, ne_eqb l (level + height) (λ e. inner (e ∙ all)))

      pub inner-held : (label : List ℕ)
          → written (written held (32 * place) label) (32 * place + 32) (zeros 32) ≡ held_with height (node level position) held (node l p) label
      unfolding held_with
      inner-held label = rw (placed, ne_eqb l (level + height) (λ e. inner (e ∙ all)))
