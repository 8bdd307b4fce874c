-- Definition 1 of the paper: the labelling by recursion on the height meets its equation, and nothing else does.
use mathlib.Core.Path.{◌≡◌, refl}
use Prim.Native.Nat.{ℕ, zero, suc, ◌+◌, ◌-◌, ◌*◌, ◌/◌, ◌%◌, ◌^◌, ◌≤◌, ◌<◌}
use native.Mathlib.Numerals.{add-one}
use native.Mathlib.Omega.{arith}
use mathlib.Core.Bool.{Bool, true, false}
use mathlib.Core.List.{[], ◌∷◌, ◌++◌, map, map-append, append-nil}
use lib.ListN.{length}
use lib.Dec.{ltb}
use borrow.Author.Tests.{ltb-true, ltb-false, lt-ltb, le-ltb}
use Rattle.base.specs.Choice.{odd}
use Rattle.base.proofs.ChoiceLaws.{odd-true, odd-false, is_odd, is-even}
use Rattle.tree.specs.Nodes.{Node, node, InTree, left_child, right_child, left_siblings, parents}
use Rattle.tree.specs.Labels.{Label, Rule, label_by, IsLabelling, label_below, labels_above, label}
use Rattle.tree.specs.Rules.{Hash32}

-- ---- parents
pub parents-inner : (n : ℕ) (v : Node) → v.level < n → parents n v ≡ left_child v ∷ right_child v ∷ []
unfolding parents
parents-inner n v h = rw (lt-ltb v.level n h)

pub parents-leaf : (n : ℕ) (v : Node) → n ≤ v.level → parents n v ≡ left_siblings v.level v.position
unfolding parents
parents-leaf n v h = rw (le-ltb v.level n h)

-- ---- left siblings on the way of a child
pub siblings-left : (l p : ℕ) → left_siblings (l + 1) (2 * p) ≡ left_siblings l p
unfolding left_siblings
siblings-left l p =
    let half : 2 * p / 2 ≡ p = omega arith in
    rw (add-one, is-even (2 * p) (omega arith), half) (cc (append-nil (left_siblings l p)))

pub siblings-right : (l p : ℕ) → left_siblings (l + 1) (2 * p + 1) ≡ left_siblings l p ++ node (l + 1) (2 * p) ∷ []
unfolding left_siblings
siblings-right l p =
    let half : (2 * p + 1) / 2 ≡ p = omega arith in
    let less : 2 * p + 1 - 1 ≡ 2 * p = omega arith in
    rw (add-one l, is_odd (2 * p + 1) (omega arith), half, less)

-- ---- the labelling by recursion
module _ (r : Rule) (n : ℕ) where
  -- the height in place of a subtraction
  pub label-height : (h : ℕ) (v : Node) → h + v.level ≡ n → label r n v ≡ label_below r h v (labels_above r n v.level v.position)
  unfolding label
  label-height h v e =
      let height : n - v.level ≡ h = omega arith in
      rw height

  aboves-even : (l p : ℕ) → odd p ≡ false → labels_above r n (suc l) p ≡ labels_above r n l (p / 2)
  unfolding labels_above
  aboves-even l p e = rw (e, append-nil)

  aboves-odd : (l p : ℕ) → odd p ≡ true → labels_above r n (suc l) p ≡ labels_above r n l (p / 2) ++ label r n (node (suc l) (p - 1)) ∷ []
  unfolding labels_above label
  aboves-odd l p e =
      let m : p % 2 ≡ 1 = odd-true p e in
      let half : (p - 1) / 2 ≡ p / 2 = omega arith in
      rw (e, is-even (p - 1) (omega arith), half, append-nil)

  above_step :
      (l p : ℕ) (b : Bool) → odd p ≡ b → labels_above r n l (p / 2) ≡ map (label r n) (left_siblings l (p / 2)) →
      labels_above r n (suc l) p ≡ map (label r n) (left_siblings (suc l) p)
  unfolding left_siblings
  above_step l p true e ih = rw (aboves-odd l p e, ih, e, map-append)
  above_step l p false e ih = rw (aboves-even l p e, ih, e, append-nil)

  -- what the recursion hands down are the labels of the left siblings
  pub labels-above : (l p : ℕ) → labels_above r n l p ≡ map (label r n) (left_siblings l p)
  unfolding labels_above left_siblings
  labels-above zero p = refl
  labels-above (suc l) p = above_step l p (odd p) refl (labels-above l (p / 2))

  pub aboves-left : (l p : ℕ) → labels_above r n (l + 1) (2 * p) ≡ labels_above r n l p
  aboves-left l p = simp (labels-above, siblings-left)

  pub aboves-right : (l p : ℕ) → labels_above r n (l + 1) (2 * p + 1) ≡ labels_above r n l p ++ label r n (node (l + 1) (2 * p)) ∷ []
  aboves-right l p = simp (labels-above, siblings-right, map-append)

  -- the equation, at an inner node and at a leaf
  pub label-inner : (v : Node) → v.level < n → label r n v ≡ label_by r v (label r n (left_child v) ∷ label r n (right_child v) ∷ [])
  unfolding label_below
  label-inner v e =
      let h : ℕ = n - suc v.level in
      let e₀ : suc h + v.level ≡ n = omega arith in
      let e₁ : h + (v.level + 1) ≡ n = omega arith in
      rw (label-height (suc h) v e₀, label-height h (right_child v) e₁, aboves-right, label-height h (left_child v) e₁, aboves-left)

  pub label-leaf : (v : Node) → v.level ≡ n → label r n v ≡ label_by r v (map (label r n) (left_siblings v.level v.position))
  unfolding label_below
  label-leaf v e = rw (label-height zero v (omega arith), labels-above)

  pub label-parents : (v : Node) → v.level ≤ n → label r n v ≡ label_by r v (map (label r n) (parents n v))
  label-parents v h = split (ltb v.level n) refl
    where
      split : (b : Bool) → ltb v.level n ≡ b → label r n v ≡ label_by r v (map (label r n) (parents n v))
      split true e =
          let lt : v.level < n = ltb-true v.level n e in
          rw (parents-inner n v lt) (label-inner v lt)
      split false e =
          let le : n ≤ v.level = ltb-false v.level n e in
          rw (parents-leaf n v le) (label-leaf v (omega arith))

pub label-length : (r : Rule) (n : ℕ) → Hash32 r → (v : Node) → v.level ≤ n → length (label r n v) ≡ 32
label-length r n hash v h = rw (label-parents r n v h) (hash.hash_length _)

-- Theorem 3: the labelling meets Definition 1.
pub label-labels : (r : Rule) (n : ℕ) → IsLabelling r n (label r n)
label-labels r n v h = label-parents r n v h.0

child-below : (l p q : ℕ) → p < 2 ^ l → q ≤ 2 * p + 1 → q < 2 ^ (l + 1)
child-below l p q h k = rw add-one (omega arith)

-- Nothing else meets it.
module _ (r : Rule) (n : ℕ) (f : Node → Label) (meets : IsLabelling r n f) where
  SameAbove : ℕ → ℕ → Type 0
  SameAbove l p = map f (left_siblings l p) ≡ map (label r n) (left_siblings l p)

  same-leaf : (v : Node) → v.level ≡ n → v.position < 2 ^ v.level → SameAbove v.level v.position → f v ≡ label r n v
  unfolding SameAbove
  same-leaf v e b above = rw (meets v (omega arith, b), parents-leaf n v (omega arith), above, label-leaf r n v e)

  same-inner :
      (v : Node) → v.level < n → v.position < 2 ^ v.level →
      f (left_child v) ≡ label r n (left_child v) → f (right_child v) ≡ label r n (right_child v) → f v ≡ label r n v
  same-inner v h b left right = rw (meets v (omega arith, b), parents-inner n v h, left, right, label-inner r n v h)

  above-right :
      (v : Node) → SameAbove v.level v.position → f (left_child v) ≡ label r n (left_child v)
      → SameAbove (v.level + 1) (2 * v.position + 1)
  unfolding SameAbove
  above-right v above left = simp (siblings-right, map-append, above, left)

  above-left : (v : Node) → SameAbove v.level v.position → SameAbove (v.level + 1) (2 * v.position)
  unfolding SameAbove
  above-left v above = rw siblings-left above

  same-below : (h : ℕ) (v : Node) → h + v.level ≡ n → v.position < 2 ^ v.level → SameAbove v.level v.position → f v ≡ label r n v
  same-below zero v e b above = same-leaf v (omega arith) b above
  same-below (suc h) v e b above =
      let left : f (left_child v) ≡ label r n (left_child v) =
      same-below h (left_child v) (omega arith) (child-below v.level v.position (2 * v.position) b (omega arith)) (above-left v above) in
      let right : f (right_child v) ≡ label r n (right_child v) =
      same-below h (right_child v) (omega arith) (child-below v.level v.position (2 * v.position + 1) b (omega arith))
      (above-right v above left) in
      same-inner v (omega arith) b left right

  above-child : (l p : ℕ) (b : Bool) → odd p ≡ b → suc l ≤ n → p < 2 ^ suc l → SameAbove l (p / 2) → SameAbove (suc l) p
  above-child l p false e h b above =
      let m : p % 2 ≡ 0 = odd-false p e in
      let twice : 2 * (p / 2) ≡ p = omega arith in
      rw (add-one, twice) at (above-left (node l (p / 2)) above)
  above-child l p true e h b above =
      let m : p % 2 ≡ 1 = odd-true p e in
      let twice : 2 * (p / 2) + 1 ≡ p = omega arith in
      let half : p / 2 < 2 ^ l = omega arith in
      let left : f (node (l + 1) (2 * (p / 2))) ≡ label r n (node (l + 1) (2 * (p / 2))) =
      same-below (n - suc l) (node (l + 1) (2 * (p / 2))) (omega arith) (child-below l (p / 2) (2 * (p / 2)) half (omega arith))
      (above-left (node l (p / 2)) above) in
      rw (add-one l, twice) at (above-right (node l (p / 2)) above left)

  same_above : (l p : ℕ) → l ≤ n → p < 2 ^ l → SameAbove l p
  unfolding SameAbove left_siblings
  same_above zero p h b = refl
  same_above (suc l) p h b = above-child l p (odd p) refl h b (same_above l (p / 2) (omega arith) (omega arith))

  pub labelling-unique : (v : Node) → InTree n v → f v ≡ label r n v
  labelling-unique v t = same-below (n - v.level) v (omega arith) t.1 (same_above v.level v.position t.0 t.1)
