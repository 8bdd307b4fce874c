-- One step of labelling a subtree of the tree: from what is held after k labels, the next label is the tree's, and what is
-- then held is what is held after k + 1 labels.
use mathlib.Core.Path.{◌≡◌, refl, sym, ap, ◌∙◌}
use Prim.Native.Nat.{ℕ, zero, suc, ◌+◌, ◌-◌, ◌*◌, ◌≤◌, ◌<◌}
use native.Mathlib.Omega.{arith}
use mathlib.Core.Bool.{Bool, true, false}
use mathlib.Core.List.{List, [], ◌∷◌, ◌++◌, append_assoc, append-nil, map, map-append}
use lib.ListN.{length, take, drop, length-append, length-map, length-replicate}
use lib.Seq.{take_at, drop_at}
use borrow.Author.Tests.{eqb-true, eqb-false}
use Rattle.base.specs.Limits.{max_depth, held_size}
use Rattle.base.specs.Bytes.{zeros, joined, written}
use Rattle.base.specs.Choice.{pick}
use Rattle.base.specs.Lists.{EachOf}
use Rattle.base.proofs.BytesLaws.{length-joined, joined-append}
use Rattle.base.proofs.WrittenLaws.{written_over, written-two}
use Rattle.base.proofs.Zeros.{zeros-split}
use Rattle.tree.specs.Nodes.{Node, left_child, right_child, left_siblings, parents}
use Rattle.tree.specs.Walk.{nodes_in, left_siblings_below}
use Rattle.tree.specs.Labels.{Label, label_by, in_labels, label_below, label}
use Rattle.tree.specs.Held.{held_below}
use Rattle.tree.proofs.Order.{Inside, order-at, inside-level}
use Rattle.tree.proofs.Parents.{left_siblings_below-count, parents-of-inner}
use Rattle.tree.proofs.Cut.{labels-back}
use Rattle.tree.proofs.Labelling.{label-parents}
use Rattle.tree.proofs.HeldLaws.{held_below-before, held_below-after, held_below-few, held_start, held_all, leaf-parents, inner-parents}
use Rattle.sha256.proofs.Digests.{digest-length}
use Rattle.labelling.specs.Rule.{stamp_rule}
use Rattle.labelling.specs.Step.{next_node, place_of, is_leaf, hashed_labels, next_label, held_with}
use Rattle.run_theory.specs.Reached.{label_of, labels_of, held_bytes}

below-size :
    (edition n : ℕ) (statement : List ℕ) (h : ℕ) (w : Node) (aboves : List Label)
    → length (label_below (stamp_rule edition n statement) h w aboves) ≡ 32
unfolding label_below
below-size edition n statement zero w aboves = digest-length _
below-size edition n statement (suc h) w aboves = digest-length _

module _ (edition : ℕ) (statement : List ℕ) (n : ℕ) where
  pub label-size : (w : Node) → length (label_of edition statement n w) ≡ 32
  unfolding label
  label-size w = below-size edition n statement (n - w.level) w _

  pub labels-each : (nodes : List Node) → EachOf 32 (map (label_of edition statement n) nodes)
  labels-each [] = tt
  labels-each (w ∷ ws) = (label-size w, labels-each ws)

  pub labels_length : (nodes : List Node) → length (labels_of edition statement n nodes) ≡ 32 * length nodes
  labels_length nodes =
      length-joined 32 (map (label_of edition statement n) nodes) (labels-each nodes)
      ∙ ap (λ (c : ℕ). 32 * c) (length-map nodes (label_of edition statement n))

  pub labels_append : (a b : List Node) → labels_of edition statement n (a ++ b) ≡ labels_of edition statement n a ++ labels_of edition statement n b
  labels_append a b = rw map-append (joined-append (map (label_of edition statement n) a) (map (label_of edition statement n) b))

  pub labels-one : (w : Node) → labels_of edition statement n (w ∷ []) ≡ label_of edition statement n w
  unfolding joined
  labels-one w = append-nil (label_of edition statement n w)

  -- held labels in two parts, and zeros
  held-parts :
      (h : ℕ) (v : Node) (k : ℕ) (a b : List Node) → held_below h v k ≡ a ++ b
      → held_bytes edition statement n h v k
      ≡ labels_of edition statement n a ++ (labels_of edition statement n b ++ zeros (held_size - 32 * (length a + length b)))
  unfolding held_bytes
  held-parts h v k a b e =
      rw (e, labels_length (a ++ b), labels_append a b, length-append a b)
      (append_assoc (labels_of edition statement n a) (labels_of edition statement n b) _)

  -- The next node w of the subtree of height h at v, when k labels are made.
  module _
      (h k : ℕ) (v w : Node) (deep : v.level + h ≡ n) (shallow : n ≤ max_depth) (small : k < nodes_in h)
      (here : next_node h v k ≡ w)
    where
      -- the left siblings on its way whose labels are held
      beside : List Node
      beside = left_siblings_below v.level (w.level - v.level) w.position

      inside : Inside h v w
      inside = rw here at (order-at h v k small)

      level-below : v.level + (w.level - v.level) ≡ w.level
      level-below = omega (arith, inside-level inside)

      level-le : w.level ≤ n
      level-le = omega (arith, inside-level inside, inside.shallow)

      place-beside : length (labels_of edition statement n beside) ≡ 32 * place_of v w
      unfolding beside
      place-beside =
          labels_length beside
          ∙ ap (λ (c : ℕ). 32 * c) (left_siblings_below-count v.level (w.level - v.level) w.position)

      before-leaf : w.level ≡ n → held_below h v k ≡ beside ++ []
      unfolding beside
      before-leaf leaf =
          held_below-before h k v w (w.level - v.level) 0 level-below (omega (arith, inside-level inside)) small here

      before-inner : w.level < n → held_below h v k ≡ beside ++ (left_child w ∷ right_child w ∷ [])
      unfolding beside
      before-inner inner = inner-parents n h k v w deep small here inner ∙ ap (λ ws. beside ++ ws) (parents-of-inner n w inner)

      after : held_below h v (k + 1) ≡ beside ++ w ∷ []
      unfolding beside
      after =
          held_below-after h k v w (w.level - v.level) (n - w.level) level-below (omega (arith, inside-level inside, level-le)) small here

      -- a leaf or an inner node
      by_kind : (x y z : List ℕ) → (w.level ≡ n → x ≡ z) → (w.level < n → y ≡ z) → pick (is_leaf h v w) x y ≡ z
      by_kind x y z leaf inner = go (is_leaf h v w) refl
        where
          go : (t : Bool) → is_leaf h v w ≡ t → pick t x y ≡ z
          go true e = leaf (omega (arith, eqb-true w.level (v.level + h) e))
          go false e =
              let d : w.level ≡ v.level + h → ⊥ = eqb-false w.level (v.level + h) e in
              inner (omega (arith, level-le))

      -- what a leaf hashes, and an inner node
      hashed-leaf :
          w.level ≡ n
          → labels_of edition statement n (left_siblings v.level v.position) ++ take (32 * place_of v w) (held_bytes edition statement n h v k)
          ≡ labels_of edition statement n (parents n w)
      hashed-leaf leaf =
          rw (held-parts h v k beside [] (before-leaf leaf), take_at _ _ (32 * place_of v w) place-beside)
          (sym (labels_append (left_siblings v.level v.position) beside)
          ∙ ap (labels_of edition statement n)
          (sym
          (leaf-parents n h k v w deep small here leaf
          ∙ ap (λ ws. left_siblings v.level v.position ++ ws) (before-leaf leaf ∙ append-nil beside))))

      hashed-inner :
          w.level < n
          → take 64 (drop (32 * place_of v w) (held_bytes edition statement n h v k)) ≡ labels_of edition statement n (parents n w)
      hashed-inner inner =
          rw
          (held-parts h v k beside (left_child w ∷ right_child w ∷ []) (before-inner inner), drop_at _ _ (32 * place_of v w) place-beside)
          (take_at _ _ 64 (labels_length (left_child w ∷ right_child w ∷ []))
          ∙ ap (labels_of edition statement n) (sym (parents-of-inner n w inner)))

      next-hashed :
          hashed_labels h v (labels_of edition statement n (left_siblings v.level v.position)) (held_bytes edition statement n h v k) w
          ≡ map (label_of edition statement n) (parents n w)
      unfolding hashed_labels
      next-hashed = ap in_labels (by_kind _ _ _ hashed-leaf hashed-inner) ∙ labels-back _ (labels-each (parents n w))

      label-here :
          label_by (stamp_rule edition (v.level + h) statement) w
          (hashed_labels h v (labels_of edition statement n (left_siblings v.level v.position)) (held_bytes edition statement n h v k) w)
          ≡ label_of edition statement n w
      label-here = rw (deep, next-hashed) (sym (label-parents (stamp_rule edition n statement) n w level-le))

      -- the new label at its place: a leaf's over zeros, an inner node's over its children's
      few-after : length beside + 1 ≤ max_depth + 1
      few-after =
          let a : length (held_below h v (k + 1)) ≤ h + 1 = held_below-few h (k + 1) v (omega arith) in
          omega (arith, rw (after, length-append) at a)

      held_next :
          held_bytes edition statement n h v (k + 1)
          ≡ labels_of edition statement n beside ++ (label_of edition statement n w ++ zeros (held_size - 32 * (length beside + 1)))
      held_next = held-parts h v (k + 1) beside (w ∷ []) after ∙ rw (labels-one w)

      held-leaf :
          w.level ≡ n
          → written (held_bytes edition statement n h v k) (32 * place_of v w) (label_of edition statement n w)
          ≡ held_bytes edition statement n h v (k + 1)
      unfolding joined
      held-leaf leaf =
          let c : ℕ = held_size - 32 * (length beside + 0) in
          let z : c - 32 ≡ held_size - 32 * (length beside + 1) = omega arith in
          rw (held_next, held-parts h v k beside [] (before-leaf leaf), ← z, zeros-split c 32 (omega (arith, few-after)))
          (written_over (labels_of edition statement n beside) (zeros 32) (zeros (c - 32)) (label_of edition statement n w) (32 * place_of v w)
          place-beside (sym (label-size w)))

      few-before : w.level < n → length beside + 2 ≤ max_depth + 1
      few-before inner =
          let a : length (held_below h v k) ≤ h + 1 = held_below-few h k v (omega arith) in
          omega (arith, rw (before-inner inner, length-append) at a)

      held_inner :
          w.level < n
          → written (written (held_bytes edition statement n h v k) (32 * place_of v w) (label_of edition statement n w))
          (32 * place_of v w + 32) (zeros 32)
          ≡ held_bytes edition statement n h v (k + 1)
      unfolding joined
      held_inner inner =
          let c : ℕ = held_size - 32 * (length beside + 1) in
          let d : ℕ = held_size - 32 * (length beside + 2) in
          let z : c - 32 ≡ d = omega arith in
          let children : List ℕ = label_of edition statement n (left_child w) ++ (label_of edition statement n (right_child w) ++ zeros d) in
          let now : held_bytes edition statement n h v k ≡ labels_of edition statement n beside ++ children =
          held-parts h v k beside (left_child w ∷ right_child w ∷ []) (before-inner inner) ∙ rw (append-nil, append_assoc) in
          rw (held_next, now, zeros-split c 32 (omega (arith, few-before inner)), z)
          (written-two (labels_of edition statement n beside) (label_of edition statement n (left_child w)) (label_of edition statement n (right_child w)) (zeros d)
          (label_of edition statement n w) (zeros 32) (32 * place_of v w) 32 place-beside (label-size w) (label-size (left_child w))
          (label-size (right_child w)))

      held-here : held_with h v (held_bytes edition statement n h v k) w (label_of edition statement n w) ≡ held_bytes edition statement n h v (k + 1)
      unfolding held_with
      held-here = by_kind _ _ _ held-leaf held_inner

  -- The shared step.
  module _ (h k : ℕ) (v : Node) (deep : v.level + h ≡ n) (shallow : n ≤ max_depth) (small : k < nodes_in h) where
    pub next-label :
        next_label edition statement h v (labels_of edition statement n (left_siblings v.level v.position)) (held_bytes edition statement n h v k) k
        ≡ label_of edition statement n (next_node h v k)
    unfolding next_label
    next-label = label-here h k v (next_node h v k) deep shallow small refl

    pub next-held :
        held_with h v (held_bytes edition statement n h v k) (next_node h v k) (label_of edition statement n (next_node h v k))
        ≡ held_bytes edition statement n h v (k + 1)
    next-held = held-here h k v (next_node h v k) deep shallow small refl

  -- what is held fits its 41 places
  pub held-length : (h k : ℕ) (v : Node) → h ≤ max_depth → k ≤ nodes_in h → length (held_bytes edition statement n h v k) ≡ held_size
  unfolding held_bytes
  held-length h k v shallow small =
      rw (labels_length (held_below h v k), length-append, labels_length (held_below h v k), length-replicate)
      (omega (arith, held_below-few h k v small))

  -- at the start nothing, and at the end the subtree's top
  pub held_none : (h : ℕ) (v : Node) → held_bytes edition statement n h v 0 ≡ zeros held_size
  unfolding held_bytes joined
  held_none h v = rw (held_start h v)

  pub held-top : (h : ℕ) (v : Node) → held_bytes edition statement n h v (nodes_in h) ≡ label_of edition statement n v ++ zeros (held_size - 32)
  unfolding held_bytes
  held-top h v = rw (held_all h v, labels-one v, label-size v)
