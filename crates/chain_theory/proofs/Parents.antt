-- The paper's Lemma 4 on the graph: in the chain each node is a parent of the next, and the last is the root.
use mathlib.Core.Path.{◌≡◌, refl, sym, ap, ◌∙◌}
use Prim.Native.Nat.{ℕ, zero, suc, ◌+◌, ◌-◌, ◌*◌, ◌/◌, ◌%◌, ◌^◌, ◌≤◌, ◌<◌}
use native.Mathlib.Numerals.{add-one}
use native.Mathlib.Omega.{arith}
use mathlib.Core.Bool.{Bool, true, false}
use mathlib.Core.List.{List, [], ◌∷◌, ◌++◌}
use lib.Dec.{eqb}
use lib.ListN.{length, get_or}
use lib.Pow.{shr-shr}
use borrow.Author.Tests.{eqb-true, eqb-false, lt-ltb, le-ltb, eq-eqb}
use Rattle.base.specs.Choice.{pick, every}
use Rattle.tree.specs.Nodes.{Node, node, root, same_node, left_siblings, parents}
use Rattle.tree.specs.Held.{among}
use Rattle.chain_theory.specs.Ways.{chain}
use Rattle.chain_theory.specs.Planning.{is_leaf, sorted}
use Rattle.chain_theory.proofs.Lists.{clash, pick_true}
use Rattle.chain_theory.proofs.Subtrees.{under, under-true, true-under, under-half, div-zero}
use Rattle.chain_theory.proofs.ChainBelow.{chain_below-none, chain-chain_below, chain-induction}
use Rattle.chain_theory.proofs.Sorting.{increasing-sorted, every-sorted, chain-sorted, non_empty-sorted}
use Rattle.chain_theory.proofs.OrderLaws.{same_nodes, same_self}

among-append : (xs ys : List Node) (v : Node) → among (xs ++ ys) v ≡ pick (among xs v) true (among ys v)
unfolding among
among-append [] ys v = refl
among-append (x ∷ xs) ys v = rw (among-append xs ys v) (go (same_node v x))
  where
    go : (b : Bool) → pick b true (pick (among xs v) true (among ys v)) ≡ pick (pick b true (among xs v)) true (among ys v)
    go true = refl
    go false = refl

among_self : (v : Node) → among (v ∷ []) v ≡ true
unfolding among
among_self v = rw (same_self v)

-- A left sibling is among those on each way that passes its right sibling.
sibling-among : (j l p q n : ℕ) → n ≡ j + suc l → q / 2 ^ j ≡ 2 * p + 1 → among (left_siblings n q) (node (suc l) (2 * p)) ≡ true
unfolding left_siblings
sibling-among zero l p q n e d =
    let en : n ≡ suc l = omega arith in
    let eq : q ≡ 2 * p + 1 = sym (div-zero q) ∙ d in
    let ep : 2 * p + 1 - 1 ≡ 2 * p = omega arith in
    rw (en, eq, eq-eqb ((2 * p + 1) % 2) 1 (omega arith), ep, among-append, among_self (node (suc l) (2 * p)))
    (pick_true (among (left_siblings l ((2 * p + 1) / 2)) (node (suc l) (2 * p))))
sibling-among (suc j) l p q n e d =
    let en : n ≡ suc (j + suc l) = omega arith in
    let one : 1 + j ≡ suc j = omega arith in
    rw (en, among-append, sibling-among j l p (q / 2) (j + suc l) refl (shr-shr q 1 j ∙ rw one d))

-- a leaf in the right subtree has the left child among its parents
leaf-parent : (n h l p q : ℕ) → suc h + l ≡ n → under h (2 * p + 1) q ≡ true → among (parents n (node n q)) (node (suc l) (2 * p)) ≡ true
unfolding parents
leaf-parent n h l p q e u = rw (le-ltb n n (omega arith)) (sibling-among h l p q n (omega arith) (under-true h (2 * p + 1) q u))

-- an inner node has each child among its parents
child-parent : (n l p q : ℕ) → l < n → q / 2 ≡ p → among (parents n (node l p)) (node (suc l) q) ≡ true
unfolding parents among
child-parent n l p q h e = rw (lt-ltb l n h, add-one l) (go (eqb q (2 * p)) refl)
  where
    go : (b : Bool) → eqb q (2 * p) ≡ b
        → pick (same_node (node (suc l) q) (node (suc l) (2 * p))) true (pick (same_node (node (suc l) q) (node (suc l) (2 * p + 1))) true false) ≡ true
    go true d = rw (eqb-true q (2 * p) d, same_self (node (suc l) (2 * p)))
    go false d =
        let eq : q ≡ 2 * p + 1 = omega (arith, eqb-false q (2 * p) d) in
        rw (eq, same_self (node (suc l) (2 * p + 1))) (pick_true (same_node (node (suc l) (2 * p + 1)) (node (suc l) (2 * p))))

-- A list from a first node to a last, each a parent of the next.
pub data Linked (n : ℕ) : Node → List Node → Node → Type 0 where
  one : {v : Node} → Linked n v (v ∷ []) v
  more : {v w z : Node} {ws : List Node} → among (parents n w) v ≡ true → Linked n w ws z → Linked n v (v ∷ ws) z

join : {n : ℕ} {a b c d : Node} {xs ys : List Node} → Linked n a xs b → among (parents n c) b ≡ true → Linked n c ys d → Linked n a (xs ++ ys) d
join one h k = more h k
join (more e r) h k = more e (join r h k)

-- the chain below a node: from a leaf of the subtree to the node
record Ends (n h l p : ℕ) (vs : List Node) : Type 0 where
  first : ℕ
  inside : under h p first ≡ true
  linked : Linked n (node n first) vs (node l p)

ends-leaf : (n l p : ℕ) → zero + l ≡ n → Ends n zero l p (node l p ∷ [])
ends-leaf n l p e = record { first = p; inside = true-under zero p p (div-zero p); linked = let d : n ≡ l = omega arith in rw d one }

ends-one : (n h l p q : ℕ) (vs : List Node) → suc h + l ≡ n → q / 2 ≡ p → Ends n h (suc l) q vs → Ends n (suc h) l p (vs ++ node l p ∷ [])
ends-one n h l p q vs e d a =
    record {
      first = a.first;
      inside = under-half h p q a.first d a.inside;
      linked = join a.linked (child-parent n l p q (omega arith) d) one;
    }

ends-two : (n h l p : ℕ) (vs ws : List Node) → suc h + l ≡ n → Ends n h (suc l) (2 * p) vs → Ends n h (suc l) (2 * p + 1) ws
    → Ends n (suc h) l p (vs ++ ws ++ node l p ∷ [])
ends-two n h l p vs ws e a b =
    let across = join a.linked (leaf-parent n h l p b.first e b.inside) b.linked in
    record {
      first = a.first;
      inside = under-half h p (2 * p) a.first (omega arith) a.inside;
      linked = join across (child-parent n l p (2 * p + 1) (omega arith) (omega arith)) one;
    }

-- the whole chain: from a leaf to the root
chain-ends : (n : ℕ) (leaves : List ℕ) → every (is_leaf n) leaves ≡ true → 1 ≤ length leaves → Ends n n 0 0 (chain n leaves)
chain-ends n [] h k = absurd (omega arith)
chain-ends n (x ∷ xs) h k =
    rw (← chain-sorted n (x ∷ xs))
    (chain-induction n
    (λ h l p ys vs. Ends n h l p vs)
    (ends-leaf n)
    (λ h l p q ys vs. ends-one n h l p q vs)
    (λ h l p ys zs vs ws e _ _. ends-two n h l p vs ws e)
    (sorted (x ∷ xs)) (increasing-sorted (x ∷ xs)) (every-sorted (is_leaf n) (x ∷ xs) ∙ h) (non_empty-sorted (x ∷ xs)))

linked-first : {n : ℕ} {a b : Node} {xs : List Node} (d : Node) → Linked n a xs b → get_or xs 0 d ≡ a
linked-first d one = refl
linked-first d (more e r) = refl

linked-at : {n : ℕ} {a b : Node} {xs : List Node} (d : Node) → Linked n a xs b → (i : ℕ) → suc i < length xs
    → among (parents n (get_or xs (suc i) d)) (get_or xs i d) ≡ true
linked-at d one i h = absurd (omega arith)
linked-at d (more e r) zero h = rw (linked-first d r) e
linked-at d (more e r) (suc i) h = linked-at d r i (omega arith)

linked-last : {n : ℕ} {a b : Node} {xs : List Node} (d : Node) → Linked n a xs b → (m : ℕ) → length xs ≡ suc m → get_or xs m d ≡ b
linked-last d one zero h = refl
linked-last d one (suc m) h = absurd (omega arith)
linked-last d (more e one) zero h = absurd (omega arith)
linked-last d (more e (more f r)) zero h = absurd (omega arith)
linked-last d (more e r) (suc m) h = linked-last d r m (omega arith)

linked-some : {n : ℕ} {a b : Node} {xs : List Node} → Linked n a xs b → 1 ≤ length xs
linked-some one = omega arith
linked-some (more e r) = omega arith

-- Lemma 4: each node of the chain is a parent of the next.
pub chain-parents : (n : ℕ) (leaves : List ℕ) → every (is_leaf n) leaves ≡ true → (d : Node) (i : ℕ) → i + 1 < length (chain n leaves)
    → among (parents n (get_or (chain n leaves) (i + 1) d)) (get_or (chain n leaves) i d) ≡ true
chain-parents n [] h d i k = absurd (omega (arith, ap length (chain-chain_below n [] h ∙ chain_below-none n 0 0)))
chain-parents n (x ∷ xs) h d i k = rw (add-one i) (linked-at d (chain-ends n (x ∷ xs) h (omega arith)).linked i (omega arith))

-- its last node is the root
pub chain-root : (n : ℕ) (leaves : List ℕ) → every (is_leaf n) leaves ≡ true → 1 ≤ length leaves → (d : Node)
    → get_or (chain n leaves) (length (chain n leaves) - 1) d ≡ root
chain-root n leaves h k d = let r = (chain-ends n leaves h k).linked in linked-last d r (length (chain n leaves) - 1) (omega (arith, linked-some r))

-- its first node is a leaf
pub chain-leaf : (n : ℕ) (leaves : List ℕ) → every (is_leaf n) leaves ≡ true → 1 ≤ length leaves → (d : Node) → (get_or (chain n leaves) 0 d).level ≡ n
chain-leaf n leaves h k d = rw (linked-first d (chain-ends n leaves h k).linked)

-- a node among the parents stands at a place of their list
pub among-place : (vs : List Node) (w d : Node) → among vs w ≡ true → (i : ℕ) × (i < length vs) × (get_or vs i d ≡ w)
unfolding among
among-place [] w d h = absurd (clash h refl)
among-place (v ∷ vs) w d h = go (same_node w v) refl (among-place vs w d)
  where
    go : (b : Bool) → same_node w v ≡ b → (among vs w ≡ true → (i : ℕ) × (i < length vs) × (get_or vs i d ≡ w))
        → (i : ℕ) × (i < length (v ∷ vs)) × (get_or (v ∷ vs) i d ≡ w)
    go true e f = (0, omega arith, sym (same_nodes w v e))
    go false e f = let r = f (rw e at h) in (suc r.0, omega (arith, r.1), r.2)
