-- The chain by recursion on height, each subtree with its own leaves, and that it is the filter of the labelling order.
use mathlib.Core.Path.{◌≡◌, refl, ap, subst, ◌∙◌}
use Prim.Native.Nat.{ℕ, zero, suc, ◌+◌, ◌*◌, ◌/◌}
use native.Mathlib.Omega.{arith}
use mathlib.Core.Bool.{true}
use mathlib.Core.List.{List, [], ◌∷◌, ◌++◌, append-nil}
use Rattle.base.specs.Choice.{pick, passing, every}
use Rattle.tree.specs.Nodes.{Node, node, order_below, labelling_order}
use Rattle.chain_theory.specs.Ways.{on_some_way, chain}
use Rattle.chain_theory.specs.Planning.{increasing, is_leaf}
use Rattle.chain_theory.proofs.Lists.{clash, passing-one, passing-append, passing-passing, passing-every}
use Rattle.chain_theory.proofs.OrderLaws.{order-zero, order-suc}
use Rattle.chain_theory.proofs.Subtrees.{under, under-half, LeavesOf, left_leaves, right_leaves, left-leaves, right-leaves, leaves-halves}
use Rattle.chain_theory.proofs.Subtrees.{single, non_empty, some_way-under, leaves-under}

-- the nodes on the ways of the leaves of the subtree of height h at level l, position p
unfoldable pub chain_below : ℕ → ℕ → ℕ → List ℕ → List Node
chain_below zero l p [] = []
chain_below zero l p (x ∷ xs) = node l p ∷ []
chain_below (suc h) l p [] = []
chain_below (suc h) l p (x ∷ xs) =
    chain_below h (suc l) (2 * p) (left_leaves h p (x ∷ xs)) ++ chain_below h (suc l) (2 * p + 1) (right_leaves h p (x ∷ xs)) ++ node l p ∷ []

pub chain_below-none : (h l p : ℕ) → chain_below h l p [] ≡ []
unfolding chain_below
chain_below-none zero l p = refl
chain_below-none (suc h) l p = refl

-- one height up, whether there are leaves or not
chain_below-step : (h l p : ℕ) (xs : List ℕ)
    → chain_below h (suc l) (2 * p) (left_leaves h p xs) ++ chain_below h (suc l) (2 * p + 1) (right_leaves h p xs)
    ++ pick (non_empty xs) (node l p ∷ []) []
    ≡ chain_below (suc h) l p xs
unfolding chain_below passing
chain_below-step h l p [] = rw (chain_below-none h (suc l) (2 * p), chain_below-none h (suc l) (2 * p + 1))
chain_below-step h l p (x ∷ xs) = refl

chain_below-leaf : (l p : ℕ) (xs : List ℕ) → pick (non_empty xs) (node l p ∷ []) [] ≡ chain_below zero l p xs
unfolding chain_below
chain_below-leaf l p [] = refl
chain_below-leaf l p (x ∷ xs) = refl

chain-below : (n : ℕ) (leaves : List ℕ) (h l p : ℕ) → h + l ≡ n
    → passing (on_some_way n leaves) (order_below h (node l p)) ≡ chain_below h l p (passing (under h p) leaves)
chain-below n leaves zero l p e =
    rw (order-zero (node l p), passing-one (on_some_way n leaves) (node l p), some_way-under n zero l p e leaves)
    (chain_below-leaf l p (passing (under zero p) leaves))
chain-below n leaves (suc h) l p e =
    rw (
      order-suc h l p,
      passing-append,
      passing-append,
      passing-one (on_some_way n leaves) (node l p),
      chain-below n leaves h (suc l) (2 * p) (omega arith),
      chain-below n leaves h (suc l) (2 * p + 1) (omega arith),
      some_way-under n (suc h) l p e leaves,
      ← passing-passing (under h (2 * p)) (under (suc h) p) (λ x. under-half h p (2 * p) x (omega arith)) leaves,
      ← passing-passing (under h (2 * p + 1)) (under (suc h) p) (λ x. under-half h p (2 * p + 1) x (omega arith)) leaves,
    )
    (chain_below-step h l p (passing (under (suc h) p) leaves))

pub chain-chain_below : (n : ℕ) (leaves : List ℕ) → every (is_leaf n) leaves ≡ true → chain n leaves ≡ chain_below n 0 0 leaves
unfolding chain labelling_order
chain-chain_below n leaves h =
    chain-below n leaves n 0 0 (omega arith) ∙ ap (chain_below n 0 0) (passing-every (under n 0) leaves (leaves-under n leaves h))

-- A property of increasing leaves and the nodes on their ways, by induction on height: at a leaf; where the leaves lie below one
-- child; and where they lie below both.
module _ (n : ℕ) (P : ℕ → ℕ → ℕ → List ℕ → List Node → Type 0)
    (leaf : (l p : ℕ) → zero + l ≡ n → P zero l p (p ∷ []) (node l p ∷ []))
    (one : (h l p q : ℕ) (xs : List ℕ) (vs : List Node) → suc h + l ≡ n → q / 2 ≡ p → P h (suc l) q xs vs → P (suc h) l p xs (vs ++ node l p ∷ []))
    (two : (h l p : ℕ) (xs ys : List ℕ) (vs ws : List Node) → suc h + l ≡ n → non_empty ys ≡ true → every (under h (2 * p + 1)) ys ≡ true
    → P h (suc l) (2 * p) xs vs → P h (suc l) (2 * p + 1) ys ws → P (suc h) l p (xs ++ ys) (vs ++ ws ++ node l p ∷ [])) where
  -- no leaves, or leaves with the property
  data Part (h l p : ℕ) : List ℕ → List Node → Type 0 where
    none : Part h l p [] []
    part : {xs : List ℕ} {vs : List Node} → non_empty xs ≡ true → every (under h p) xs ≡ true → P h l p xs vs → Part h l p xs vs

  part_step : (h l p : ℕ) {xs ys : List ℕ} {vs ws : List Node} → suc h + l ≡ n → Part h (suc l) (2 * p) xs vs → Part h (suc l) (2 * p + 1) ys ws
      → non_empty (xs ++ ys) ≡ true → P (suc h) l p (xs ++ ys) (vs ++ ws ++ node l p ∷ [])
  part_step h l p e none none k = absurd (clash k refl)
  part_step h l p {ys = ys} {ws = ws} e none (part k v g) _ = one h l p (2 * p + 1) ys ws e (omega arith) g
  part_step h l p {xs} {vs = vs} e (part k u f) none _ = rw (append-nil xs, append-nil vs) (one h l p (2 * p) xs vs e (omega arith) f)
  part_step h l p {xs} {ys} {vs} {ws} e (part j u f) (part k v g) _ = two h l p xs ys vs ws e k v f g

  part-below : (h l p : ℕ) (xs : List ℕ) → h + l ≡ n → LeavesOf h p xs → Part h l p xs (chain_below h l p xs)
  unfolding chain_below
  part-below zero l p [] e u = none
  part-below zero l p (x ∷ xs) e u = part {vs = node l p ∷ []} refl u.inside (rw (single u) (leaf l p e))
  part-below (suc h) l p [] e u = none
  part-below (suc h) l p (x ∷ xs) e u =
      let left = part-below h (suc l) (2 * p) (left_leaves h p (x ∷ xs)) (omega arith) (left-leaves u) in
      let right = part-below h (suc l) (2 * p + 1) (right_leaves h p (x ∷ xs)) (omega arith) (right-leaves u) in
      let all = leaves-halves u in
      part refl u.inside
      (subst (λ (ys : List ℕ). P (suc h) l p ys (chain_below (suc h) l p (x ∷ xs))) all
      (part_step h l p e left right (ap non_empty all)))

  part-some : {h l p : ℕ} {xs : List ℕ} {vs : List Node} → non_empty xs ≡ true → Part h l p xs vs → P h l p xs vs
  part-some k none = absurd (clash k refl)
  part-some k (part _ u f) = f

  pub chain-induction : (leaves : List ℕ) → increasing leaves ≡ true → every (is_leaf n) leaves ≡ true → non_empty leaves ≡ true
      → P n 0 0 leaves (chain n leaves)
  chain-induction leaves i h k =
      let u : LeavesOf n 0 leaves = record { increases = i; inside = leaves-under n leaves h } in
      rw (chain-chain_below n leaves h) (part-some k (part-below n 0 0 leaves (omega arith) u))
