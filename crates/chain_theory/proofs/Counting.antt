-- The chain's number of nodes: with k different leaves and c largest empty subtrees, 2k − 1 + c.
use mathlib.Core.Path.{◌≡◌, refl, ap, ap₂, ◌∙◌, fun_ext}
use Prim.Native.Nat.{ℕ, zero, suc, ◌+◌, ◌-◌, ◌*◌, ◌/◌, ◌≤◌}
use native.Mathlib.Omega.{arith}
use mathlib.Core.Bool.{Bool, true, false, not}
use mathlib.Core.List.{List, [], ◌∷◌}
use lib.ListN.{length, length-append}
use Rattle.base.specs.Choice.{pick, both, passing, every}
use Rattle.tree.specs.Nodes.{Node, node, root, InTree, order_below, labelling_order}
use Rattle.chain_theory.specs.Ways.{on_some_way, chain}
use Rattle.chain_theory.specs.Counts.{different, leaves_opened, holds_none, inside_empty, is_largest_empty, largest_empty}
use Rattle.chain_theory.specs.Planning.{is_leaf, sorted}
use Rattle.chain_theory.proofs.Lists.{clash, both_false, pick_true, length-pick, passing-one, passing-append, passing-passing, passing-every}
use Rattle.chain_theory.proofs.Subtrees.{LeavesOf, left-leaves, right-leaves, under, left_leaves, right_leaves, under-half, non_empty, single}
use Rattle.chain_theory.proofs.Subtrees.{some_way-under, leaves-halves, leaves-under}
use Rattle.chain_theory.proofs.ChainBelow.{chain_below, chain_below-none, chain-chain_below}
use Rattle.chain_theory.proofs.OrderLaws.{order-zero, order-suc}
use Rattle.chain_theory.proofs.Sorting.{increasing-sorted, every-sorted, on_some_way-sorted, chain-sorted, length-sorted}

-- c by recursion on height, in the subtree of height h at position p, with its leaves, inside no empty one
unfoldable pub empty_below : ℕ → ℕ → List ℕ → ℕ
empty_below zero p [] = 1
empty_below zero p (x ∷ xs) = 0
empty_below (suc h) p [] = 1
empty_below (suc h) p (x ∷ xs) = empty_below h (2 * p) (left_leaves h p (x ∷ xs)) + empty_below h (2 * p + 1) (right_leaves h p (x ∷ xs))

inside-child : (n : ℕ) (leaves : List ℕ) (l p q : ℕ) → q / 2 ≡ p
    → inside_empty n leaves (suc l) q ≡ pick (holds_none n leaves (node l p)) true (inside_empty n leaves l p)
unfolding inside_empty
inside-child n leaves l p q e = rw e

-- none is largest inside an empty one
none_inside : (n : ℕ) (leaves : List ℕ) (h l p : ℕ) → inside_empty n leaves l p ≡ true
    → passing (is_largest_empty n leaves) (order_below h (node l p)) ≡ []
none_inside n leaves zero l p e =
    rw (order-zero (node l p), passing-one (is_largest_empty n leaves) (node l p), e, both_false (holds_none n leaves (node l p)))
none_inside n leaves (suc h) l p e =
    rw (
      order-suc h l p,
      passing-append,
      passing-append,
      passing-one (is_largest_empty n leaves) (node l p),
      e,
      both_false (holds_none n leaves (node l p)),
      none_inside n leaves h (suc l) (2 * p) (inside-child n leaves l p (2 * p) (omega arith) ∙ rw e (pick_true (holds_none n leaves (node l p)))),
      none_inside n leaves h (suc l) (2 * p + 1)
          (inside-child n leaves l p (2 * p + 1) (omega arith) ∙ rw e (pick_true (holds_none n leaves (node l p)))),
    )

module _ (n : ℕ) (leaves : List ℕ) where
  -- the largest empty ones of a subtree that lies inside none
  largest_below : ℕ → ℕ → ℕ → ℕ
  largest_below h l p = length (passing (is_largest_empty n leaves) (order_below h (node l p)))

  none-largest : (h l p : ℕ) → inside_empty n leaves l p ≡ true → largest_below h l p ≡ 0
  unfolding largest_below
  none-largest h l p e = rw (none_inside n leaves h l p e)

  largest-leaf : (l p : ℕ) → largest_below zero l p ≡ pick (is_largest_empty n leaves (node l p)) 1 0
  unfolding largest_below
  largest-leaf l p =
      rw (order-zero (node l p), passing-one (is_largest_empty n leaves) (node l p)) (length-pick (is_largest_empty n leaves (node l p)) (node l p))

  largest_step : (h l p : ℕ)
      → largest_below (suc h) l p ≡ largest_below h (suc l) (2 * p) + largest_below h (suc l) (2 * p + 1) + pick (is_largest_empty n leaves (node l p)) 1 0
  unfolding largest_below
  largest_step h l p =
      rw (order-suc h l p, passing-append, passing-append, passing-one (is_largest_empty n leaves) (node l p), length-append, length-append)
      (rw (length-pick (is_largest_empty n leaves (node l p)) (node l p)))

  largest-below : (h l p : ℕ) → h + l ≡ n → inside_empty n leaves l p ≡ false → largest_below h l p ≡ empty_below h p (passing (under h p) leaves)
  unfolding empty_below
  largest-below zero l p e i = largest-leaf l p ∙ rw (i, some_way-under n zero l p e leaves) (go (passing (under zero p) leaves))
    where
      go : (xs : List ℕ) → pick (both (not (non_empty xs)) true) 1 0 ≡ empty_below zero p xs
      go [] = refl
      go (x ∷ xs) = refl
  largest-below (suc h) l p e i =
      go (passing (under (suc h) p) leaves) refl (largest-below h (suc l) (2 * p) (omega arith)) (largest-below h (suc l) (2 * p + 1) (omega arith))
    where
      go : (xs : List ℕ) → passing (under (suc h) p) leaves ≡ xs
          → (inside_empty n leaves (suc l) (2 * p) ≡ false → largest_below h (suc l) (2 * p) ≡ empty_below h (2 * p) (left_leaves h p leaves))
          →
          (inside_empty n leaves (suc l) (2 * p + 1) ≡ false
          → largest_below h (suc l) (2 * p + 1) ≡ empty_below h (2 * p + 1) (right_leaves h p leaves))
          → largest_below (suc h) l p ≡ empty_below (suc h) p (passing (under (suc h) p) leaves)
      go [] d f g =
          let none : on_some_way n leaves (node l p) ≡ false = some_way-under n (suc h) l p e leaves ∙ ap non_empty d in
          let a = none-largest h (suc l) (2 * p) (inside-child n leaves l p (2 * p) (omega arith) ∙ rw none) in
          let b = none-largest h (suc l) (2 * p + 1) (inside-child n leaves l p (2 * p + 1) (omega arith) ∙ rw none) in
          rw (d, largest_step h l p, a, b, none, i)
      go (x ∷ xs) d f g =
          let holds : on_some_way n leaves (node l p) ≡ true = some_way-under n (suc h) l p e leaves ∙ ap non_empty d in
          let a = f (inside-child n leaves l p (2 * p) (omega arith) ∙ rw (holds, i)) in
          let b = g (inside-child n leaves l p (2 * p + 1) (omega arith) ∙ rw (holds, i)) in
          let left = passing-passing (under h (2 * p)) (under (suc h) p) (λ x. under-half h p (2 * p) x (omega arith)) leaves in
          let right = passing-passing (under h (2 * p + 1)) (under (suc h) p) (λ x. under-half h p (2 * p + 1) x (omega arith)) leaves in
          rw (largest_step h l p, a, b, holds, ← left, ← right, d) (omega arith)

  largest-root : largest_empty n leaves ≡ empty_below n 0 (passing (under n 0) leaves)
  unfolding largest_empty labelling_order largest_below inside_empty
  largest-root = largest-below n 0 0 (omega arith) refl

count-below : (h l p : ℕ) (xs : List ℕ) → LeavesOf h p xs → length (chain_below h l p xs) + 1 ≡ 2 * length xs + empty_below h p xs
unfolding chain_below empty_below
count-below zero l p [] u = refl
count-below zero l p (x ∷ xs) u = rw (ap length (single u))
count-below (suc h) l p [] u = refl
count-below (suc h) l p (x ∷ xs) u =
    simp length-append (omega (
      arith,
      count-below h (suc l) (2 * p) (left_leaves h p (x ∷ xs)) (left-leaves u),
      count-below h (suc l) (2 * p + 1) (right_leaves h p (x ∷ xs)) (right-leaves u),
      simp length-append at (ap length (leaves-halves u)),
    ))

-- c is the same of the sorted leaves
inside_empty-sorted : (n : ℕ) (leaves : List ℕ) (l p : ℕ) → inside_empty n (sorted leaves) l p ≡ inside_empty n leaves l p
unfolding inside_empty
inside_empty-sorted n leaves zero p = refl
inside_empty-sorted n leaves (suc l) p = rw (on_some_way-sorted n leaves (node l (p / 2)), inside_empty-sorted n leaves l (p / 2))

largest_empty-sorted : (n : ℕ) (leaves : List ℕ) → largest_empty n (sorted leaves) ≡ largest_empty n leaves
unfolding largest_empty
largest_empty-sorted n leaves =
    ap (λ (test : Node → Bool). length (passing test (labelling_order n))) (fun_ext same)
  where
    same : (v : Node) → is_largest_empty n (sorted leaves) v ≡ is_largest_empty n leaves v
    same v = rw (on_some_way-sorted n leaves v, inside_empty-sorted n leaves v.level v.position)

-- The number of nodes of the chain, for any leaves, in any order, with repeats.
pub chain-count : (n : ℕ) (leaves : List ℕ) → every (is_leaf n) leaves ≡ true
    → length (chain n leaves) + 1 ≡ 2 * leaves_opened leaves + largest_empty n leaves
chain-count n leaves h =
    let s : every (is_leaf n) (sorted leaves) ≡ true = every-sorted (is_leaf n) leaves ∙ h in
    let u = leaves-under n (sorted leaves) s in
    rw (
      ← chain-sorted n leaves,
      ← largest_empty-sorted n leaves,
      ← length-sorted leaves,
      chain-chain_below n (sorted leaves) s,
      largest-root n (sorted leaves),
      passing-every (under n 0) (sorted leaves) u,
    )
    (count-below n 0 0 (sorted leaves) (record { increases = increasing-sorted leaves; inside = u }))

-- the same in the words of document 01: 2k − 1 + c
pub chain-count-k : (n : ℕ) (leaves : List ℕ) → every (is_leaf n) leaves ≡ true → 1 ≤ leaves_opened leaves
    → length (chain n leaves) ≡ 2 * leaves_opened leaves - 1 + largest_empty n leaves
chain-count-k n leaves h k = omega (arith, chain-count n leaves h)

-- ---- no leaf (W-203): the chain is empty, and the whole tree is the single largest subtree that holds no opened leaf
pub chain-none : (n : ℕ) → chain n [] ≡ []
unfolding every
chain-none n = chain-chain_below n [] refl ∙ chain_below-none n 0 0

pub largest-none : (n : ℕ) → largest_empty n [] ≡ 1
unfolding every different
largest-none n = omega (arith, chain-count n [] refl, ap length (chain-none n))

pub root-largest : (n : ℕ) → is_largest_empty n [] root ≡ true
unfolding on_some_way inside_empty
root-largest n = refl

largest-level : (n l p : ℕ) → is_largest_empty n [] (node l p) ≡ true → l ≡ 0
unfolding on_some_way inside_empty
largest-level n zero p e = refl
largest-level n (suc l) p e = absurd (clash e refl)

pub largest-root-only : (n : ℕ) (v : Node) → InTree n v → is_largest_empty n [] v ≡ true → v ≡ root
largest-root-only n v inside e =
    let top = largest-level n v.level v.position e in
    let first : v.position ≡ 0 = omega (arith, rw top at inside.1) in
    ap₂ node top first
