-- W-207: blocks added up, and the closed formulas. In a subtree of height h ≥ 1 whose own position has c one-bits the labels take
-- (2c + h + 13) × 2^h / 4 − 2 blocks.
use mathlib.Core.Path.{◌≡◌, sym, ap, ◌∙◌}
use mathlib.Core.List.{List, [], ◌∷◌, ◌++◌}
use Prim.Native.Nat.{ℕ, zero, suc, ◌+◌, ◌-◌, ◌*◌, ◌/◌, ◌^◌, ◌≤◌, ◌<◌}
use native.Mathlib.Nat.{zero-add, add-zero, add_assoc, sub_self, add-mul, mul_assoc}
use native.Mathlib.Numerals.{add-one}
use native.Mathlib.Omega.{arith}
use lib.Count.{ones, ones_step}
use lib.ListN.{length, take}
use lib.Seq.{take-length, take-suc}
use Rattle.tree.specs.Nodes.{Node, root, left_child, right_child, order_below, labelling_order}
use Rattle.tree.specs.Walk.{nodes_in}
use Rattle.tree.proofs.InputLengths.{ones-zero}
use Rattle.tree.proofs.Order.{double, order-length, order-last}
use Rattle.labelling.specs.Blocks.{node_blocks}
use Rattle.opening_places.specs.Places.{ancestor}
use Rattle.opening_places.proofs.PlaceLaws.{way-inside}
use Rattle.opening.specs.Rows.{nodes_anew}
use Rattle.run_theory.proofs.Anew.{anew-count}
use Rattle.block_theory.specs.Sums.{blocks_sum, tree_blocks, opening_blocks}
use Rattle.block_theory.proofs.NodeCosts.{inner-blocks, leaf-blocks}

pub sum-append : (n : ℕ) (us ws : List Node) → blocks_sum n (us ++ ws) ≡ blocks_sum n us + blocks_sum n ws
unfolding blocks_sum
sum-append n [] ws = sym (zero-add (blocks_sum n ws))
sum-append n (u ∷ us) ws =
    ap (λ (k : ℕ). node_blocks n u + k) (sum-append n us ws) ∙ sym (add_assoc (node_blocks n u) (blocks_sum n us) (blocks_sum n ws))

pub sum_one : (n : ℕ) (w : Node) → blocks_sum n (w ∷ []) ≡ node_blocks n w
unfolding blocks_sum
sum_one n w = add-zero (node_blocks n w)

-- ---- a subtree: its left one's, its right one's, and the node above
subtree-sum :
    (n h : ℕ) (v : Node)
    → blocks_sum n (order_below (suc h) v)
    ≡ blocks_sum n (order_below h (left_child v)) + blocks_sum n (order_below h (right_child v)) + node_blocks n v
unfolding order_below
subtree-sum n h v = rw (sum-append, sum-append, sum_one)

leaf-sum : (n : ℕ) (v : Node) → v.level ≡ n → v.position < 2 ^ n → blocks_sum n (order_below 0 v) ≡ (ones v.position + 1) / 2 + 1
unfolding order_below
leaf-sum n v leaf inside = sum_one n v ∙ leaf-blocks n v leaf inside

ones-left : (p : ℕ) → ones (2 * p) ≡ ones p
ones-left p = let half : 2 * p / 2 ≡ p = omega arith in omega (arith, rw half at (ones_step (2 * p)))

ones-right : (p : ℕ) → ones (2 * p + 1) ≡ ones p + 1
ones-right p = let half : (2 * p + 1) / 2 ≡ p = omega arith in omega (arith, rw half at (ones_step (2 * p + 1)))

-- a node's children are of the tree
left-inside : (v : Node) → v.position < 2 ^ v.level → 2 * v.position < 2 ^ (v.level + 1)
left-inside v inside = rw (add-one v.level) (omega arith)

right-inside : (v : Node) → v.position < 2 ^ v.level → 2 * v.position + 1 < 2 ^ (v.level + 1)
right-inside v inside = rw (add-one v.level) (omega arith)

-- A leaf takes half a block for each parent, rounded up, and one more; of two beside each other one has an odd number of parents.
two-leaves : (n : ℕ) (v : Node) → v.level + 1 ≡ n → v.position < 2 ^ v.level → blocks_sum n (order_below 1 v) ≡ ones v.position + 5
two-leaves n v deep inside =
    let left : blocks_sum n (order_below 0 (left_child v)) ≡ (ones v.position + 1) / 2 + 1 =
    rw (ones-left v.position) at (leaf-sum n (left_child v) deep (rw (← deep) (left-inside v inside))) in
    let right : blocks_sum n (order_below 0 (right_child v)) ≡ (ones v.position + 1 + 1) / 2 + 1 =
    rw (ones-right v.position) at (leaf-sum n (right_child v) deep (rw (← deep) (right-inside v inside))) in
    rw (subtree-sum n 0 v, left, right, inner-blocks n v (omega arith)) (omega arith)

-- two subtrees of height h and the node above them: its factor is the mean of theirs
two-subtrees :
    (x y z h a b : ℕ) → x + y ≡ 2 * z → 4 * (a + 2) ≡ x * 2 ^ h → 4 * (b + 2) ≡ y * 2 ^ h
    → 4 * (a + b + 2 + 2) ≡ z * 2 ^ suc h
two-subtrees x y z h a b mean left right =
    omega (arith, left, right, rw mean at (add-mul x y (2 ^ h)), mul_assoc 2 z (2 ^ h), double z h)

pub subtree-formula :
    (n h : ℕ) (v : Node) → 1 ≤ h → v.level + h ≡ n → v.position < 2 ^ v.level
    → 4 * (blocks_sum n (order_below h v) + 2) ≡ (2 * ones v.position + h + 13) * 2 ^ h
subtree-formula n zero v some deep inside = absurd (omega arith)
subtree-formula n (suc zero) v some deep inside = rw (two-leaves n v deep inside) (omega arith)
subtree-formula n (suc (suc h)) v some deep inside =
    rw (subtree-sum n (suc h) v, inner-blocks n v (omega arith))
    (two-subtrees _ _ _ (suc h) _ _ (omega arith)
    (rw (ones-left v.position) at (subtree-formula n (suc h) (left_child v) (omega arith) (omega arith) (left-inside v inside)))
    (rw (ones-right v.position) at (subtree-formula n (suc h) (right_child v) (omega arith) (omega arith) (right-inside v inside))))

-- ---- a whole run
pub tree-formula : (n : ℕ) → 1 ≤ n → 4 * (tree_blocks n + 2) ≡ (n + 13) * 2 ^ n
unfolding labelling_order
tree-formula n some =
    let e : 2 * ones 0 + n + 13 ≡ n + 13 = omega (arith, ones-zero) in
    rw e at (subtree-formula n n root some (zero-add n) (omega arith))

-- ---- a whole opening: the topmost node is the last in order, and is not labelled anew
but_last :
    (n h k : ℕ) (v : Node) → k + 1 ≡ nodes_in h → blocks_sum n (order_below h v) ≡ blocks_sum n (take k (order_below h v)) + node_blocks n v
but_last n h k v all =
    let xs : List Node = order_below h v in
    let size : suc k ≡ length xs = omega (arith, order-length h v) in
    let parted : xs ≡ take k xs ++ v ∷ [] =
    sym (take-length xs) ∙ rw (size, order-last h v k all) at (take-suc xs k root (omega arith)) in
    ap (blocks_sum n) parted ∙ sum-append n (take k xs) (v ∷ []) ∙ ap (λ (b : ℕ). blocks_sum n (take k xs) + b) (sum_one n v)

pub opening-topmost : (n m leaf : ℕ) → m < n → blocks_sum n (order_below (n - m) (ancestor n leaf m)) ≡ opening_blocks n m leaf + 2
opening-topmost n m leaf low =
    but_last n (n - m) (nodes_anew n m) (ancestor n leaf m) (anew-count n m)
    ∙ ap (λ (k : ℕ). opening_blocks n m leaf + k) (inner-blocks n (ancestor n leaf m) low)

pub opening-formula :
    (n m leaf : ℕ) → m < n → leaf < 2 ^ n
    → 4 * (opening_blocks n m leaf + 4) ≡ (2 * ones (leaf / 2 ^ (n - m)) + (n - m) + 13) * 2 ^ (n - m)
opening-formula n m leaf low inside =
    omega (
      arith,
      opening-topmost n m leaf low,
      subtree-formula n (n - m) (ancestor n leaf m) (omega arith) (omega arith) (way-inside n leaf m (omega arith) inside),
    )

pub opening-none : (n leaf : ℕ) → opening_blocks n n leaf ≡ 0
unfolding blocks_sum
opening-none n leaf = rw (sub_self n)
