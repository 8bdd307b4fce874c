-- The most nodes of a chain: on each level at most as many as the level has, and as there are different leaves.
use mathlib.Core.Path.{◌≡◌, refl, sym, ap, ◌∙◌}
use Prim.Native.Nat.{ℕ, zero, suc, min, ◌+◌, ◌-◌, ◌*◌, ◌/◌, ◌%◌, ◌^◌, ◌≤◌}
use native.Mathlib.Omega.{arith}
use mathlib.Core.Bool.{Bool, true, false}
use mathlib.Core.List.{List, [], ◌∷◌}
use lib.ListN.{length, length-append, length-map}
use Rattle.base.specs.Limits.{max_depth, max_challenges, max_chain}
use Rattle.base.specs.Choice.{pick, every}
use Rattle.chain_theory.specs.Ways.{chain, code, chain_codes}
use Rattle.chain_theory.specs.Counts.{opened, different, leaves_opened}
use Rattle.chain_theory.specs.Planning.{is_leaf, inserted, sorted, climb, next_code, plan_from, plan}
use Rattle.chain_theory.proofs.Subtrees.{LeavesOf, left_leaves, right_leaves, left-leaves, right-leaves, leaves-halves, leaves-under}
use Rattle.chain_theory.proofs.ChainBelow.{chain_below, chain-chain_below}
use Rattle.chain_theory.proofs.Sorting.{increasing-sorted, every-sorted, chain-sorted, length-sorted}
use Rattle.chain_theory.proofs.Plan.{plan-chain}

-- levels 0 to h, with k leaves
unfoldable pub most_nodes : ℕ → ℕ → ℕ
most_nodes zero k = min 1 k
most_nodes (suc h) k = most_nodes h k + min (2 ^ suc h) k

-- two subtrees and the node above them
most-join : (h x y : ℕ) → 1 ≤ x + y → most_nodes h x + most_nodes h y + 1 ≤ most_nodes (suc h) (x + y)
unfolding most_nodes
most-join zero x y k = omega arith
most-join (suc h) x y k = omega (arith, most-join h x y k)

most-leaves : (h k j : ℕ) → k ≤ j → most_nodes h k ≤ most_nodes h j
unfolding most_nodes
most-leaves zero k j e = omega arith
most-leaves (suc h) k j e = omega (arith, most-leaves h k j e)

most-depth : (d h k : ℕ) → most_nodes h k ≤ most_nodes (d + h) k
unfolding most_nodes
most-depth zero h k = let e : zero + h ≡ h = omega arith in rw e (omega arith)
most-depth (suc d) h k = let e : suc d + h ≡ suc (d + h) = omega arith in rw e (omega (arith, most-depth d h k))

most-below : (h l p : ℕ) (xs : List ℕ) → LeavesOf h p xs → length (chain_below h l p xs) ≤ most_nodes h (length xs)
unfolding chain_below
most-below zero l p [] u = omega arith
most-below zero l p (x ∷ xs) u = unfold most_nodes in omega arith
most-below (suc h) l p [] u = omega arith
most-below (suc h) l p (x ∷ xs) u =
    let left = left_leaves h p (x ∷ xs) in
    let right = right_leaves h p (x ∷ xs) in
    let all : length left + length right ≡ length (x ∷ xs) = simp length-append at (ap length (leaves-halves u)) in
    simp (length-append, ← all) (omega (
      arith,
      most-join h (length left) (length right) (omega arith),
      most-below h (suc l) (2 * p) left (left-leaves u),
      most-below h (suc l) (2 * p + 1) right (right-leaves u),
    ))

-- any depth, any number of leaves
pub chain-most : (n : ℕ) (leaves : List ℕ) → every (is_leaf n) leaves ≡ true → length (chain n leaves) ≤ most_nodes n (leaves_opened leaves)
chain-most n leaves h =
    let s : every (is_leaf n) (sorted leaves) ≡ true = every-sorted (is_leaf n) leaves ∙ h in
    rw (← chain-sorted n leaves, ← length-sorted leaves, chain-chain_below n (sorted leaves) s)
    (most-below n 0 0 (sorted leaves) (record { increases = increasing-sorted leaves; inside = leaves-under n (sorted leaves) s }))

most-limits : most_nodes max_depth max_challenges ≡ max_chain
unfolding most_nodes
most-limits = refl

-- Document 01: 'With t = 200 at most 6,855 nodes.'
pub chain-bound : (n : ℕ) (leaves : List ℕ) → every (is_leaf n) leaves ≡ true → n ≤ max_depth → leaves_opened leaves ≤ max_challenges
    → length (chain n leaves) ≤ max_chain
chain-bound n leaves h d k =
    let e : max_depth - n + n ≡ max_depth = omega arith in
    omega (
      arith,
      chain-most n leaves h,
      most-leaves n (leaves_opened leaves) max_challenges k,
      rw e at (most-depth (max_depth - n) n max_challenges),
      most-limits,
    )

pub leaves_opened-le : (leaves : List ℕ) → leaves_opened leaves ≤ length leaves
unfolding different
leaves_opened-le [] = omega arith
leaves_opened-le (x ∷ xs) = go (opened xs x) (leaves_opened-le xs)
  where
    go : (b : Bool) → leaves_opened xs ≤ length xs → length (pick b (different xs) (x ∷ different xs)) ≤ suc (length xs)
    go true e = omega arith
    go false e = omega arith

-- the plan's number of codes is the chain's of nodes
pub plan-length : (n : ℕ) (leaves : List ℕ) → every (is_leaf n) leaves ≡ true → length (plan n leaves) ≡ length (chain n leaves)
unfolding chain_codes
plan-length n leaves h = ap length (plan-chain n leaves h) ∙ length-map (chain n leaves) code

-- Leaves of depth 40 below as many nodes of level 8, of which 128 are left children: all nodes of levels 0 to 7 are on their ways.
unfoldable pub spread : ℕ → List ℕ
spread zero = []
spread (suc i) = (2 * (i % 128) + i / 128) * 2 ^ 32 ∷ spread i

pub spread-leaves : every (is_leaf max_depth) (spread max_challenges) ≡ true
unfolding every is_leaf spread
spread-leaves = refl

spread-plan : length (plan max_depth (spread max_challenges)) ≡ max_chain
unfolding plan plan_from sorted inserted climb next_code spread
spread-plan = refl

-- 6,855 is reached, with 200 different leaves
pub spread-different : leaves_opened (spread max_challenges) ≡ max_challenges
unfolding different opened spread
spread-different = refl

pub spread-chain : length (chain max_depth (spread max_challenges)) ≡ max_chain
spread-chain = sym (plan-length max_depth (spread max_challenges) spread-leaves) ∙ spread-plan
