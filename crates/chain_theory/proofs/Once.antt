-- Each node of the chain is of the tree and on some way, and stands once; so do the codes.
use mathlib.Core.Path.{◌≡◌, refl, sym, ap, ◌∙◌}
use Prim.Native.Nat.{ℕ, zero, suc, ◌+◌, ◌-◌, ◌/◌, ◌^◌, ◌≤◌, ◌<◌}
use native.Mathlib.Omega.{arith}
use mathlib.Core.Bool.{Bool, true, false}
use mathlib.Core.List.{List, [], ◌∷◌, map}
use lib.Dec.{leb, eqb}
use lib.ListN.{length, get_or, length-map}
use lib.Pow.{pow_mono}
use borrow.Author.Tests.{leb-true, eqb-true, le-leb, eq-eqb}
use Rattle.base.specs.Choice.{pick, both}
use Rattle.tree.specs.Nodes.{Node, root, InTree, labelling_order}
use Rattle.chain_theory.specs.Ways.{on_some_way, chain, code, chain_codes}
use Rattle.chain_theory.proofs.Lists.{Order, less, same, more, order, both_left, both_right}
use Rattle.chain_theory.proofs.Subtrees.{div-small, small-div}
use Rattle.chain_theory.proofs.OrderLaws.{times, once, is_below, same_nodes, times-order, times-passing, times-at, once-different}

-- A node stands in the chain once if it is of the tree and on some way, and else not at all.
pub chain-times : (n : ℕ) (leaves : List ℕ) (w : Node) → times w (chain n leaves) ≡ once (both (on_some_way n leaves w) (is_below n 0 0 w))
unfolding chain labelling_order
chain-times n leaves w =
    times-passing w (on_some_way n leaves) (labelling_order n) ∙ rw (times-order w n 0 0) (go (on_some_way n leaves w) (is_below n 0 0 w))
  where
    go : (a b : Bool) → pick a (once b) 0 ≡ once (both a b)
    go true b = refl
    go false b = refl

-- the nodes of the tree of depth n are those below the root
pub in_tree : (n : ℕ) (w : Node) → is_below n 0 0 w ≡ true → InTree n w
unfolding is_below
in_tree n w h =
    let d : w.level - 0 ≡ w.level = omega arith in
    let low : Bool = leb w.level (n + 0) in
    let under : Bool = eqb (w.position / 2 ^ (w.level - 0)) 0 in
    let k = both_right (leb 0 w.level) (both low under) h in
    let a = leb-true w.level (n + 0) (both_left low under k) in
    let b = eqb-true (w.position / 2 ^ (w.level - 0)) 0 (both_right low under k) in
    (omega arith, small-div w.level w.position (rw d at b))

pub below_root : (n : ℕ) (w : Node) → InTree n w → is_below n 0 0 w ≡ true
unfolding is_below
below_root n w h =
    let d : w.level - 0 ≡ w.level = omega arith in
    rw (le-leb 0 w.level (omega arith), le-leb w.level (n + 0) (omega arith), d, div-small w.level w.position h.1)

-- so in the tree: once if on some way, else not at all
pub chain-once : (n : ℕ) (leaves : List ℕ) (w : Node) → InTree n w → times w (chain n leaves) ≡ once (on_some_way n leaves w)
chain-once n leaves w h = chain-times n leaves w ∙ rw (below_root n w h) (go (on_some_way n leaves w))
  where
    go : (a : Bool) → once (both a true) ≡ once a
    go true = refl
    go false = refl

-- each node of the chain is of the tree and on some way
pub chain-at : (n : ℕ) (leaves : List ℕ) (d : Node) (i : ℕ) → i < length (chain n leaves)
    → InTree n (get_or (chain n leaves) i d) × (on_some_way n leaves (get_or (chain n leaves) i d) ≡ true)
chain-at n leaves d i h =
    let w : Node = get_or (chain n leaves) i d in
    let b = present (both (on_some_way n leaves w) (is_below n 0 0 w)) (rw (chain-times n leaves w) at (times-at (chain n leaves) d i h)) in
    (in_tree n w (both_right (on_some_way n leaves w) (is_below n 0 0 w) b), both_left (on_some_way n leaves w) (is_below n 0 0 w) b)
  where
    present : (b : Bool) → 1 ≤ once b → b ≡ true
    present true k = refl
    present false k = absurd (omega arith)

-- no node stands at two places
pub chain-different : (n : ℕ) (leaves : List ℕ) (d : Node) (i j : ℕ) → i < length (chain n leaves) → j < length (chain n leaves)
    → get_or (chain n leaves) i d ≡ get_or (chain n leaves) j d → i ≡ j
chain-different n leaves d i j hi hj e =
    once-different (chain n leaves) (λ w. rw (chain-times n leaves w) (go (both (on_some_way n leaves w) (is_below n 0 0 w)))) d i j hi hj e
  where
    go : (b : Bool) → once b ≤ 1
    go true = omega arith
    go false = omega arith

code_at : (vs : List Node) (i : ℕ) → i < length vs → get_or (map code vs) i 0 ≡ code (get_or vs i root)
code_at [] i h = absurd (omega arith)
code_at (v ∷ vs) zero h = refl
code_at (v ∷ vs) (suc i) h = code_at vs i (omega arith)

-- a node is known by its code
pub same_code : (v w : Node) → v.position < 2 ^ v.level → w.position < 2 ^ w.level → code v ≡ code w → v ≡ w
same_code v w hv hw e = go (order v.level w.level)
  where
    -- a lower level has smaller codes
    smaller : (a b p q : ℕ) → a < b → p < 2 ^ a → 2 ^ a + p ≡ 2 ^ b + q → ⊥
    smaller a b p q h k d = let m : 2 ^ suc a ≤ 2 ^ b = pow_mono {i = suc a} {j = b} h in omega arith

    go : Order v.level w.level → v ≡ w
    go (less h) = absurd (smaller v.level w.level v.position w.position h hv e)
    go (same h) = same_nodes v w (rw (eq-eqb v.level w.level h, eq-eqb v.position w.position (omega (arith, ap (λ (l : ℕ). 2 ^ l) h))))
    go (more h) = absurd (smaller w.level v.level w.position v.position h hw (sym e))

-- no code stands at two places
pub codes-different : (n : ℕ) (leaves : List ℕ) (i j : ℕ) → i < length (chain_codes n leaves) → j < length (chain_codes n leaves)
    → get_or (chain_codes n leaves) i 0 ≡ get_or (chain_codes n leaves) j 0 → i ≡ j
unfolding chain_codes
codes-different n leaves i j hi hj e =
    let li : i < length (chain n leaves) = rw (length-map (chain n leaves) code) at hi in
    let lj : j < length (chain n leaves) = rw (length-map (chain n leaves) code) at hj in
    let v : Node = get_or (chain n leaves) i root in
    let w : Node = get_or (chain n leaves) j root in
    let codes : code v ≡ code w = sym (code_at (chain n leaves) i li) ∙ e ∙ code_at (chain n leaves) j lj in
    chain-different n leaves root i j li lj (same_code v w (chain-at n leaves root i li).0.1 (chain-at n leaves root j lj).0.1 codes)
