-- The labelling order of a subtree holds each node of the subtree once, and no other.
use mathlib.Core.Path.{◌≡◌, refl, sym, ap, ◌∙◌}
use Prim.Native.Nat.{ℕ, zero, suc, ◌+◌, ◌-◌, ◌*◌, ◌/◌, ◌^◌, ◌≤◌, ◌<◌}
use native.Mathlib.Numerals.{add-one}
use native.Mathlib.Omega.{arith}
use mathlib.Core.Bool.{Bool, true, false}
use mathlib.Core.List.{List, [], ◌∷◌, ◌++◌}
use lib.Dec.{leb, eqb}
use lib.ListN.{length, get_or, length-append}
use borrow.Author.Tests.{eqb-true, eqb-false, le-leb, lt-leb, eq-eqb, ne_eqb}
use Rattle.base.specs.Choice.{pick, both, passing}
use Rattle.tree.specs.Nodes.{Node, node, same_node, order_below}
use Rattle.chain_theory.proofs.Lists.{Order, less, same, more, order, length-pick, both_left, both_right, passing-yes, passing-no}
use Rattle.chain_theory.proofs.Lists.{passing-one, passing-append}
use Rattle.chain_theory.proofs.Subtrees.{halved, div-zero}

pub order-zero : (v : Node) → order_below zero v ≡ v ∷ []
unfolding order_below
order-zero v = refl

pub order-suc : (h l p : ℕ)
    → order_below (suc h) (node l p) ≡ order_below h (node (suc l) (2 * p)) ++ order_below h (node (suc l) (2 * p + 1)) ++ node l p ∷ []
unfolding order_below
order-suc h l p = rw (add-one l)

-- 1 if a test holds
abbrev pub once : Bool → ℕ
once b = pick b 1 0

-- how many times a node stands in a list
abbrev pub times : Node → List Node → ℕ
times w vs = length (passing (same_node w) vs)

-- the node is one of the subtree of height h at level l, position p
unfoldable pub is_below : ℕ → ℕ → ℕ → Node → Bool
is_below h l p w = both (leb l w.level) (both (leb w.level (h + l)) (eqb (w.position / 2 ^ (w.level - l)) p))

pub same_nodes : (v w : Node) → same_node v w ≡ true → v ≡ w
same_nodes v w h =
    let levels = eqb-true v.level w.level (both_left (eqb v.level w.level) (eqb v.position w.position) h) in
    let positions = eqb-true v.position w.position (both_right (eqb v.level w.level) (eqb v.position w.position) h) in
    λ i. record { level = levels i; position = positions i }

pub same_self : (v : Node) → same_node v v ≡ true
same_self v = rw (eq-eqb v.level v.level refl, eq-eqb v.position v.position refl)

times-append : (w : Node) (xs ys : List Node) → times w (xs ++ ys) ≡ times w xs + times w ys
times-append w xs ys = rw (passing-append (same_node w) xs ys, length-append)

times-one : (w v : Node) → times w (v ∷ []) ≡ once (same_node w v)
times-one w v = rw (passing-one (same_node w) v) (length-pick (same_node w v) v)

below-lower : (h l p : ℕ) (w : Node) → w.level < l → is_below h l p w ≡ false
unfolding is_below
below-lower h l p w lt = rw (lt-leb l w.level lt)

below-level : (h l p : ℕ) (w : Node) → w.level ≡ l → is_below h l p w ≡ same_node w (node l p)
unfolding is_below
below-level h l p w e =
    let d : w.level - l ≡ 0 = omega arith in
    rw (le-leb l w.level (omega arith), le-leb w.level (h + l) (omega arith), eq-eqb w.level l e, d, div-zero w.position)

below-leaf : (l p : ℕ) (w : Node) → l < w.level → is_below zero l p w ≡ false
unfolding is_below
below-leaf l p w lt = rw (le-leb l w.level (omega arith), lt-leb w.level (zero + l) (omega arith))

-- on a lower level it lies below one child or the other
below-children : (h l p : ℕ) (w : Node) → l < w.level
    → once (is_below h (suc l) (2 * p) w) + once (is_below h (suc l) (2 * p + 1) w) ≡ once (is_below (suc h) l p w)
unfolding is_below
below-children h l p w lt =
    let d : w.level - l ≡ suc (w.level - suc l) = omega arith in
    let s : suc h + l ≡ h + suc l = omega arith in
    rw (le-leb l w.level (omega arith), le-leb (suc l) w.level lt, d, s, halved w.position (w.level - suc l))
    (go (leb w.level (h + suc l)) (w.position / 2 ^ (w.level - suc l)))
  where
    side : (q : ℕ) (a b : Bool) → eqb q (2 * p) ≡ a → eqb q (2 * p + 1) ≡ b → once a + once b ≡ once (eqb (q / 2) p)
    side q true true e f = absurd (omega (arith, eqb-true q (2 * p) e, eqb-true q (2 * p + 1) f))
    side q true false e f = rw (eq-eqb (q / 2) p (omega (arith, eqb-true q (2 * p) e)))
    side q false true e f = rw (eq-eqb (q / 2) p (omega (arith, eqb-true q (2 * p + 1) f)))
    side q false false e f = rw (ne_eqb (q / 2) p (λ d. omega (arith, eqb-false q (2 * p) e, eqb-false q (2 * p + 1) f)))

    go : (b : Bool) (q : ℕ) → once (both b (eqb q (2 * p))) + once (both b (eqb q (2 * p + 1))) ≡ once (both b (eqb (q / 2) p))
    go true q = side q (eqb q (2 * p)) (eqb q (2 * p + 1)) refl refl
    go false q = refl

other-level : (w v : Node) → (w.level ≡ v.level → ⊥) → same_node w v ≡ false
other-level w v ne = rw (ne_eqb w.level v.level ne)

pub times-order : (w : Node) (h l p : ℕ) → times w (order_below h (node l p)) ≡ once (is_below h l p w)
times-order w zero l p = rw (order-zero (node l p), times-one w (node l p)) (go (order w.level l))
  where
    go : Order w.level l → once (same_node w (node l p)) ≡ once (is_below zero l p w)
    go (less lt) = rw (other-level w (node l p) (λ e. omega arith), below-lower zero l p w lt)
    go (same e) = rw (below-level zero l p w e)
    go (more lt) = rw (other-level w (node l p) (λ e. omega arith), below-leaf l p w lt)
times-order w (suc h) l p =
    rw (order-suc h l p, times-append, times-append, times-one w (node l p), times-order w h (suc l) (2 * p), times-order w h (suc l) (2 * p + 1))
    (go (order w.level l))
  where
    off : (q : ℕ) → w.level < suc l → is_below h (suc l) q w ≡ false
    off q = below-lower h (suc l) q w

    go : Order w.level l
        → once (is_below h (suc l) (2 * p) w) + once (is_below h (suc l) (2 * p + 1) w) + once (same_node w (node l p)) ≡ once (is_below (suc h) l p w)
    go (less lt) =
        rw (
          other-level w (node l p) (λ e. omega arith),
          off (2 * p) (omega arith),
          off (2 * p + 1) (omega arith),
          below-lower (suc h) l p w lt,
        )
    go (same e) = rw (off (2 * p) (omega arith), off (2 * p + 1) (omega arith), below-level (suc h) l p w e) (omega arith)
    go (more lt) = rw (other-level w (node l p) (λ e. omega arith)) (omega (arith, below-children h l p w lt))

times-yes : (w x : Node) (xs : List Node) → same_node w x ≡ true → times w (x ∷ xs) ≡ suc (times w xs)
times-yes w x xs e = rw (passing-yes (same_node w) x xs e)

times-no : (w x : Node) (xs : List Node) → same_node w x ≡ false → times w (x ∷ xs) ≡ times w xs
times-no w x xs e = rw (passing-no (same_node w) x xs e)

-- in a part of a list chosen by a test
pub times-passing : (w : Node) (t : Node → Bool) (xs : List Node) → times w (passing t xs) ≡ pick (t w) (times w xs) 0
times-passing w t [] = unfold passing in go (t w)
  where
    go : (b : Bool) → ◌≡◌ {A = ℕ} 0 (pick b 0 0)
    go true = refl
    go false = refl
times-passing w t (x ∷ xs) = go (t x) (same_node w x) refl refl (times-passing w t xs)
  where
    go : (a b : Bool) → t x ≡ a → same_node w x ≡ b → times w (passing t xs) ≡ pick (t w) (times w xs) 0
        → times w (passing t (x ∷ xs)) ≡ pick (t w) (times w (x ∷ xs)) 0
    go true true e f ih =
        let d : t w ≡ true = ap t (same_nodes w x f) ∙ e in
        rw (passing-yes t x xs e, times-yes w x (passing t xs) f, times-yes w x xs f, ih, d)
    go true false e f ih = rw (passing-yes t x xs e, times-no w x (passing t xs) f, times-no w x xs f) ih
    go false true e f ih =
        let d : t w ≡ false = ap t (same_nodes w x f) ∙ e in
        rw (passing-no t x xs e, ih, d)
    go false false e f ih = rw (passing-no t x xs e, times-no w x xs f) ih

-- what stands at a place stands in the list
pub times-at : (xs : List Node) (d : Node) (i : ℕ) → i < length xs → 1 ≤ times (get_or xs i d) xs
times-at [] d i h = absurd (omega arith)
times-at (x ∷ xs) d zero h = rw (times-yes x x xs (same_self x)) (omega arith)
times-at (x ∷ xs) d (suc i) h = go (same_node (get_or xs i d) x) refl (times-at xs d i (omega arith))
  where
    go : (b : Bool) → same_node (get_or xs i d) x ≡ b → 1 ≤ times (get_or xs i d) xs → 1 ≤ times (get_or xs i d) (x ∷ xs)
    go true e k = rw (times-yes (get_or xs i d) x xs e) (omega arith)
    go false e k = rw (times-no (get_or xs i d) x xs e) k

times-rest : (w x : Node) (xs : List Node) → times w xs ≤ times w (x ∷ xs)
times-rest w x xs = go (same_node w x) refl
  where
    go : (b : Bool) → same_node w x ≡ b → times w xs ≤ times w (x ∷ xs)
    go true e = rw (times-yes w x xs e) (omega arith)
    go false e = rw (times-no w x xs e) (omega arith)

first-again : (x : Node) (xs : List Node) (d : Node) (i : ℕ) → times x (x ∷ xs) ≤ 1 → i < length xs → x ≡ get_or xs i d → ⊥
first-again x xs d i one h e = omega (arith, times-yes x x xs (same_self x), rw (← e) at (times-at xs d i h))

-- a list in which each node stands at most once has different nodes at different places
pub once-different : (xs : List Node) → ((w : Node) → times w xs ≤ 1) → (d : Node) (i j : ℕ) → i < length xs → j < length xs
    → get_or xs i d ≡ get_or xs j d → i ≡ j
once-different [] f d i j hi hj e = absurd (omega arith)
once-different (x ∷ xs) f d zero zero hi hj e = refl
once-different (x ∷ xs) f d zero (suc j) hi hj e = absurd (first-again x xs d j (f x) (omega arith) e)
once-different (x ∷ xs) f d (suc i) zero hi hj e = absurd (first-again x xs d i (f x) (omega arith) (sym e))
once-different (x ∷ xs) f d (suc i) (suc j) hi hj e =
    ap suc (once-different xs (λ w. omega (arith, times-rest w x xs, f w)) d i j (omega arith) (omega arith) e)
