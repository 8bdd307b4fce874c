-- Section 4 of the paper, document 01's 'as many parents as its position has one-bits': the left siblings on a way.
use mathlib.Core.Path.{◌≡◌, refl, sym, ◌∙◌}
use mathlib.Core.Logic.{◌⊎◌, inl, inr}
use Prim.Native.Nat.{ℕ, zero, suc, ◌+◌, ◌-◌, ◌*◌, ◌/◌, ◌%◌, ◌^◌, ◌≤◌, ◌<◌}
use native.Mathlib.Nat.{add-suc, add-zero, zero-add, mod-eq_of_lt, mod-lt, add-mul, one-mul, div-one, mod-one, mul_assoc}
use native.Mathlib.Numerals.{add-one, one-add}
use native.Mathlib.Omega.{arith}
use mathlib.Core.Bool.{Bool, true, false}
use mathlib.Core.List.{[], ◌∷◌, ◌++◌, append_assoc, append-nil}
use lib.ListN.{length, get_or, length-append}
use lib.Count.{ones, ones_step, ones_cat, ones-le}
use lib.Pow.{pow_pos, shr-shr, shr_lt, field, mod-mod-pow, split}
use borrow.Author.Tests.{lt-ltb, le-ltb, eqb-true, eqb-false, eq-eqb}
use Rattle.base.specs.Choice.{pick, odd}
use Rattle.tree.specs.Nodes.{Node, node, root, left_child, right_child, labelling_order, left_siblings, parents}
use Rattle.tree.specs.Held.{among}
use Rattle.tree.specs.Walk.{nodes_in, left_siblings_below}
use Rattle.tree.proofs.Among.{among-append, among_one, among-nil, among-left, among-right, among-here, either}
use Rattle.tree.proofs.Order.{AtPlace, Place, place_of, place_in, order-place, order-placed, below_root_lem, double, ones_le_self}

-- a way taken in two pieces
up_suc : (p j : ℕ) → p / 2 / 2 ^ j ≡ p / 2 ^ suc j
up_suc p j = rw (one-add j) at (shr-shr p 1 j)

pub left_siblings-all : (l p : ℕ) → left_siblings l p ≡ left_siblings_below 0 l p
unfolding left_siblings left_siblings_below
left_siblings-all zero p = refl
left_siblings-all (suc l) p = rw (left_siblings-all l (p / 2), zero-add (suc l))

pub left_siblings_below-split :
    (l i j p : ℕ)
    → left_siblings_below l (i + j) p ≡ left_siblings_below l i (p / 2 ^ j) ++ left_siblings_below (l + i) j p
unfolding left_siblings_below
left_siblings_below-split l i zero p = rw (add-zero i, div-one p, append-nil)
left_siblings_below-split l i (suc j) p =
    let a : l + suc (i + j) ≡ l + i + suc j = omega arith in
    rw (add-suc i j, a, left_siblings_below-split l i j (p / 2), up_suc p j, append_assoc)

pub left_siblings-split :
    (l j p : ℕ) → left_siblings (l + j) p ≡ left_siblings l (p / 2 ^ j) ++ left_siblings_below l j p
left_siblings-split l j p =
    rw (left_siblings-all (l + j) p, left_siblings-all l (p / 2 ^ j), left_siblings_below-split 0 l j p, zero-add l)

-- as many as the position has one-bits
one-or-none : (t : Bool) (x : Node) → length (pick t (x ∷ []) []) ≡ pick t 1 0
one-or-none true x = refl
one-or-none false x = refl

odd-bit : (p : ℕ) → pick (odd p) 1 0 ≡ p % 2
odd-bit p = go (odd p) refl
  where
    go : (t : Bool) → odd p ≡ t → pick t 1 0 ≡ p % 2
    go true e = sym (eqb-true (p % 2) 1 e)
    go false e = omega (arith, eqb-false (p % 2) 1 e)

ones_low : (p j : ℕ) → ones (p % 2 ^ suc j) ≡ ones (p / 2 % 2 ^ j) + p % 2
ones_low p j =
    let a : p % 2 ^ suc j % 2 ≡ p % 2 = rw (add-one j) at (mod-mod-pow p j 1) in
    let b : p % 2 ^ suc j / 2 ≡ p / 2 % 2 ^ j = rw (add-one j) at (field p j 1) in
    let c : ones (p % 2 ^ suc j) ≡ p % 2 + ones (p / 2 % 2 ^ j) = rw (a, b) at (ones_step (p % 2 ^ suc j)) in
    omega arith

pub left_siblings_below-count : (l j p : ℕ) → length (left_siblings_below l j p) ≡ ones (p % 2 ^ j)
unfolding left_siblings_below
left_siblings_below-count l zero p = rw (mod-one p) (omega (arith, ones-le 0 0 (omega arith)))
left_siblings_below-count l (suc j) p =
    rw (length-append, left_siblings_below-count l j (p / 2), one-or-none, odd-bit p, ones_low p j)

pub left_siblings-count : (l p : ℕ) → p < 2 ^ l → length (left_siblings l p) ≡ ones p
left_siblings-count l p inside = rw (left_siblings-all l p, left_siblings_below-count 0 l p, mod-eq_of_lt inside)

pub parents-of-leaf : (n : ℕ) (v : Node) → v.level ≡ n → parents n v ≡ left_siblings n v.position
unfolding parents
parents-of-leaf n v leaf = rw (leaf, le-ltb n n (omega arith))

pub parents-of-inner : (n : ℕ) (v : Node) → v.level < n → parents n v ≡ left_child v ∷ right_child v ∷ []
unfolding parents
parents-of-inner n v inner = rw (lt-ltb v.level n)

pub parents-count :
    (n : ℕ) (v : Node) → v.level ≡ n → v.position < 2 ^ n → length (parents n v) ≡ ones v.position
parents-count n v leaf inside = rw (parents-of-leaf n v leaf) (left_siblings-count n v.position inside)

-- A node that is the left sibling of one on the way from level l, position p, so many levels up.
pub record LeftSibling (l p : ℕ) (u : Node) : Type 0 where
  pub up : ℕ
  pub fits : u.level + up ≡ l
  pub below_root : 1 ≤ u.level
  pub beside : u.position + 1 ≡ p / 2 ^ up
  pub right : p / 2 ^ up % 2 ≡ 1

sibling-up : (l p : ℕ) (u : Node) → LeftSibling l (p / 2) u → LeftSibling (suc l) p u
sibling-up l p u s =
    record {
      up = suc s.up;
      fits = omega arith;
      below_root = s.below_root;
      beside = s.beside ∙ up_suc p s.up;
      right = rw (up_suc p s.up) at s.right;
    }

sibling-here :
    (l p : ℕ) (u : Node) (t : Bool) → odd p ≡ t → among (pick t (node (suc l) (p - 1) ∷ []) []) u ≡ true
    → LeftSibling (suc l) p u
sibling-here l p u true o e =
    let f : u ≡ node (suc l) (p - 1) = among_one (node (suc l) (p - 1)) u e in
    let b : p % 2 ≡ 1 = eqb-true (p % 2) 1 o in
    rw f
    record {
      up = 0;
      fits = add-zero (suc l);
      below_root = omega arith;
      beside = rw (div-one p) (omega arith);
      right = rw (div-one p) b;
    }
sibling-here l p u false o e = absurd (among-nil u e)

pub left_siblings-on_way : (l p : ℕ) (u : Node) → among (left_siblings l p) u ≡ true → LeftSibling l p u
unfolding left_siblings
left_siblings-on_way zero p u e = absurd (among-nil u e)
left_siblings-on_way (suc l) p u e =
    go (left_siblings-on_way l (p / 2) u) (either _ _ (rw among-append at e))
  where
    go :
        (among (left_siblings l (p / 2)) u ≡ true → LeftSibling l (p / 2) u)
        → (among (left_siblings l (p / 2)) u ≡ true) ⊎ (among (pick (odd p) (node (suc l) (p - 1) ∷ []) []) u ≡ true)
        → LeftSibling (suc l) p u
    go ih (inl a) = sibling-up l p u (ih a)
    go ih (inr a) = sibling-here l p u (odd p) refl a

-- and each left sibling of a node on the way is one of them
left_siblings-last : (l p q : ℕ) → q + 1 ≡ p → p % 2 ≡ 1 → among (left_siblings (suc l) p) (node (suc l) q) ≡ true
unfolding left_siblings
left_siblings-last l p q e o =
    let d : p - 1 ≡ q = omega arith in
    rw (eq-eqb (p % 2) 1 o, d)
    (among-right (left_siblings l (p / 2)) (node (suc l) q ∷ []) (node (suc l) q) (among-here (node (suc l) q) []))

pub left_siblings-has : (l p : ℕ) (u : Node) → LeftSibling l p u → among (left_siblings l p) u ≡ true
left_siblings-has l p u s = rw (← s.fits) (go u.level u.position s.up s.below_root s.beside s.right)
  where
    go :
        (m q up : ℕ) → 1 ≤ m → q + 1 ≡ p / 2 ^ up → p / 2 ^ up % 2 ≡ 1
        → among (left_siblings (m + up) p) (node m q) ≡ true
    go zero q up a b c = absurd (omega arith)
    go (suc m) q up a b c =
        rw (left_siblings-split (suc m) up p)
        (among-left (left_siblings (suc m) (p / 2 ^ up)) (left_siblings_below (suc m) up p) (node (suc m) q)
        (left_siblings-last m (p / 2 ^ up) q b c))

-- Every parent stands before its node.
left-before :
    (j q k m : ℕ) → AtPlace (suc j) q k → AtPlace j (2 * q) m → m < k
left-before j q k m at at' =
    let a : 2 * q / 2 ≡ q = omega arith in
    let b : ones (2 * q) ≡ 2 * q % 2 + ones q = rw a at (ones_step (2 * q)) in
    omega (
      arith,
      at,
      at',
      pow_pos j,
      double (q + 1) j,
      mul_assoc 2 (q + 1) (2 ^ j),
      add-mul (2 * q) 1 (2 ^ j),
      one-mul (2 ^ j),
      add-mul q 1 (2 ^ j),
      mul_assoc 2 q (2 ^ j),
    )

right-before :
    (j q k m : ℕ) → AtPlace (suc j) q k → AtPlace j (2 * q + 1) m → m < k
right-before j q k m at at' =
    let a : (2 * q + 1) / 2 ≡ q = omega arith in
    let b : ones (2 * q + 1) ≡ (2 * q + 1) % 2 + ones q = rw a at (ones_step (2 * q + 1)) in
    let c : 2 * q + 1 + 1 ≡ 2 * (q + 1) = omega arith in
    omega (arith, at, rw c at at', double (q + 1) j, mul_assoc 2 (q + 1) (2 ^ j))

sibling-before :
    (q up s k m : ℕ) → s + 1 ≡ q / 2 ^ up → q / 2 ^ up % 2 ≡ 1 → AtPlace 0 q k → AtPlace up s m → m < k
sibling-before q up s k m beside right at at' =
    let a : ones q ≡ ones (q / 2 ^ up) + ones (q % 2 ^ up) =
    rw (split q up) at (ones_cat up (q / 2 ^ up) (q % 2 ^ up) (mod-lt q (pow_pos up))) in
    let b : s / 2 ≡ q / 2 ^ up / 2 = omega arith in
    let c : ones s ≡ s % 2 + ones (q / 2 ^ up / 2) = rw b at (ones_step s) in
    omega (arith, at, rw beside at at', ones_step (q / 2 ^ up), split q up, ones_le_self (q % 2 ^ up))

-- the place of node (i, q) of the tree of depth n, if it is before k
before :
    (n i j q k : ℕ) → j + i ≡ n → q < 2 ^ i → ((m : ℕ) → AtPlace j q m → m < k)
    → (m : ℕ) × (m < k) × (get_or (labelling_order n) m root ≡ node i q)
unfolding labelling_order
before n i j q k fits inside first =
    let (m, small, at) = place_in i j q inside in
    (m, first m at, rw (← fits) (order-place i j root q m inside at ∙ below_root_lem i q))

parent-before :
    (n i j q k : ℕ) (u : Node) → j + i ≡ n → q < 2 ^ i → AtPlace j q k → among (parents n (node i q)) u ≡ true
    → (m : ℕ) × (m < k) × (get_or (labelling_order n) m root ≡ u)
parent-before n i zero q k u fits inside at e =
    let f : i ≡ n = omega arith in
    let s : LeftSibling i q u = left_siblings-on_way i q u (rw (← f, parents-of-leaf i (node i q) refl) at e) in
    before n u.level s.up u.position k (omega arith)
    (omega (arith, s.beside, shr_lt u.level s.up (rw (← s.fits) at inside)))
    (λ m at'. sibling-before q s.up u.position k m s.beside s.right at at')
parent-before n i (suc j) q k u fits inside at e =
    let children : parents n (node i q) ≡ left_child (node i q) ∷ right_child (node i q) ∷ [] =
    parents-of-inner n (node i q) (omega arith) in
    go (either _ _ (rw (children, among-append (left_child (node i q) ∷ []) (right_child (node i q) ∷ []) u) at e))
  where
    go :
        (among (left_child (node i q) ∷ []) u ≡ true) ⊎ (among (right_child (node i q) ∷ []) u ≡ true)
        → (m : ℕ) × (m < k) × (get_or (labelling_order n) m root ≡ u)
    go (inl a) =
        rw (among_one (left_child (node i q)) u a)
        (before n (i + 1) j (2 * q) k (omega arith) (rw (add-one i) (omega arith)) (λ m at'. left-before j q k m at at'))
    go (inr a) =
        rw (among_one (right_child (node i q)) u a)
        (before n (i + 1) j (2 * q + 1) k (omega arith) (rw (add-one i) (omega arith)) (λ m at'. right-before j q k m at at'))

pub parents-before :
    (n k : ℕ) (w u : Node) → k < nodes_in n → get_or (labelling_order n) k root ≡ w → among (parents n w) u ≡ true
    → (m : ℕ) × (m < k) × (get_or (labelling_order n) m root ≡ u)
unfolding labelling_order
parents-before n k w u small e a =
    let pl : Place n k = place_of n k small in
    let f : w ≡ node pl.depth pl.across =
    sym e ∙ order-placed root pl ∙ below_root_lem pl.depth pl.across in
    parent-before n pl.depth pl.height pl.across k u pl.fits pl.inside pl.at (rw f at a)
