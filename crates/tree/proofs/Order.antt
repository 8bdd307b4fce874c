-- Document 01, 'The tree': the labelling order has each node once, after its parents.
use mathlib.Core.Path.{◌≡◌, refl, sym, ap, ◌∙◌}
use Prim.Native.Nat.{ℕ, zero, suc, ◌+◌, ◌-◌, ◌*◌, ◌/◌, ◌%◌, ◌^◌, ◌≤◌, ◌<◌}
use native.Mathlib.Nat.{add-suc, mul_comm, mul-le-mul_right, one-mul, add-mul, add-zero, le-mul_of_pos_right, pow-succ', mul_assoc, mul_left_comm}
use native.Mathlib.Nat.{mul-lt-mul_of_pos_right, zero-add, zero-mul}
use native.Mathlib.Numerals.{add-one, add-one-le}
use native.Mathlib.Omega.{arith}
use mathlib.Core.Bool.{Bool, true, false}
use mathlib.Core.List.{[], ◌++◌, append_assoc}
use lib.Dec.{ltb}
use lib.ListN.{length, get_or, length-append, get_or-append}
use lib.Seq.{get_or-append-add, get_or_at}
use lib.Arith.{bin_ind}
use lib.Count.{ones, ones_step, ones_cat, ones-le, ones-ones}
use lib.Pow.{pow_pos, pow-add, high}
use borrow.Author.Tests.{ltb-true, ltb-false, lt-ltb, le-ltb, eqb-true, eqb-false}
use Rattle.base.specs.Choice.{odd}
use Rattle.tree.specs.Nodes.{Node, node, root, InTree, left_child, right_child, above, order_below, labelling_order}
use Rattle.tree.specs.Walk.{nodes_in, node_at, below}

pub nodes_in-suc : (h : ℕ) → nodes_in h + 1 ≡ 2 * 2 ^ h
unfolding nodes_in
nodes_in-suc h = rw (add-one h) (omega (arith, pow_pos h))

pub nodes_in-step : (h : ℕ) → nodes_in (suc h) ≡ nodes_in h + nodes_in h + 1
nodes_in-step h = omega (arith, nodes_in-suc h, nodes_in-suc (suc h))

-- as many nodes as document 01 says
pub order-length : (h : ℕ) (v : Node) → length (order_below h v) ≡ nodes_in h
unfolding order_below
order-length zero v = omega (arith, nodes_in-suc 0)
order-length (suc h) v =
    simp length-append
    (omega (arith, order-length h (left_child v), order-length h (right_child v), nodes_in-step h))

pub order-count : (h : ℕ) (v : Node) → length (order_below h v) + 1 ≡ 2 * 2 ^ h
order-count h v = omega (arith, order-length h v, nodes_in-suc h)

-- what stands in the left subtree's part, in the right one's, and last
module _ (h : ℕ) (v : Node) where
  order-left : (k : ℕ) → k < nodes_in h → get_or (order_below (suc h) v) k root ≡ get_or (order_below h (left_child v)) k root
  unfolding order_below
  order-left k small =
      let a : k < length (order_below h (left_child v)) = omega (arith, order-length h (left_child v)) in
      rw (append_assoc, get_or-append)

  order-right :
      (k : ℕ) → k < nodes_in h
      → get_or (order_below (suc h) v) (nodes_in h + k) root ≡ get_or (order_below h (right_child v)) k root
  unfolding order_below
  order-right k small =
      let a : k < length (order_below h (right_child v)) = omega (arith, order-length h (right_child v)) in
      rw (append_assoc, ← order-length h (left_child v), get_or-append-add, get_or-append)

pub order-last : (h : ℕ) (v : Node) (k : ℕ) → k + 1 ≡ nodes_in h → get_or (order_below h v) k root ≡ v
unfolding order_below
order-last zero v k e =
    let z : k ≡ 0 = omega (arith, nodes_in-suc 0) in
    rw z
order-last (suc h) v k e =
    get_or_at (order_below h (left_child v) ++ order_below h (right_child v)) v [] root k
    (simp length-append
    (omega (arith, order-length h (left_child v), order-length h (right_child v), nodes_in-step h)))

-- the walk is the order
module _ (h : ℕ) (v : Node) where
  pub node_at-left : (k : ℕ) → k < nodes_in h → node_at (suc h) v k ≡ node_at h (left_child v) k
  unfolding node_at
  node_at-left k small = rw (lt-ltb k (nodes_in h))

  pub node_at-right :
      (k : ℕ) → nodes_in h ≤ k → k < nodes_in h + nodes_in h → node_at (suc h) v k ≡ node_at h (right_child v) (k - nodes_in h)
  unfolding node_at
  node_at-right k a b = rw (le-ltb k (nodes_in h), lt-ltb k (nodes_in h + nodes_in h))

pub node_at-last : (h : ℕ) (v : Node) (k : ℕ) → k + 1 ≡ nodes_in h → node_at h v k ≡ v
unfolding node_at
node_at-last zero v k e = refl
node_at-last (suc h) v k e =
    let a : nodes_in h + nodes_in h ≤ k = omega (arith, nodes_in-step h) in
    let b : nodes_in h ≤ k = omega arith in
    rw (le-ltb k (nodes_in h), le-ltb k (nodes_in h + nodes_in h))

-- the three parts of an order
data Part (h k : ℕ) : Type 0 where
  in_left : k < nodes_in h → Part h k
  in_right : (i : ℕ) → i < nodes_in h → k ≡ nodes_in h + i → Part h k
  last : k + 1 ≡ nodes_in (suc h) → Part h k

part_of : (h k : ℕ) → k < nodes_in (suc h) → Part h k
part_of h k small = left (ltb k (nodes_in h)) refl
  where
    right : (t : Bool) → nodes_in h ≤ k → ltb k (nodes_in h + nodes_in h) ≡ t → Part h k
    right true a e =
        in_right (k - nodes_in h) (omega (arith, ltb-true k (nodes_in h + nodes_in h) e)) (omega arith)
    right false a e = last (omega (arith, ltb-false k (nodes_in h + nodes_in h) e, nodes_in-step h))

    left : (t : Bool) → ltb k (nodes_in h) ≡ t → Part h k
    left true e = in_left (ltb-true k (nodes_in h) e)
    left false e = right (ltb k (nodes_in h + nodes_in h)) (ltb-false k (nodes_in h) e) refl

node_at-part :
    (h : ℕ) (v : Node) (k : ℕ)
    → ((w : Node) (i : ℕ) → i < nodes_in h → node_at h w i ≡ get_or (order_below h w) i root) → Part h k
    → node_at (suc h) v k ≡ get_or (order_below (suc h) v) k root
node_at-part h v k ih (in_left a) =
    node_at-left h v k a ∙ ih (left_child v) k a ∙ sym (order-left h v k a)
node_at-part h v k ih (in_right i a e) =
    let c : k - nodes_in h ≡ i = omega arith in
    node_at-right h v k (omega arith) (omega arith) ∙ rw (c, e) (ih (right_child v) i a ∙ sym (order-right h v i a))
node_at-part h v k ih (last e) = node_at-last (suc h) v k e ∙ sym (order-last (suc h) v k e)

pub node_at-order :
    (h : ℕ) (v : Node) (k : ℕ) → k < nodes_in h → node_at h v k ≡ get_or (order_below h v) k root
node_at-order zero v k small =
    let e : k + 1 ≡ nodes_in 0 = omega (arith, nodes_in-suc 0) in
    node_at-last 0 v k e ∙ sym (order-last 0 v k e)
node_at-order (suc h) v k small = node_at-part h v k (node_at-order h) (part_of h k small)

-- The place of a node of height j, q places from the left edge: q + 1 whole subtrees of height j, and what lies above them.
abbrev pub AtPlace : ℕ → ℕ → ℕ → Type 0
AtPlace j q k = k + 2 + ones q ≡ 2 * ((q + 1) * 2 ^ j)

pub ones_le_self : (q : ℕ) → ones q ≤ q
ones_le_self = bin_ind (λ n. ones n ≤ n) (ones-le 0 0 (omega arith)) (λ n a. omega (arith, ones_step n))

pub place-top : (j k : ℕ) → AtPlace j 0 k → k + 1 ≡ nodes_in j
place-top j k at =
    let e : (0 + 1) * 2 ^ j ≡ 2 ^ j = omega arith in
    omega (arith, nodes_in-suc j, ones-le 0 0 (omega arith), rw e at at)

pub place-small : (i j q k : ℕ) → q < 2 ^ i → AtPlace j q k → k < nodes_in (j + i)
place-small i j q k inside at =
    omega (arith, nodes_in-suc (j + i), pow-add 2 j i, mul_comm (2 ^ j) (2 ^ i), mul-le-mul_right (2 ^ j) (add-one-le inside))

-- a top digit more
ones-top : (i q : ℕ) → q < 2 ^ i → ones (2 ^ i + q) ≡ 1 + ones q
ones-top i q inside =
    let e : 1 * 2 ^ i ≡ 2 ^ i = one-mul (2 ^ i) in
    omega (arith, rw e at (ones_cat i 1 q inside), ones-ones 1)

-- across the right subtree
across-right : (i j q : ℕ) → (2 ^ i + q + 1) * 2 ^ j ≡ 2 ^ (j + i) + (q + 1) * 2 ^ j
across-right i j q =
    let e : 2 ^ i + q + 1 ≡ 2 ^ i + (q + 1) = omega arith in
    rw (e, add-mul (2 ^ i) (q + 1), pow-add, mul_comm (2 ^ i))

pub place-right :
    (i j q k : ℕ) → q < 2 ^ i → AtPlace j (2 ^ i + q) k → (m : ℕ) × (k ≡ nodes_in (j + i) + m) × AtPlace j q m
place-right i j q k inside at =
    let a : q + 1 ≤ (q + 1) * 2 ^ j = le-mul_of_pos_right (q + 1) (pow_pos j) in
    let b : k + 3 + ones q ≡ nodes_in (j + i) + 1 + 2 * ((q + 1) * 2 ^ j) =
    omega (arith, at, ones-top i q inside, across-right i j q, nodes_in-suc (j + i)) in
    let c : nodes_in (j + i) ≤ k = omega (arith, ones_le_self q) in
    (k - nodes_in (j + i), omega arith, omega arith)

-- a level further down
pub double : (p i : ℕ) → p * 2 ^ suc i ≡ 2 * (p * 2 ^ i)
double p i = rw (pow-succ' 2 i, mul_left_comm p 2)

-- the same node from a child of v
pub left_below : (v : Node) (i q : ℕ) → below (left_child v) i q ≡ below v (suc i) q
left_below v i q =
    let a : v.level + 1 + i ≡ v.level + suc i = omega arith in
    let b : 2 * v.position * 2 ^ i ≡ v.position * 2 ^ suc i = rw (double, mul_assoc) in
    rw (a, b)

pub right-below : (v : Node) (i q : ℕ) → below (right_child v) i q ≡ below v (suc i) (2 ^ i + q)
right-below v i q =
    let a : v.level + 1 + i ≡ v.level + suc i = omega arith in
    let c : (2 * v.position + 1) * 2 ^ i + q ≡ v.position * 2 ^ suc i + (2 ^ i + q) =
    omega (arith, add-mul (2 * v.position) 1 (2 ^ i), one-mul (2 ^ i), mul_assoc 2 v.position (2 ^ i), double v.position i) in
    rw (a, c)

-- The two children's parts of a level.
pub data Side (i q : ℕ) : Type 0 where
  toLeft : q < 2 ^ i → Side i q
  toRight : (r : ℕ) → r < 2 ^ i → q ≡ 2 ^ i + r → Side i q

pub side_of : (i q : ℕ) → q < 2 ^ suc i → Side i q
side_of i q inside = go (ltb q (2 ^ i)) refl
  where
    go : (t : Bool) → ltb q (2 ^ i) ≡ t → Side i q
    go true e = toLeft (ltb-true q (2 ^ i) e)
    go false e = toRight (q - 2 ^ i) (omega (arith, ltb-false q (2 ^ i) e)) (omega (arith, ltb-false q (2 ^ i) e))

order-side :
    (i j : ℕ) (v : Node) (q k : ℕ)
    → ((w : Node) (r m : ℕ) → r < 2 ^ i → AtPlace j r m → get_or (order_below (j + i) w) m root ≡ below w i r)
    → AtPlace j q k → Side i q → get_or (order_below (j + suc i) v) k root ≡ below v (suc i) q
order-side i j v q k ih at (toLeft a) =
    rw (add-suc j i) (order-left (j + i) v k (place-small i j q k a at) ∙ ih (left_child v) q k a at ∙ left_below v i q)
order-side i j v q k ih at (toRight r a e) =
    let (m, f, at') = place-right i j r k a (rw e at at) in
    rw (add-suc j i, f, e)
    (order-right (j + i) v m (place-small i j r m a at') ∙ ih (right_child v) r m a at' ∙ right-below v i r)

pub order-place :
    (i j : ℕ) (v : Node) (q k : ℕ)
    → q < 2 ^ i → AtPlace j q k → get_or (order_below (j + i) v) k root ≡ below v i q
order-place zero j v q k inside at =
    let z : q ≡ 0 = omega arith in
    let t : k + 1 ≡ nodes_in j = place-top j k (rw z at at) in
    let a : v.level + 0 ≡ v.level = omega arith in
    let b : v.position * 1 + 0 ≡ v.position = omega arith in
    rw (add-zero j, z, a, b) (order-last j v k t)
order-place (suc i) j v q k inside at = order-side i j v q k (order-place i j) at (side_of i q inside)

-- Where place k of a subtree of height h lies: so many levels below its top, so many places from its left edge.
pub record Place (h k : ℕ) : Type 0 where
  pub depth : ℕ
  pub height : ℕ
  pub across : ℕ
  pub fits : height + depth ≡ h
  pub inside : across < 2 ^ depth
  pub at : AtPlace height across k

place-part :
    (h k : ℕ) → ((m : ℕ) → m < nodes_in h → Place h m) → Part h k → Place (suc h) k
place-part h k ih (in_left a) =
    let pl : Place h k = ih k a in
    record {
      depth = suc pl.depth;
      height = pl.height;
      across = pl.across;
      fits = omega arith;
      inside = omega arith;
      at = pl.at;
    }
place-part h k ih (in_right m a e) =
    let pl : Place h m = ih m a in
    record {
      depth = suc pl.depth;
      height = pl.height;
      across = 2 ^ pl.depth + pl.across;
      fits = omega arith;
      inside = omega arith;
      at =
          let f : (2 ^ pl.depth + pl.across + 1) * 2 ^ pl.height ≡ 2 ^ h + (pl.across + 1) * 2 ^ pl.height =
          rw pl.fits at (across-right pl.depth pl.height pl.across) in
          omega (arith, pl.at, ones-top pl.depth pl.across pl.inside, nodes_in-suc h);
    }
place-part h k ih (last e) =
    record {
      depth = 0;
      height = suc h;
      across = 0;
      fits = omega arith;
      inside = omega arith;
      at =
          let f : (0 + 1) * 2 ^ suc h ≡ 2 ^ suc h = one-mul (2 ^ suc h) in
          omega (arith, ones-le 0 0 (omega arith), nodes_in-suc (suc h));
    }

pub place_of : (h k : ℕ) → k < nodes_in h → Place h k
place_of zero k small =
    record {
      depth = 0;
      height = 0;
      across = 0;
      fits = refl;
      inside = omega arith;
      at = omega (arith, ones-le 0 0 (omega arith), nodes_in-suc 0);
    }
place_of (suc h) k small = place-part h k (place_of h) (part_of h k small)

pub order-placed :
    {h k : ℕ} (v : Node) (pl : Place h k) → get_or (order_below h v) k root ≡ below v pl.depth pl.across
order-placed v pl = rw pl.fits at (order-place pl.depth pl.height v pl.across _ pl.inside pl.at)

-- a node stands at one place only
same_place :
    (p : ℕ) {h i k : ℕ} (a : Place h i) (b : Place h k)
    → a.depth ≡ b.depth → p * 2 ^ a.depth + a.across ≡ p * 2 ^ b.depth + b.across → i ≡ k
same_place p a b e f =
    let g : a.across ≡ b.across = omega (arith, rw e at f) in
    let c : a.height ≡ b.height = omega arith in
    omega (arith, rw (g, c) at a.at, b.at)

pub order-once :
    (h : ℕ) (v : Node) (i k : ℕ) → i < nodes_in h → k < nodes_in h
    → get_or (order_below h v) i root ≡ get_or (order_below h v) k root → i ≡ k
order-once h v i k small small' e =
    let a : Place h i = place_of h i small in
    let b : Place h k = place_of h k small' in
    let f : below v a.depth a.across ≡ below v b.depth b.across =
    sym (order-placed v a) ∙ e ∙ order-placed v b in
    same_place v.position a b (omega (arith, ap (λ (w : Node). w.level) f)) (ap (λ (w : Node). w.position) f)

-- the place of a node of height j, q places from the left edge
pub place_in : (i j q : ℕ) → q < 2 ^ i → (k : ℕ) × (k < nodes_in (j + i)) × AtPlace j q k
place_in i j q inside =
    let a : q + 1 ≤ (q + 1) * 2 ^ j = le-mul_of_pos_right (q + 1) (pow_pos j) in
    let at : AtPlace j q (2 * ((q + 1) * 2 ^ j) - (2 + ones q)) = omega (arith, ones_le_self q) in
    (2 * ((q + 1) * 2 ^ j) - (2 + ones q), place-small i j q _ inside at, at)

-- A node of the subtree of height h at v.
pub record Inside (h : ℕ) (v u : Node) : Type 0 where
  pub depth : ℕ
  pub across : ℕ
  pub shallow : depth ≤ h
  pub within : across < 2 ^ depth
  pub is : u ≡ below v depth across

pub order-has :
    (h : ℕ) (v u : Node) → Inside h v u → (k : ℕ) × (k < nodes_in h) × (get_or (order_below h v) k root ≡ u)
order-has h v u s =
    let (k, small, at) = place_in s.depth (h - s.depth) s.across s.within in
    let e : h - s.depth + s.depth ≡ h = omega arith in
    (k, rw e at small, rw e at (order-place s.depth (h - s.depth) v s.across k s.within at) ∙ sym s.is)

pub order-at :
    (h : ℕ) (v : Node) (k : ℕ) → k < nodes_in h → Inside h v (get_or (order_below h v) k root)
order-at h v k small =
    let pl : Place h k = place_of h k small in
    record
    { depth = pl.depth; across = pl.across; shallow = omega arith; within = pl.inside; is = order-placed v pl }

-- the way of such a node passes v
pub inside-level : {h : ℕ} {v u : Node} (s : Inside h v u) → u.level ≡ v.level + s.depth
inside-level s = ap (λ (w : Node). w.level) s.is

pub inside-way : {h : ℕ} {v u : Node} (s : Inside h v u) → u.position / 2 ^ s.depth ≡ v.position
inside-way {v = v} s = rw s.is (high v.position s.depth s.within)

-- The order of the whole tree: 2^(n+1) − 1 nodes, each of the tree, each once.
pub below_root_lem : (i q : ℕ) → below root i q ≡ node i q
below_root_lem i q = rw (zero-add i, zero-mul (2 ^ i), zero-add q)

pub tree-length : (n : ℕ) → length (labelling_order n) ≡ nodes_in n
unfolding labelling_order
tree-length n = order-length n root

pub tree-count : (n : ℕ) → length (labelling_order n) + 1 ≡ 2 ^ (n + 1)
tree-count n = rw (add-one n) (omega (arith, tree-length n, nodes_in-suc n))

pub tree-walk : (n k : ℕ) → k < nodes_in n → get_or (labelling_order n) k root ≡ node_at n root k
unfolding labelling_order
tree-walk n k small = sym (node_at-order n root k small)

pub tree-at : (n k : ℕ) → k < nodes_in n → InTree n (get_or (labelling_order n) k root)
unfolding labelling_order
tree-at n k small =
    let pl : Place n k = place_of n k small in
    rw (order-placed root pl ∙ below_root_lem pl.depth pl.across) (omega arith, pl.inside)

pub tree-has :
    (n : ℕ) (v : Node) → InTree n v → (k : ℕ) × (k < nodes_in n) × (get_or (labelling_order n) k root ≡ v)
unfolding labelling_order
tree-has n v in_tree =
    order-has n root v
    record {
      depth = v.level;
      across = v.position;
      shallow = in_tree.0;
      within = in_tree.1;
      is = sym (below_root_lem v.level v.position);
    }

pub tree-once :
    (n i k : ℕ) → i < nodes_in n → k < nodes_in n → get_or (labelling_order n) i root ≡ get_or (labelling_order n) k root
    → i ≡ k
unfolding labelling_order
tree-once n i k small small' e = order-once n root i k small small' e

-- The next node: after a right child the node above, after a left child the leftmost leaf below its sibling.
place-above : (j q k : ℕ) → q % 2 ≡ 1 → AtPlace j q k → AtPlace (suc j) (q / 2) (k + 1)
place-above j q k o at =
    let f : 2 * (q / 2 + 1) ≡ q + 1 = omega arith in
    let e : (q / 2 + 1) * 2 ^ suc j ≡ (q + 1) * 2 ^ j = rw (double, ← mul_assoc 2 (q / 2 + 1) (2 ^ j), f) in
    omega (arith, at, ones_step q)

place-leaf : (j q k : ℕ) → q % 2 ≡ 0 → AtPlace j q k → AtPlace 0 ((q + 1) * 2 ^ j) (k + 1)
place-leaf j q k o at =
    let e : (q + 1) / 2 ≡ q / 2 = omega arith in
    let a : ones (q + 1) ≡ (q + 1) % 2 + ones (q / 2) = rw e at (ones_step (q + 1)) in
    let z : (q + 1) * 2 ^ j + 0 ≡ (q + 1) * 2 ^ j = omega arith in
    let b : ones ((q + 1) * 2 ^ j) ≡ ones (q + 1) + ones 0 = rw z at (ones_cat j (q + 1) 0 (pow_pos j)) in
    omega (arith, at, ones_step q, ones-le 0 0 (omega arith))

pub below-parity : (v : Node) (i q : ℕ) → (below v (suc i) q).position % 2 ≡ q % 2
below-parity v i q = omega (arith, double v.position i)

pub above-below : (v : Node) (i q : ℕ) → above (below v (suc i) q) ≡ below v i (q / 2)
above-below v i q =
    let a : v.level + suc i - 1 ≡ v.level + i = omega arith in
    let b : (v.position * 2 ^ suc i + q) / 2 ≡ v.position * 2 ^ i + q / 2 = omega (arith, double v.position i) in
    rw (a, b)

module _ (h k : ℕ) (v : Node) (more : k + 1 < nodes_in h) where
  top-is-last : (j q : ℕ) → j + 0 ≡ h → q < 2 ^ 0 → AtPlace j q k → ⊥
  top-is-last j q fits inside at =
      let z : q ≡ 0 = omega arith in
      let e : h ≡ j = omega arith in
      omega (arith, place-top j k (rw z at at), rw e at more)

  above-placed :
      (i j q : ℕ) → j + i ≡ h → q < 2 ^ i → AtPlace j q k
      → odd (below v i q).position ≡ true → get_or (order_below h v) (k + 1) root ≡ above (below v i q)
  above-placed zero j q fits inside at o = absurd (top-is-last j q fits inside at)
  above-placed (suc i) j q fits inside at o =
      let e : q % 2 ≡ 1 = omega (arith, below-parity v i q, eqb-true ((below v (suc i) q).position % 2) 1 o) in
      let s : h ≡ suc j + i = omega arith in
      rw (above-below v i q, s)
      (order-place i (suc j) v (q / 2) (k + 1) (omega arith) (place-above j q k e at))

  leaf-placed :
      (i j q : ℕ) → j + i ≡ h → q < 2 ^ i → AtPlace j q k → odd (below v i q).position ≡ false
      → get_or (order_below h v) (k + 1) root
      ≡ node ((below v i q).level + j) (((below v i q).position + 1) * 2 ^ j)
  leaf-placed zero j q fits inside at o = absurd (top-is-last j q fits inside at)
  leaf-placed (suc i) j q fits inside at o =
      let e : q % 2 ≡ 0 =
      omega (arith, below-parity v i q, eqb-false ((below v (suc i) q).position % 2) 1 o) in
      let a : q + 1 < 2 ^ suc i = omega arith in
      let b : (q + 1) * 2 ^ j < 2 ^ (suc i + j) = rw pow-add (mul-lt-mul_of_pos_right a (pow_pos j)) in
      let s : h ≡ 0 + (suc i + j) = omega arith in
      let c : v.level + suc i + j ≡ v.level + (suc i + j) = omega arith in
      let d : v.position * 2 ^ suc i + q + 1 ≡ v.position * 2 ^ suc i + (q + 1) = omega arith in
      let f : (v.position * 2 ^ suc i + q + 1) * 2 ^ j ≡ v.position * 2 ^ (suc i + j) + (q + 1) * 2 ^ j =
      rw (d, add-mul (v.position * 2 ^ suc i), pow-add, mul_assoc) in
      rw (s, c, f)
      (order-place (suc i + j) 0 v ((q + 1) * 2 ^ j) (k + 1) b (place-leaf j q k e at))

pub next-above :
    (h k : ℕ) (v w : Node) → k + 1 < nodes_in h → get_or (order_below h v) k root ≡ w → odd w.position ≡ true
    → get_or (order_below h v) (k + 1) root ≡ above w
next-above h k v w more e o =
    let pl : Place h k = place_of h k (omega arith) in
    let f : w ≡ below v pl.depth pl.across = sym e ∙ order-placed v pl in
    rw f (above-placed h k v more pl.depth pl.height pl.across pl.fits pl.inside pl.at (rw f at o))

pub next-leaf :
    (h k : ℕ) (v w : Node) (j : ℕ) → w.level + j ≡ v.level + h → k + 1 < nodes_in h
    → get_or (order_below h v) k root ≡ w → odd w.position ≡ false
    → get_or (order_below h v) (k + 1) root ≡ node (w.level + j) ((w.position + 1) * 2 ^ j)
next-leaf h k v w j height more e o =
    let pl : Place h k = place_of h k (omega arith) in
    let f : w ≡ below v pl.depth pl.across = sym e ∙ order-placed v pl in
    let g : j ≡ pl.height = omega (arith, ap (λ (u : Node). u.level) f) in
    rw (g, f) (leaf-placed h k v more pl.depth pl.height pl.across pl.fits pl.inside pl.at (rw f at o))
