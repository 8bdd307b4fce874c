-- Document 01, 'Held is a label whose parent node in the tree is not yet labelled': which nodes these are after k labels.
use mathlib.Core.Path.{◌≡◌, refl, sym, ap, ap₂, ◌∙◌}
use mathlib.Core.Logic.{◌⊎◌, inl, inr}
use Prim.Native.Nat.{ℕ, zero, suc, ◌+◌, ◌-◌, ◌*◌, ◌/◌, ◌%◌, ◌^◌, ◌≤◌, ◌<◌}
use native.Mathlib.Nat.{add-suc, add-zero, add-mul, one-mul, mod-lt, mod-eq_of_lt}
use native.Mathlib.Numerals.{one-add}
use native.Mathlib.Omega.{arith}
use mathlib.Core.Bool.{Bool, true, false, not}
use mathlib.Core.List.{List, [], ◌∷◌, ◌++◌, append_assoc, append-nil}
use lib.Dec.{ltb, eqb}
use lib.ListN.{length, get_or, take, length-append}
use lib.Seq.{take-append-le, take-append-add, take-length}
use lib.Count.{ones, ones-le}
use lib.Pow.{pow_pos, high}
use borrow.Author.Tests.{ltb-true, ltb-false, lt-ltb, le-ltb, ne_eqb, eq-eqb, eqb-false}
use Rattle.base.specs.Choice.{pick, passing}
use Rattle.tree.specs.Nodes.{Node, node, root, InTree, left_child, right_child, above, order_below, labelling_order, left_siblings, parents}
use Rattle.tree.specs.Held.{among, is_held, held_below, held}
use Rattle.tree.specs.Walk.{nodes_in, below, left_siblings_below}
use Rattle.tree.proofs.Among.{among-append, among_one, among-here, among-left, among-right, among-take, either, false-if-not, true-not-false}
use Rattle.tree.proofs.Among.{passing-append, passing-same}
use Rattle.tree.proofs.Order.{Inside, inside-level, inside-way, order-at, tree-at, AtPlace, Place, place_of, place-top, place-small}
use Rattle.tree.proofs.Order.{place-right, Side, toLeft, toRight, side_of, order-length, order-placed, left_below, right-below, above-below}
use Rattle.tree.proofs.Order.{nodes_in-suc, nodes_in-step}
use Rattle.tree.proofs.Parents.{left_siblings_below-split, left_siblings_below-count, left_siblings-all, left_siblings-split, parents-of-leaf}
use Rattle.tree.proofs.Parents.{parents-of-inner}

-- every node of the order is of the subtree
inside-top : (h : ℕ) (v u : Node) → u ≡ v → Inside h v u
inside-top h v u e =
    let a : v.level + 0 ≡ v.level = omega arith in
    let b : v.position * 1 + 0 ≡ v.position = omega arith in
    record { depth = 0; across = 0; shallow = omega arith; within = omega arith; is = rw (a, b) e }

inside-left : (h : ℕ) (v u : Node) → Inside h (left_child v) u → Inside (suc h) v u
inside-left h v u s =
    record {
      depth = suc s.depth;
      across = s.across;
      shallow = omega arith;
      within = omega arith;
      is = s.is ∙ left_below v s.depth s.across;
    }

inside-right : (h : ℕ) (v u : Node) → Inside h (right_child v) u → Inside (suc h) v u
inside-right h v u s =
    record {
      depth = suc s.depth;
      across = 2 ^ s.depth + s.across;
      shallow = omega arith;
      within = omega arith;
      is = s.is ∙ right-below v s.depth s.across;
    }

pub order-inside : (h : ℕ) (v u : Node) → among (order_below h v) u ≡ true → Inside h v u
unfolding order_below
order-inside zero v u e = inside-top 0 v u (among_one v u e)
order-inside (suc h) v u e =
    parts (order-inside h (left_child v) u) (order-inside h (right_child v) u)
    (either _ _ (rw among-append at e))
  where
    children :
        (among (order_below h (left_child v)) u ≡ true → Inside h (left_child v) u)
        → (among (order_below h (right_child v)) u ≡ true → Inside h (right_child v) u)
        → (among (order_below h (left_child v)) u ≡ true) ⊎ (among (order_below h (right_child v)) u ≡ true)
        → Inside (suc h) v u
    children l r (inl a) = inside-left h v u (l a)
    children l r (inr a) = inside-right h v u (r a)

    parts :
        (among (order_below h (left_child v)) u ≡ true → Inside h (left_child v) u)
        → (among (order_below h (right_child v)) u ≡ true → Inside h (right_child v) u)
        → (among (order_below h (left_child v) ++ order_below h (right_child v)) u ≡ true) ⊎ (among (v ∷ []) u ≡ true)
        → Inside (suc h) v u
    parts l r (inl a) = children l r (either _ _ (rw among-append at a))
    parts l r (inr a) = inside-top (suc h) v u (among_one v u a)

pub order-not-higher : (h : ℕ) (v u : Node) → u.level < v.level → among (order_below h v) u ≡ false
order-not-higher h v u higher =
    false-if-not _ (λ e.
    let s : Inside h v u = order-inside h v u e in
    omega (arith, ap (λ (w : Node). w.level) s.is))

-- the node above one of the right subtree is none of the left
apart : (h : ℕ) (v : Node) (i q : ℕ) → q < 2 ^ i → Inside h (left_child v) (below (right_child v) i q) → ⊥
apart h v i q within s =
    let e : s.depth ≡ i = omega (arith, ap (λ (w : Node). w.level) s.is) in
    omega (
      arith,
      rw e at (ap (λ (w : Node). w.position) s.is),
      rw e at s.within,
      add-mul (2 * v.position) 1 (2 ^ i),
      one-mul (2 ^ i),
    )

above-apart-placed :
    (h : ℕ) (v : Node) (i q : ℕ) → q < 2 ^ i → Inside h (left_child v) (above (below (right_child v) i q)) → ⊥
above-apart-placed h v zero q within s = omega (arith, ap (λ (w : Node). w.level) s.is)
above-apart-placed h v (suc i) q within s =
    apart h v i (q / 2) (omega arith) (rw (above-below (right_child v) i q) at s)

above_apart :
    (h : ℕ) (v u : Node) → among (order_below h (right_child v)) u ≡ true → among (order_below h (left_child v)) (above u) ≡ false
above_apart h v u e =
    let s : Inside h (right_child v) u = order-inside h (right_child v) u e in
    rw s.is
    (false-if-not _ (λ f. above-apart-placed h v s.depth s.across s.within (order-inside h (left_child v) _ f)))

-- the top of a subtree is held, the root too, while nothing above it is labelled
top-held :
    (labelled : List Node) (v : Node) → ((u : Node) → u.level < v.level → among labelled u ≡ false)
    → is_held labelled v ≡ true
top-held labelled v none = go (eqb v.level 0) refl
  where
    go : (t : Bool) → eqb v.level 0 ≡ t → pick t true (not (among labelled (above v))) ≡ true
    go true e = refl
    go false e =
        let a : 1 ≤ v.level = ge-one v.level (eqb-false v.level 0 e) in
        rw (none (above v) (omega arith))
      where
        ge-one : (l : ℕ) → (l ≡ 0 → ⊥) → 1 ≤ l
        ge-one l z = omega arith

-- of a whole subtree only its top can be held
above-left : (v : Node) → above (left_child v) ≡ v
above-left v =
    let a : v.level + 1 - 1 ≡ v.level = omega arith in
    let b : 2 * v.position / 2 ≡ v.position = omega arith in
    rw (a, b)

above-right : (v : Node) → above (right_child v) ≡ v
above-right v =
    let a : v.level + 1 - 1 ≡ v.level = omega arith in
    let b : (2 * v.position + 1) / 2 ≡ v.position = omega arith in
    rw (a, b)

-- a node that has one above is held while that one is not labelled
held-by-above :
    (labelled : List Node) (u w : Node) → 1 ≤ u.level → above u ≡ w → is_held labelled u ≡ not (among labelled w)
held-by-above labelled u w lower e = rw (ne_eqb u.level 0 (λ z. omega arith), e)

held-left-child : (labelled : List Node) (v : Node) (t : Bool) → among labelled v ≡ t → is_held labelled (left_child v) ≡ not t
held-left-child labelled v t e = held-by-above labelled (left_child v) v (omega arith) (above-left v) ∙ ap not e

held-right-child : (labelled : List Node) (v : Node) (t : Bool) → among labelled v ≡ t → is_held labelled (right_child v) ≡ not t
held-right-child labelled v t e = held-by-above labelled (right_child v) v (omega arith) (above-right v) ∙ ap not e

passing-whole :
    (labelled : List Node) (h : ℕ) (v : Node)
    → ((u : Node) → among (order_below h v) u ≡ true → among labelled u ≡ true)
    → passing (is_held labelled) (order_below h v) ≡ pick (is_held labelled v) (v ∷ []) []
unfolding order_below passing
passing-whole labelled zero v all = refl
passing-whole labelled (suc h) v all =
    let a : List Node = order_below h (left_child v) in
    let b : List Node = order_below h (right_child v) in
    let self : among labelled v ≡ true = all v (among-right (a ++ b) (v ∷ []) v (among-here v [])) in
    let lefts : passing (is_held labelled) a ≡ [] =
    passing-whole labelled h (left_child v) (λ u e. all u (among-left (a ++ b) (v ∷ []) u (among-left a b u e)))
    ∙ ap (λ t. pick t (left_child v ∷ []) []) (held-left-child labelled v true self) in
    let rights : passing (is_held labelled) b ≡ [] =
    passing-whole labelled h (right_child v) (λ u e. all u (among-left (a ++ b) (v ∷ []) u (among-right a b u e)))
    ∙ ap (λ t. pick t (right_child v ∷ []) []) (held-right-child labelled v true self) in
    passing-append (is_held labelled) (a ++ b) (v ∷ [])
    ∙ ap (λ xs. xs ++ passing (is_held labelled) (v ∷ []))
    (passing-append (is_held labelled) a b ∙ ap₂ (λ xs ys. xs ++ ys) lefts rights)

-- the held nodes by recursion on the height
module _ (h : ℕ) (v : Node) where
  pub held-left : (k : ℕ) → k ≤ nodes_in h → held_below (suc h) v k ≡ held_below h (left_child v) k
  unfolding held_below order_below
  held-left k small =
      let a : k ≤ length (order_below h (left_child v)) = omega (arith, order-length h (left_child v)) in
      rw (append_assoc, take-append-le)

  take-right :
      (k : ℕ) → k ≤ nodes_in h
      → take (nodes_in h + k) (order_below (suc h) v) ≡ order_below h (left_child v) ++ take k (order_below h (right_child v))
  unfolding order_below
  take-right k small =
      let a : k ≤ length (order_below h (right_child v)) = omega (arith, order-length h (right_child v)) in
      rw (append_assoc, ← order-length h (left_child v), take-append-add, take-append-le)

  not-above :
      (k : ℕ) → among (order_below h (left_child v) ++ take k (order_below h (right_child v))) v ≡ false
  not-above k =
      false-if-not _ (λ e. go (either _ _ (rw among-append at e)))
    where
      go :
          (among (order_below h (left_child v)) v ≡ true) ⊎ (among (take k (order_below h (right_child v))) v ≡ true) → ⊥
      go (inl a) = true-not-false a (order-not-higher h (left_child v) v (omega arith))
      go (inr a) = true-not-false (among-take k _ v a) (order-not-higher h (right_child v) v (omega arith))

  -- the left subtree does not change what is held of the right
  held-apart :
      (k : ℕ) (u : Node) → among (take k (order_below h (right_child v))) u ≡ true
      → is_held (order_below h (left_child v) ++ take k (order_below h (right_child v))) u
      ≡ is_held (take k (order_below h (right_child v))) u
  held-apart k u e = rw (among-append, above_apart h v u (among-take k _ u e))

  pub held-right :
      (k : ℕ) → k ≤ nodes_in h → held_below (suc h) v (nodes_in h + k) ≡ left_child v ∷ held_below h (right_child v) k
  unfolding held_below
  held-right k small =
      rw (take-right k small)
      (passing-append _ (order_below h (left_child v)) (take k (order_below h (right_child v)))
      ∙ ap₂ (λ xs ys. xs ++ ys)
      (passing-whole _ h (left_child v) (λ u e. among-left _ (take k (order_below h (right_child v))) u e)
      ∙ ap (λ t. pick t (left_child v ∷ []) []) (held-left-child _ v false (not-above k)))
      (passing-same _ _ (take k (order_below h (right_child v))) (held-apart k)))

-- after the whole subtree its top alone
pub held_all : (h : ℕ) (v : Node) → held_below h v (nodes_in h) ≡ v ∷ []
unfolding held_below
held_all h v =
    rw (← order-length h v, take-length)
    (passing-whole (order_below h v) h v (λ u e. e)
    ∙ ap (λ t. pick t (v ∷ []) []) (top-held (order_below h v) v (order-not-higher h v)))

-- the left siblings below v of a node in the left subtree, and in the right
siblings-from : (l i p : ℕ) → left_siblings_below l (suc i) p ≡ left_siblings_below l 1 (p / 2 ^ i) ++ left_siblings_below (l + 1) i p
siblings-from l i p = rw (← one-add i) (left_siblings_below-split l 1 i p)

siblings-left :
    (l i p r : ℕ) → p / 2 ^ i ≡ 2 * r → left_siblings_below l (suc i) p ≡ left_siblings_below (l + 1) i p
unfolding left_siblings_below
siblings-left l i p r e = rw (siblings-from l i p, e, ne_eqb (2 * r % 2) 1 (λ z. omega arith))

siblings-right :
    (l i p r : ℕ) → p / 2 ^ i ≡ 2 * r + 1
    → left_siblings_below l (suc i) p ≡ node (l + 1) (2 * r) ∷ left_siblings_below (l + 1) i p
unfolding left_siblings_below
siblings-right l i p r e =
    let a : 2 * r + 1 - 1 ≡ 2 * r = omega arith in
    rw (siblings-from l i p, e, eq-eqb ((2 * r + 1) % 2) 1 (omega arith), a)

-- What is held at place k, or right after it, is the left siblings on the way of the node w there, then `rest`; which
-- rest, the subtree at w decides.
module _
    (j : ℕ) (w : Node) (x : ℕ) (rest : List Node) (small : x ≤ 1)
    (base : (m : ℕ) → m + 1 ≡ nodes_in j → held_below j w (m + x) ≡ rest)
  where
    way-side :
        (i : ℕ) (v : Node) (q k : ℕ)
        → ((u : Node) (r m : ℕ) → r < 2 ^ i → AtPlace j r m → w ≡ below u i r
        → held_below (j + i) u (m + x) ≡ left_siblings_below u.level i w.position ++ rest)
        → AtPlace j q k → w ≡ below v (suc i) q → Side i q
        → held_below (j + suc i) v (k + x) ≡ left_siblings_below v.level (suc i) w.position ++ rest
    way-side i v q k ih at e (toLeft a) =
        let f : w ≡ below (left_child v) i q = e ∙ sym (left_below v i q) in
        let g : w.position / 2 ^ i ≡ 2 * v.position = rw f (high (2 * v.position) i a) in
        rw (add-suc j i, siblings-left v.level i w.position v.position g)
        (held-left (j + i) v (k + x) (omega (arith, place-small i j q k a at)) ∙ ih (left_child v) q k a at f)
    way-side i v q k ih at e (toRight r a s) =
        let f : w ≡ below (right_child v) i r = (rw s at e) ∙ sym (right-below v i r) in
        let g : w.position / 2 ^ i ≡ 2 * v.position + 1 = rw f (high (2 * v.position + 1) i a) in
        let (m, t, at') = place-right i j r k a (rw s at at) in
        let c : k + x ≡ nodes_in (j + i) + (m + x) = omega arith in
        rw (add-suc j i, siblings-right v.level i w.position v.position g, c)
        (held-right (j + i) v (m + x) (omega (arith, place-small i j r m a at'))
        ∙ ap (λ us. left_child v ∷ us) (ih (right_child v) r m a at' f))

    held-way :
        (i : ℕ) (v : Node) (q k : ℕ) → q < 2 ^ i → AtPlace j q k → w ≡ below v i q
        → held_below (j + i) v (k + x) ≡ left_siblings_below v.level i w.position ++ rest
    unfolding left_siblings_below
    held-way zero v q k within at e =
        let z : q ≡ 0 = omega arith in
        let a : v.level + 0 ≡ v.level = omega arith in
        let b : v.position * 1 + 0 ≡ v.position = omega arith in
        let f : w ≡ v = rw (z, a, b) at e in
        rw (add-zero j, ← f) (base k (place-top j k (rw z at at)))
    held-way (suc i) v q k within at e = way-side i v q k (held-way i) at e (side_of i q within)

pub held_start : (h : ℕ) (v : Node) → held_below h v 0 ≡ []
unfolding held_below passing
held_start h v = refl

-- before a node of height 0 nothing of its own is held; before another its children are; after it, itself
held-before-top :
    (j : ℕ) (w : Node) (m : ℕ) → m + 1 ≡ nodes_in j
    → held_below j w (m + 0) ≡ pick (ltb 0 j) (left_child w ∷ right_child w ∷ []) []
held-before-top zero w m e =
    let z : m + 0 ≡ 0 = omega (arith, nodes_in-suc 0) in
    rw z (held_start 0 w)
held-before-top (suc j) w m e =
    let s : m + 0 ≡ nodes_in j + nodes_in j = omega (arith, nodes_in-step j) in
    rw (s, lt-ltb 0 (suc j) (omega arith), held-right j w (nodes_in j) (omega arith), held_all j (right_child w))

held-after-top : (j : ℕ) (w : Node) (m : ℕ) → m + 1 ≡ nodes_in j → held_below j w (m + 1) ≡ w ∷ []
held-after-top j w m e = rw e (held_all j w)

-- A node w at place k of the subtree of height h at v, i levels below v and of height j.
module _
    (h k : ℕ) (v w : Node) (i j : ℕ) (deep : v.level + i ≡ w.level) (fits : j + i ≡ h) (small : k < nodes_in h)
    (here : get_or (order_below h v) k root ≡ w)
  where
    held-placed :
        (x : ℕ) (rest : List Node) → x ≤ 1 → ((m : ℕ) → m + 1 ≡ nodes_in j → held_below j w (m + x) ≡ rest)
        → held_below h v (k + x) ≡ left_siblings_below v.level i w.position ++ rest
    held-placed x rest one base =
        let pl : Place h k = place_of h k small in
        let e : w ≡ below v pl.depth pl.across = sym here ∙ order-placed v pl in
        let f : pl.depth ≡ i = omega (arith, ap (λ (u : Node). u.level) e) in
        let g : pl.height ≡ j = omega arith in
        rw (← fits)
        (held-way j w x rest one base i v pl.across k (rw f at pl.inside) (rw g at pl.at) (rw f at e))

    -- what is held when w comes next
    pub held_below-before :
        held_below h v k
        ≡ left_siblings_below v.level i w.position ++ pick (ltb 0 j) (left_child w ∷ right_child w ∷ []) []
    held_below-before =
        rw (add-zero k) at (held-placed 0 (pick (ltb 0 j) (left_child w ∷ right_child w ∷ []) []) (omega arith) (held-before-top j w))

    -- and when w is labelled
    pub held_below-after : held_below h v (k + 1) ≡ left_siblings_below v.level i w.position ++ w ∷ []
    held_below-after = held-placed 1 (w ∷ []) (omega arith) (held-after-top j w)

    pub held_below-count : length (held_below h v k) ≡ ones (w.position % 2 ^ i) + pick (ltb 0 j) 2 0
    held_below-count =
        rw (held_below-before, length-append, left_siblings_below-count v.level i w.position)
        (ap (λ c. ones (w.position % 2 ^ i) + c) (go (ltb 0 j)))
      where
        go : (t : Bool) → length (pick t (left_child w ∷ right_child w ∷ []) []) ≡ pick t 2 0
        go true = refl
        go false = refl

few : (h k : ℕ) (v : Node) (s : Inside h v (get_or (order_below h v) k root)) → k < nodes_in h → length (held_below h v k) ≤ h + 1
few h k v s small =
    let d : ℕ = s.depth in
    let w : Node = get_or (order_below h v) k root in
    let c : length (held_below h v k) ≡ ones (w.position % 2 ^ d) + pick (ltb 0 (h - d)) 2 0 =
    held_below-count h k v w d (h - d) (sym (inside-level s)) (omega arith) small refl in
    go (ltb 0 (h - d)) refl (ones-le d (w.position % 2 ^ d) (mod-lt w.position (pow_pos d))) c
  where
    go :
        (t : Bool) {c : ℕ} → ltb 0 (h - s.depth) ≡ t → c ≤ s.depth → length (held_below h v k) ≡ c + pick t 2 0
        → length (held_below h v k) ≤ h + 1
    go true e a b = omega (arith, ltb-true 0 (h - s.depth) e)
    go false e a b = omega arith

-- at most one more than the height
pub held_below-few : (h k : ℕ) (v : Node) → k ≤ nodes_in h → length (held_below h v k) ≤ h + 1
held_below-few h k v small = go (ltb k (nodes_in h)) refl
  where
    go : (t : Bool) → ltb k (nodes_in h) ≡ t → length (held_below h v k) ≤ h + 1
    go true e =
        let a : k < nodes_in h = ltb-true k (nodes_in h) e in
        few h k v (order-at h v k a) a
    go false e =
        let a : k ≡ nodes_in h = omega (arith, ltb-false k (nodes_in h) e) in
        rw (a, held_all h v) (omega arith)

-- The parents of the next node w, in a tree of depth n: a leaf's are the left siblings above v and all that is held, an
-- inner node's the last two held.
module _
    (n h k : ℕ) (v w : Node) (deep : v.level + h ≡ n) (small : k < nodes_in h)
    (here : get_or (order_below h v) k root ≡ w)
  where
    pub leaf-parents : w.level ≡ n → parents n w ≡ left_siblings v.level v.position ++ held_below h v k
    leaf-parents leaf =
        let s : Inside h v w = rw here at (order-at h v k small) in
        let e : s.depth ≡ h = omega (arith, inside-level s) in
        let f : held_below h v k ≡ left_siblings_below v.level h w.position ++ [] =
        held_below-before h k v w h 0 (omega arith) (omega arith) small here in
        let g : w.position / 2 ^ h ≡ v.position = rw e at (inside-way s) in
        rw (parents-of-leaf n w leaf, ← deep, left_siblings-split v.level h w.position, g, f, append-nil)

    pub inner-parents :
        w.level < n → held_below h v k ≡ left_siblings_below v.level (w.level - v.level) w.position ++ parents n w
    inner-parents inner =
        let s : Inside h v w = rw here at (order-at h v k small) in
        let a : v.level + (w.level - v.level) ≡ w.level = omega (arith, inside-level s) in
        rw (parents-of-inner n w inner)
        (held_below-before h k v w (w.level - v.level) (n - w.level) a (omega arith) small here
        ∙ rw (lt-ltb 0 (n - w.level) (omega arith)))

-- A run of depth n.
more-below : (n l : ℕ) → ltb 0 (n - l) ≡ ltb l n
more-below n l = go (ltb l n) refl
  where
    go : (t : Bool) → ltb l n ≡ t → ltb 0 (n - l) ≡ t
    go true e = lt-ltb 0 (n - l) (omega (arith, ltb-true l n e))
    go false e = le-ltb 0 (n - l) (omega (arith, ltb-false l n e))

module _ (n k : ℕ) (w : Node) (small : k < nodes_in n) (here : get_or (labelling_order n) k root ≡ w) where
  pub held-before :
      held n k
      ≡ left_siblings w.level w.position ++ pick (ltb w.level n) (left_child w ∷ right_child w ∷ []) []
  unfolding labelling_order
  held-before =
      let in_tree : InTree n w = rw here at (tree-at n k small) in
      rw (left_siblings-all w.level w.position, ← more-below n w.level)
      (held_below-before n k root w w.level (n - w.level) (omega arith) (omega arith) small here)

  pub held_after : held n (k + 1) ≡ left_siblings w.level w.position ++ w ∷ []
  unfolding labelling_order
  held_after =
      let in_tree : InTree n w = rw here at (tree-at n k small) in
      rw (left_siblings-all w.level w.position)
      (held_below-after n k root w w.level (n - w.level) (omega arith) (omega arith) small here)

  pub held-count : length (held n k) ≡ ones w.position + pick (ltb w.level n) 2 0
  unfolding labelling_order
  held-count =
      let in_tree : InTree n w = rw here at (tree-at n k small) in
      rw (← more-below n w.level, ← mod-eq_of_lt in_tree.1)
      (held_below-count n k root w w.level (n - w.level) (omega arith) (omega arith) small here)

pub held-done : (n : ℕ) → held n (nodes_in n) ≡ root ∷ []
held-done n = held_all n root

pub held-few : (n k : ℕ) → k ≤ nodes_in n → length (held n k) ≤ n + 1
held-few n k small = held_below-few n k root small
