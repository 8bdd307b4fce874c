-- Which nodes an opening copies and labels anew: all of its own are among them, and each is on one of levels 1 to n.
use mathlib.Core.Path.{◌≡◌, refl, sym, ap, ◌∙◌}
use mathlib.Core.Logic.{◌⊎◌, inl, inr}
use Prim.Native.Nat.{ℕ, zero, suc, ◌+◌, ◌-◌, ◌/◌, ◌%◌, ◌^◌, ◌≤◌, ◌<◌}
use native.Mathlib.Nat.{mod-lt}
use native.Mathlib.Numerals.{add-one}
use native.Mathlib.Omega.{arith}
use mathlib.Core.Bool.{Bool, true, false}
use mathlib.Core.List.{List, [], ◌∷◌, ◌++◌}
use lib.Dec.{ltb, eqb}
use lib.ListN.{length, get_or, take, length-append}
use lib.Seq.{take_at, take-take}
use lib.Pow.{pow_pos, shr_lt, shr-shr, split}
use borrow.Author.Tests.{ltb-true, ltb-false, eqb-false}
use Rattle.base.specs.Choice.{pick, odd}
use Rattle.base.proofs.ChoiceLaws.{odd-true, odd-false}
use Rattle.tree.specs.Nodes.{Node, node, root, left_child, right_child, order_below}
use Rattle.tree.specs.Held.{among}
use Rattle.tree.specs.Walk.{nodes_in}
use Rattle.tree.specs.Openings.{sibling}
use Rattle.tree.proofs.Among.{either, among-append, among_one, among-here, among-nil, among_there, among-left, among-right, among-take}
use Rattle.tree.proofs.Order.{Inside, inside-level, nodes_in-suc, nodes_in-step, order-length, order-last, order-has}
use Rattle.tree.proofs.HeldLaws.{order-inside}
use Rattle.tree.proofs.OpeningLaws.{halved-first}
use Rattle.opening.specs.Rows.{nodes_anew}
use Rattle.opening_places.specs.Places.{ancestor, beside}
use Rattle.run_theory.specs.Openings.{opening_node, besides, copied_nodes, anew_nodes}
use Rattle.run_theory.proofs.Places.{Within}

-- all nodes of the subtree but its top
pub anew-count : (n m : ℕ) → nodes_anew n m + 1 ≡ nodes_in (n - m)
unfolding nodes_in
anew-count n m = rw (add-one (n - m)) (omega (arith, pow_pos (n - m)))

-- ---- positions
pub way-inside : (n leaf l : ℕ) → leaf < 2 ^ n → l ≤ n → leaf / 2 ^ (n - l) < 2 ^ l
way-inside n leaf l inside le =
    let e : n ≡ l + (n - l) = omega arith in
    shr_lt l (n - l) (rw e at inside)

sibling-half : (q : ℕ) → sibling q / 2 ≡ q / 2
sibling-half q = go (odd q) refl
  where
    go : (t : Bool) → odd q ≡ t → sibling q / 2 ≡ q / 2
    go true o = rw o (omega (arith, odd-true q o))
    go false o = rw o (omega (arith, odd-false q o))

pub beside-inside : (n leaf l : ℕ) → leaf < 2 ^ n → suc l ≤ n → sibling (leaf / 2 ^ (n - suc l)) < 2 ^ suc l
beside-inside n leaf l inside le =
    omega (arith, sibling-half (leaf / 2 ^ (n - suc l)), way-inside n leaf (suc l) inside le)

-- a node whose way passes (m, p), so many levels above
way_in : (h m p l q d : ℕ) → m + d ≡ l → d ≤ h → q / 2 ^ d ≡ p → Inside h (node m p) (node l q)
way_in h m p l q d level shallow passes =
    record {
      depth = d;
      across = q % 2 ^ d;
      shallow = shallow;
      within = mod-lt q (pow_pos d);
      is = rw (← level, ← passes, split q d);
    }

sibling-in :
    (n m leaf h d : ℕ) → m + suc d ≡ n - h → h < n → m ≤ n
    → Inside (n - m) (ancestor n leaf m) (node (n - h) (sibling (leaf / 2 ^ h)))
sibling-in n m leaf h d level low le =
    let e : h + suc d ≡ n - m = omega arith in
    let passes : sibling (leaf / 2 ^ h) / 2 ^ suc d ≡ leaf / 2 ^ (n - m) =
    sym (halved-first (sibling (leaf / 2 ^ h)) d)
    ∙ ap (λ x. x / 2 ^ d) (sibling-half (leaf / 2 ^ h))
    ∙ halved-first (leaf / 2 ^ h) d
    ∙ shr-shr leaf h (suc d)
    ∙ ap (λ x. leaf / 2 ^ x) e in
    way_in (n - m) m (leaf / 2 ^ (n - m)) (n - h) (sibling (leaf / 2 ^ h)) (suc d) level (omega arith) passes

-- ---- copied
module _ (n leaf : ℕ) where
  besides-level : (l : ℕ) (u : Node) → among (besides n leaf l) u ≡ true → (1 ≤ u.level) × (u.level ≤ l)
  unfolding besides
  besides-level zero u a = absurd (among-nil u a)
  besides-level (suc l) u a = go (besides-level l u) (either _ _ (rw among-append at a))
    where
      go :
          (among (besides n leaf l) u ≡ true → (1 ≤ u.level) × (u.level ≤ l))
          → (among (besides n leaf l) u ≡ true) ⊎ (among (beside n leaf (suc l) ∷ []) u ≡ true)
          → (1 ≤ u.level) × (u.level ≤ suc l)
      go before (inl b) = let c : (1 ≤ u.level) × (u.level ≤ l) = before b in (c.0, omega arith)
      go before (inr b) = rw (among_one (beside n leaf (suc l)) u b) (omega arith)

  besides-has : (l j : ℕ) → j < l → among (besides n leaf l) (beside n leaf (suc j)) ≡ true
  unfolding besides
  besides-has zero j small = absurd (omega arith)
  besides-has (suc l) j small = go (ltb j l) refl (besides-has l j)
    where
      go :
          (t : Bool) → ltb j l ≡ t → (j < l → among (besides n leaf l) (beside n leaf (suc j)) ≡ true)
          → among (besides n leaf l ++ beside n leaf (suc l) ∷ []) (beside n leaf (suc j)) ≡ true
      go true e before =
          among-left (besides n leaf l) (beside n leaf (suc l) ∷ []) (beside n leaf (suc j)) (before (ltb-true j l e))
      go false e before =
          let same : j ≡ l = omega (arith, ltb-false j l e) in
          rw same
          (among-right (besides n leaf l) (beside n leaf (suc l) ∷ []) (beside n leaf (suc l)) (among-here (beside n leaf (suc l)) []))

-- ---- labelled anew
among-at : (xs : List Node) (k i : ℕ) → i < k → i < length xs → among (take k xs) (get_or xs i root) ≡ true
among-at [] k i a b = absurd (omega arith)
among-at (x ∷ xs) zero i a b = absurd (omega arith)
among-at (x ∷ xs) (suc k) zero a b = among-here x (take k xs)
among-at (x ∷ xs) (suc k) (suc i) a b =
    among_there x (take k xs) (get_or xs i root) (among-at xs k i (omega arith) (omega arith))

order-anew :
    (h : ℕ) (v : Node)
    → take (nodes_in h + nodes_in h) (order_below (suc h) v) ≡ order_below h (left_child v) ++ order_below h (right_child v)
unfolding order_below
order-anew h v =
    take_at (order_below h (left_child v) ++ order_below h (right_child v)) (v ∷ []) (nodes_in h + nodes_in h)
    (rw (length-append, order-length h (left_child v), order-length h (right_child v)))

anew-below : (h : ℕ) (v u : Node) (k : ℕ) → k < nodes_in h → among (take k (order_below h v)) u ≡ true → v.level < u.level
anew-below zero v u k small a =
    let z : k ≡ 0 = omega (arith, nodes_in-suc 0) in
    absurd (among-nil u (rw z at a))
anew-below (suc h) v u k small a =
    go (either _ _ (rw (order-anew h v, among-append) at
    (among-take k (take (nodes_in h + nodes_in h) (order_below (suc h) v)) u
    (rw (take-take k (nodes_in h + nodes_in h) (order_below (suc h) v) (omega (arith, nodes_in-step h))) a))))
  where
    go :
        (among (order_below h (left_child v)) u ≡ true) ⊎ (among (order_below h (right_child v)) u ≡ true)
        → v.level < u.level
    go (inl b) = omega (arith, inside-level (order-inside h (left_child v) u b))
    go (inr b) = omega (arith, inside-level (order-inside h (right_child v) u b))

anew-has :
    (h : ℕ) (v u : Node) (k : ℕ) → Inside h v u → v.level < u.level → k + 1 ≡ nodes_in h
    → among (take k (order_below h v)) u ≡ true
anew-has h v u k s lower last =
    let (i, small, e) = order-has h v u s in
    let differ : i ≡ k → ⊥ =
    λ same. let f : u ≡ v = sym e ∙ rw same (order-last h v k last) in
    omega (arith, ap (λ (w : Node). w.level) f) in
    rw (← e) (among-at (order_below h v) k i (omega arith) (omega (arith, order-length h v)))

-- ---- both
module _ (n m leaf : ℕ) (deep : 1 ≤ n) (le : m ≤ n) where
  copied-level : (u : Node) → among (copied_nodes n m leaf) u ≡ true → (1 ≤ u.level) × (u.level ≤ n)
  unfolding copied_nodes
  copied-level u a = go (either _ _ (rw among-append at a))
    where
      last : (t : Bool) → among (pick t (node n leaf ∷ []) []) u ≡ true → (1 ≤ u.level) × (u.level ≤ n)
      last true b = rw (among_one (node n leaf) u b) (deep, omega arith)
      last false b = absurd (among-nil u b)

      go :
          (among (besides n leaf m) u ≡ true) ⊎ (among (pick (eqb m n) (node n leaf ∷ []) []) u ≡ true)
          → (1 ≤ u.level) × (u.level ≤ n)
      go (inl b) = let c : (1 ≤ u.level) × (u.level ≤ m) = besides-level n leaf m u b in (c.0, omega arith)
      go (inr b) = last (eqb m n) b

  anew-level : (k : ℕ) → k ≤ nodes_anew n m → (u : Node) → among (anew_nodes n m leaf k) u ≡ true → (1 ≤ u.level) × (u.level ≤ n)
  unfolding anew_nodes
  anew-level k small u a =
      let v : Node = ancestor n leaf m in
      let s : Inside (n - m) v u = order-inside (n - m) v u (among-take k (order_below (n - m) v) u a) in
      let e : u.level ≡ m + s.depth = inside-level s in
      let b : m < u.level = anew-below (n - m) v u k (omega (arith, anew-count n m)) a in
      (omega arith, omega (arith, s.shallow))

  pub opening-within : (k : ℕ) → k ≤ nodes_anew n m → Within n (copied_nodes n m leaf ++ anew_nodes n m leaf k)
  opening-within k small u a = go (either _ _ (rw among-append at a))
    where
      go :
          (among (copied_nodes n m leaf) u ≡ true) ⊎ (among (anew_nodes n m leaf k) u ≡ true)
          → (1 ≤ u.level) × (u.level ≤ n)
      go (inl b) = copied-level u b
      go (inr b) = anew-level k small u b

  below-made :
      (u : Node) → Inside (n - m) (ancestor n leaf m) u → m < u.level
      → among (copied_nodes n m leaf ++ anew_nodes n m leaf (nodes_anew n m)) u ≡ true
  unfolding anew_nodes
  below-made u s lower =
      among-right (copied_nodes n m leaf) (anew_nodes n m leaf (nodes_anew n m)) u
      (anew-has (n - m) (ancestor n leaf m) u (nodes_anew n m) s lower (anew-count n m))

  leaf-made : (t : Bool) → eqb m n ≡ t → among (copied_nodes n m leaf ++ anew_nodes n m leaf (nodes_anew n m)) (node n leaf) ≡ true
  unfolding copied_nodes
  leaf-made true e =
      among-left (copied_nodes n m leaf) (anew_nodes n m leaf (nodes_anew n m)) (node n leaf)
      (rw e (among-right (besides n leaf m) (node n leaf ∷ []) (node n leaf) (among-here (node n leaf) [])))
  leaf-made false e =
      let lower : m < n = omega (arith, eqb-false m n e) in
      below-made (node n leaf) (way_in (n - m) m (leaf / 2 ^ (n - m)) n leaf (n - m) (omega arith) (omega arith) refl) lower

  sibling-made :
      (h : ℕ) → h < n → (t : Bool) → ltb m (n - h) ≡ t
      → among (copied_nodes n m leaf ++ anew_nodes n m leaf (nodes_anew n m)) (node (n - h) (sibling (leaf / 2 ^ h))) ≡ true
  unfolding copied_nodes
  sibling-made h small true e =
      let lower : m < n - h = ltb-true m (n - h) e in
      below-made (node (n - h) (sibling (leaf / 2 ^ h))) (sibling-in n m leaf h (n - h - suc m) (omega arith) small le) lower
  sibling-made h small false e =
      let upper : n - h ≤ m = ltb-false m (n - h) e in
      let j : ℕ = n - suc h in
      let level : n - h ≡ suc j = omega arith in
      let height : n - suc j ≡ h = omega arith in
      let has : among (besides n leaf m) (node (suc j) (sibling (leaf / 2 ^ h))) ≡ true =
      rw height at (besides-has n leaf m j (omega arith)) in
      rw level
      (among-left (copied_nodes n m leaf) (anew_nodes n m leaf (nodes_anew n m)) (node (suc j) (sibling (leaf / 2 ^ h)))
      (among-left (besides n leaf m) (pick (eqb m n) (node n leaf ∷ []) []) (node (suc j) (sibling (leaf / 2 ^ h))) has))

  -- every node of the opening is copied or labelled anew
  pub opening-made :
      (i : ℕ) → i ≤ n → among (copied_nodes n m leaf ++ anew_nodes n m leaf (nodes_anew n m)) (opening_node n leaf i) ≡ true
  unfolding opening_node
  opening-made zero small = leaf-made (eqb m n) refl
  opening-made (suc h) small = sibling-made h small (ltb m (n - h)) refl
