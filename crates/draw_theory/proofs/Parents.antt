-- Whoever passes a node passes the node above each of its parents; so two openings that agree know the same label of a parent.
use mathlib.Core.Path.{◌≡◌, refl, sym, ap, ◌∙◌}
use mathlib.Core.Logic.{◌⊎◌, inl, inr, ⊎_elim}
use Prim.Native.Nat.{ℕ, suc, ◌+◌, ◌-◌, ◌*◌, ◌/◌, ◌%◌, ◌^◌, ◌≤◌, ◌<◌}
use native.Mathlib.Nat.{div-one}
use native.Mathlib.Omega.{arith}
use mathlib.Core.Bool.{Bool, true, false}
use mathlib.Core.List.{List, [], ◌∷◌, map}
use lib.Dec.{ltb}
use lib.ListN.{length}
use borrow.Author.Tests.{ltb-true, ltb-false, eq-eqb}
use Rattle.base.specs.Choice.{odd}
use Rattle.base.specs.Lists.{EachOf}
use Rattle.base.proofs.ChoiceLaws.{odd-true, odd-false}
use Rattle.tree.specs.Nodes.{Node, left_child, right_child, on_way, parents}
use Rattle.tree.specs.Labels.{Label, Rule}
use Rattle.tree.specs.Rules.{Hash32}
use Rattle.tree.specs.Held.{among}
use Rattle.tree.specs.Openings.{Given, known, Right}
use Rattle.tree.specs.Disagreement.{Given32, disagree_at}
use Rattle.tree.proofs.Among.{same_node-true, either, among_one, among-here, among_there}
use Rattle.tree.proofs.Labelling.{parents-inner, parents-leaf}
use Rattle.tree.proofs.Parents.{LeftSibling, left_siblings-on_way}
use Rattle.tree.proofs.OpeningLaws.{halved, way-position, way-level, known-hash}
use Rattle.tree.proofs.Clash.{agree_left, agree_right}

-- a child of a node on the leaf's way: an opening of the leaf knows its label
pub record WayChild (n leaf : ℕ) (u : Node) : Type 0 where
  pub up : ℕ
  pub level : u.level ≡ up + 1
  pub inner : up < n
  pub position : u.position / 2 ≡ leaf / 2 ^ (n - up)

two-among : (v w u : Node) → among (v ∷ w ∷ []) u ≡ true → (u ≡ v) ⊎ (u ≡ w)
unfolding among
two-among v w u e =
    ⊎_elim (λ first. inl (same_node-true u v first)) (λ rest. inr (among_one w u rest)) (either _ (among (w ∷ []) u) e)

inner-way-child :
    (n leaf : ℕ) (v u : Node) → v.level < n → v.position ≡ leaf / 2 ^ (n - v.level) → (u ≡ left_child v) ⊎ (u ≡ right_child v)
    → WayChild n leaf u
inner-way-child n leaf v u h p (inl e) =
    record {
      up = v.level;
      level = ap (λ (w : Node). w.level) e;
      inner = h;
      position = let q : u.position ≡ 2 * v.position = ap (λ (w : Node). w.position) e in rw (← p) (omega arith);
    }
inner-way-child n leaf v u h p (inr e) =
    record {
      up = v.level;
      level = ap (λ (w : Node). w.level) e;
      inner = h;
      position = let q : u.position ≡ 2 * v.position + 1 = ap (λ (w : Node). w.position) e in rw (← p) (omega arith);
    }

sibling-way-child : (n leaf : ℕ) (u : Node) → LeftSibling n leaf u → WayChild n leaf u
sibling-way-child n leaf u s =
    let height : n - (u.level - 1) ≡ suc s.up = omega (arith, s.fits, s.below_root) in
    record {
      up = u.level - 1;
      level = omega (arith, s.below_root);
      inner = omega (arith, s.fits, s.below_root);
      position = rw (height, halved leaf s.up) (omega (arith, s.beside, s.right));
    }

-- such is each parent of a node on the way
pub parent-way-child : (n leaf : ℕ) (v u : Node) → on_way n leaf v ≡ true → among (parents n v) u ≡ true → WayChild n leaf u
parent-way-child n leaf v u w m = go (ltb v.level n) refl
  where
    go : (b : Bool) → ltb v.level n ≡ b → WayChild n leaf u
    go true t =
        let h : v.level < n = ltb-true v.level n t in
        inner-way-child n leaf v u h (way-position n leaf v w) (two-among (left_child v) (right_child v) u (rw (parents-inner n v h) at m))
    go false t =
        let h : n ≤ v.level = ltb-false v.level n t in
        let le : v.level ≤ n = way-level n leaf v w in
        let same : v.level ≡ n = omega arith in
        let height : n - v.level ≡ 0 = omega arith in
        let here : v.position ≡ leaf = way-position n leaf v w ∙ rw height (div-one leaf) in
        sibling-way-child n leaf u (rw (same, here) at (left_siblings-on_way v.level v.position u (rw (parents-leaf n v h) at m)))

-- and each node on the way but the root
pub on-way-child : (n leaf : ℕ) (u : Node) → on_way n leaf u ≡ true → 1 ≤ u.level → WayChild n leaf u
on-way-child n leaf u w below =
    let le : u.level ≤ n = way-level n leaf u w in
    let height : n - (u.level - 1) ≡ suc (n - u.level) = omega arith in
    record {
      up = u.level - 1;
      level = omega arith;
      inner = omega arith;
      position = rw (height, halved leaf (n - u.level), way-position n leaf u w);
    }

-- ---- two openings that agree at the node above
module _ (r : Rule) (n x : ℕ) (given₁ : Given) (y : ℕ) (given₂ : Given) where
  module _ (l : ℕ) (u : Node) (level : u.level ≡ l + 1) (inner : l < n) (p₁ : u.position / 2 ≡ x / 2 ^ (n - l))
      (p₂ : u.position / 2 ≡ y / 2 ^ (n - l))
      (agree : disagree_at r n x given₁ y given₂ l ≡ false) where
    known-child : (b : Bool) → odd u.position ≡ b → known r n x given₁ u ≡ known r n y given₂ u
    known-child true o =
        let m : u.position % 2 ≡ 1 = odd-true u.position o in
        let right : 2 * (x / 2 ^ (n - l)) + 1 ≡ u.position = omega arith in
        rw (right, ← level) at (agree_right r n x given₁ y given₂ l inner (eq-eqb (x / 2 ^ (n - l)) (y / 2 ^ (n - l)) (sym p₁ ∙ p₂)) agree)
    known-child false o =
        let m : u.position % 2 ≡ 0 = odd-false u.position o in
        let left : 2 * (x / 2 ^ (n - l)) ≡ u.position = omega arith in
        rw (left, ← level) at (agree_left r n x given₁ y given₂ l inner (eq-eqb (x / 2 ^ (n - l)) (y / 2 ^ (n - l)) (sym p₁ ∙ p₂)) agree)

  pub agree-known :
      (u : Node) → WayChild n x u → WayChild n y u → ((l : ℕ) → disagree_at r n x given₁ y given₂ l ≡ false) →
      known r n x given₁ u ≡ known r n y given₂ u
  agree-known u a b agree =
      let same : b.up ≡ a.up = omega (arith, a.level, b.level) in
      known-child a.up u a.level a.inner a.position (rw same at b.position) (agree a.up) (odd u.position) refl

-- ---- the labels that a right opening knows have 32 bytes
module _ (r : Rule) (n leaf : ℕ) (given : Given) (root_label : Label) (right : Right r n leaf given root_label) (hash : Hash32 r)
    (sized : Given32 n given) where
  beside-sized : (u : Node) → on_way n leaf u ≡ false → 1 ≤ u.level → u.level ≤ n → length (known r n leaf given u) ≡ 32
  unfolding known
  beside-sized u off low high = rw off (sized (n - u.level + 1) (omega arith))

  known-sized : (u : Node) → WayChild n leaf u → length (known r n leaf given u) ≡ 32
  known-sized u child = go (on_way n leaf u) refl
    where
      go : (b : Bool) → on_way n leaf u ≡ b → length (known r n leaf given u) ≡ 32
      go true w = rw (known-hash r n leaf given root_label right u w) (hash.hash_length _)
      go false w = beside-sized u w (omega (arith, child.level)) (omega (arith, child.level, child.inner))

  each-among : (f : Node → Label) (ws : List Node) → ((w : Node) → among ws w ≡ true → length (f w) ≡ 32) → EachOf 32 (map f ws)
  each-among f [] size = tt
  each-among f (w ∷ ws) size = (size w (among-here w ws), each-among f ws (λ v m. size v (among_there w ws v m)))

  pub parents-sized : (v : Node) → on_way n leaf v ≡ true → EachOf 32 (map (known r n leaf given) (parents n v))
  parents-sized v w = each-among (known r n leaf given) (parents n v) (λ u m. known-sized u (parent-way-child n leaf v u w m))
