-- An opening knows labels on its leaf's way and beside it; the one taken from the labelling is right.
use mathlib.Core.Path.{◌≡◌, refl, sym, ap, ◌∙◌}
use Prim.Native.Nat.{ℕ, zero, suc, ◌+◌, ◌-◌, ◌*◌, ◌/◌, ◌%◌, ◌^◌, ◌≤◌, ◌<◌}
use native.Mathlib.Nat.{div-one, div-eq_of_lt}
use native.Mathlib.Numerals.{add-one}
use native.Mathlib.Omega.{arith}
use mathlib.Core.Bool.{Bool, true, false}
use mathlib.Core.List.{List, [], ◌∷◌, ◌++◌, map, map-append, append-nil}
use lib.Dec.{leb, eqb}
use lib.ListN.{length, get_or}
use lib.Pow.{shr-shr}
use borrow.Author.Tests.{leb-true, le-leb, eqb-true, eq-eqb, ne_eqb}
use Rattle.base.specs.Choice.{pick, odd}
use Rattle.base.specs.Lists.{EachOf}
use Rattle.base.proofs.ChoiceLaws.{both_first, both-second, odd-true, odd-false}
use Rattle.tree.specs.Nodes.{Node, node, root, left_child, right_child, on_way, left_siblings, parents}
use Rattle.tree.specs.Labels.{Label, Rule, label_by, label}
use Rattle.tree.specs.Openings.{sibling, siblings, opening_nodes, Given, child_labels, computed, known, input_at, LeafRight, RootRight, Right}
use Rattle.tree.specs.TreeOpening.{tree_opening, left_given}
use Rattle.tree.specs.Rules.{Hash32}
use Rattle.tree.specs.Disagreement.{Given32}
use Rattle.tree.proofs.Labelling.{parents-inner, parents-leaf, label-inner, label-parents, label-length}

-- one height further up
pub halved : (x h : ℕ) → x / 2 ^ suc h ≡ x / 2 ^ h / 2
halved x h = rw (← add-one h) (sym (shr-shr x h 1))

pub halved-first : (x h : ℕ) → x / 2 / 2 ^ h ≡ x / 2 ^ suc h
halved-first x h = shr-shr x 1 h ∙ ap (λ (k : ℕ). x / 2 ^ k) (omega arith)

-- ---- left siblings on a leaf's way
-- Two labellings that agree at each left sibling on the way agree on their list.
module _ {ℓ} {A : Type ℓ} (f g : Node → A) where
  last-same :
      (l p : ℕ) (b : Bool) → odd p ≡ b → (odd p ≡ true → f (node (suc l) (p - 1)) ≡ g (node (suc l) (p - 1))) →
      map f (left_siblings l (p / 2)) ≡ map g (left_siblings l (p / 2)) →
      map f (left_siblings (suc l) p) ≡ map g (left_siblings (suc l) p)
  unfolding left_siblings
  last-same l p true e same before = simp (e, map-append, before, same e)
  last-same l p false e same before = rw (e, append-nil) before

  pub left-siblings-same :
      (l p : ℕ) → ((h j : ℕ) → h + suc j ≡ l → odd (p / 2 ^ h) ≡ true → f (node (suc j) (p / 2 ^ h - 1)) ≡ g (node (suc j) (p / 2 ^ h - 1))) →
      map f (left_siblings l p) ≡ map g (left_siblings l p)
  unfolding left_siblings
  left-siblings-same zero p same = refl
  left-siblings-same (suc l) p same =
      last-same
      l
      p
      (odd p)
      refl
      (λ o. rw div-one at (same 0 l (omega arith) (rw div-one o)))
      (left-siblings-same l (p / 2) (λ h j e. rw (halved-first p h) (same (suc h) j (omega arith))))

module _ (r : Rule) (n leaf : ℕ) (given : Given) where
  -- what is known of the node of height h at position p
  pub known_at : (h l p : ℕ) → h + l ≡ n → known r n leaf given (node l p) ≡ pick (eqb p (leaf / 2 ^ h)) (computed r n leaf given h) (given (suc h))
  unfolding known
  known_at h l p e =
      let height : n - l ≡ h = omega arith in
      rw (height, le-leb l n (omega arith), add-one)

  pub known-way : (h l : ℕ) → h + l ≡ n → known r n leaf given (node l (leaf / 2 ^ h)) ≡ computed r n leaf given h
  known-way h l e = rw (known_at h l (leaf / 2 ^ h) e, eq-eqb (leaf / 2 ^ h) (leaf / 2 ^ h) refl)

  pub known-beside : (h l p : ℕ) → h + l ≡ n → (p ≡ leaf / 2 ^ h → ⊥) → known r n leaf given (node l p) ≡ given (suc h)
  known-beside h l p e d = rw (known_at h l p e, ne_eqb p (leaf / 2 ^ h) d)

  children-by :
      (h l : ℕ) (b : Bool) → odd (leaf / 2 ^ h) ≡ b → suc h + l ≡ n →
      known r n leaf given (left_child (node l (leaf / 2 ^ suc h))) ∷ known r n leaf given (right_child (node l (leaf / 2 ^ suc h))) ∷ [] ≡
      child_labels (odd (leaf / 2 ^ h)) (computed r n leaf given h) (given (suc h))
  children-by h l true o e =
      let m : leaf / 2 ^ h % 2 ≡ 1 = odd-true (leaf / 2 ^ h) o in
      let up : leaf / 2 ^ suc h ≡ leaf / 2 ^ h / 2 = halved leaf h in
      let twice : 2 * (leaf / 2 ^ suc h) + 1 ≡ leaf / 2 ^ h = omega arith in
      rw (o, twice, known-way h (l + 1) (omega arith), known-beside h (l + 1) (2 * (leaf / 2 ^ suc h)) (omega arith) (omega arith))
  children-by h l false o e =
      let m : leaf / 2 ^ h % 2 ≡ 0 = odd-false (leaf / 2 ^ h) o in
      let up : leaf / 2 ^ suc h ≡ leaf / 2 ^ h / 2 = halved leaf h in
      let twice : 2 * (leaf / 2 ^ suc h) ≡ leaf / 2 ^ h = omega arith in
      rw (o, twice, known-way h (l + 1) (omega arith), known-beside h (l + 1) (leaf / 2 ^ h + 1) (omega arith) (omega arith))

  -- the child labels that the opening knows at an inner node on the way
  pub known-pair :
      (h l : ℕ) → suc h + l ≡ n →
      known r n leaf given (left_child (node l (leaf / 2 ^ suc h))) ∷ known r n leaf given (right_child (node l (leaf / 2 ^ suc h))) ∷ [] ≡
      child_labels (odd (leaf / 2 ^ h)) (computed r n leaf given h) (given (suc h))
  known-pair h l e = children-by h l (odd (leaf / 2 ^ h)) refl e

  pub known-children :
      (h l : ℕ) → suc h + l ≡ n →
      map (known r n leaf given) (parents n (node l (leaf / 2 ^ suc h)))
      ≡ child_labels (odd (leaf / 2 ^ h)) (computed r n leaf given h) (given (suc h))
  known-children h l e =
      rw (parents-inner n (node l (leaf / 2 ^ suc h)) (omega arith)) (known-pair h l e)

  -- the computed label is the hash of the opening's input
  pub computed-hash :
      (h : ℕ) → suc h ≤ n →
      computed r n leaf given (suc h) ≡ r.hash (input_at r n leaf given (node (n - suc h) (leaf / 2 ^ suc h)))
  unfolding computed input_at
  computed-hash h le = sym (ap (label_by r (node (n - suc h) (leaf / 2 ^ suc h))) (known-children h (n - suc h) (omega arith)))

  pub input-inner :
      (h l : ℕ) → suc h + l ≡ n →
      input_at r n leaf given (node l (leaf / 2 ^ suc h)) ≡
      r.input (node l (leaf / 2 ^ suc h)) (child_labels (odd (leaf / 2 ^ h)) (computed r n leaf given h) (given (suc h)))
  unfolding input_at
  input-inner h l e = ap (r.input (node l (leaf / 2 ^ suc h))) (known-children h l e)

  -- a left sibling on the way is given
  pub known-left : (h l : ℕ) → h + suc l ≡ n → odd (leaf / 2 ^ h) ≡ true → known r n leaf given (node (suc l) (leaf / 2 ^ h - 1)) ≡ given (suc h)
  known-left h l e o =
      let m : leaf / 2 ^ h % 2 ≡ 1 = odd-true (leaf / 2 ^ h) o in
      known-beside h (suc l) (leaf / 2 ^ h - 1) e (omega arith)

  left_step :
      (h l : ℕ) (b : Bool) → odd (leaf / 2 ^ h) ≡ b → h + suc l ≡ n →
      map (known r n leaf given) (left_siblings l (leaf / 2 ^ h / 2)) ≡ left_given n leaf given l →
      map (known r n leaf given) (left_siblings (suc l) (leaf / 2 ^ h)) ≡ left_given n leaf given (suc l)
  unfolding left_siblings left_given
  left_step h l true o e before =
      let height : n - suc l ≡ h = omega arith in
      rw (height, o, map-append, before, known-left h l e o, add-one h)
  left_step h l false o e before =
      let height : n - suc l ≡ h = omega arith in
      simp (height, o, append-nil) before

  left-known : (l h : ℕ) → h + l ≡ n → map (known r n leaf given) (left_siblings l (leaf / 2 ^ h)) ≡ left_given n leaf given l
  unfolding left_siblings left_given
  left-known zero h e = refl
  left-known (suc l) h e = left_step h l (odd (leaf / 2 ^ h)) refl e (rw halved at (left-known l (suc h) (omega arith)))

  -- a leaf's parents are known from the given labels alone
  pub leaf-parents-known : map (known r n leaf given) (parents n (node n leaf)) ≡ left_given n leaf given n
  leaf-parents-known = rw (parents-leaf n (node n leaf) (omega arith)) (rw div-one at (left-known n zero (omega arith)))

  pub input-leaf : input_at r n leaf given (node n leaf) ≡ r.input (node n leaf) (left_given n leaf given n)
  unfolding input_at
  input-leaf = ap (r.input (node n leaf)) leaf-parents-known

-- and they have 32 bytes each
each_more : (w : ℕ) (xs : List Label) (b : Bool) (x : Label) → EachOf w xs → length x ≡ w → EachOf w (xs ++ pick b (x ∷ []) [])
each_more w [] true x each size = (size, tt)
each_more w [] false x each size = tt
each_more w (y ∷ ys) b x each size = (each.0, each_more w ys b x each.1 size)

pub left-each : (n leaf : ℕ) (given : Given) → Given32 n given → (l : ℕ) → l ≤ n → EachOf 32 (left_given n leaf given l)
unfolding left_given
left-each n leaf given sized zero le = tt
left-each n leaf given sized (suc l) le =
    each_more 32 (left_given n leaf given l) (odd (leaf / 2 ^ (n - suc l))) (given (n - suc l + 1))
    (left-each n leaf given sized l (omega arith)) (sized (n - suc l + 1) (omega arith))

-- ---- nodes on the way
pub way-position : (n leaf : ℕ) (v : Node) → on_way n leaf v ≡ true → v.position ≡ leaf / 2 ^ (n - v.level)
way-position n leaf v e =
    eqb-true v.position (leaf / 2 ^ (n - v.level))
    (both-second (leb v.level n) (eqb v.position (leaf / 2 ^ (n - v.level))) e)

pub way-level : (n leaf : ℕ) (v : Node) → on_way n leaf v ≡ true → v.level ≤ n
way-level n leaf v e = leb-true v.level n (both_first (leb v.level n) (eqb v.position (leaf / 2 ^ (n - v.level))) e)

pub on-way : (n leaf h l : ℕ) → h + l ≡ n → on_way n leaf (node l (leaf / 2 ^ h)) ≡ true
on-way n leaf h l e =
    let height : n - l ≡ h = omega arith in
    rw (height, le-leb l n (omega arith)) (eq-eqb (leaf / 2 ^ h) (leaf / 2 ^ h) refl)

-- ---- a right opening
-- Of a node on the way it knows the hash of its input there.
module _ (r : Rule) (n leaf : ℕ) (given : Given) (root_label : Label) (right : Right r n leaf given root_label) where
  way-hash : (h l : ℕ) → h + l ≡ n → computed r n leaf given h ≡ r.hash (input_at r n leaf given (node l (leaf / 2 ^ h)))
  unfolding computed
  way-hash zero l e =
      let same : l ≡ n = omega arith in
      rw (div-one, same) right.leaf_right
  way-hash (suc h) l e =
      let level : n - suc h ≡ l = omega arith in
      rw (← level) (computed-hash r n leaf given h (omega arith))

  known-hash-at : (h l p : ℕ) → h + l ≡ n → p ≡ leaf / 2 ^ h → known r n leaf given (node l p) ≡ r.hash (input_at r n leaf given (node l p))
  known-hash-at h l p e w = rw (w, known-way r n leaf given h l e) (way-hash h l e)

  pub known-hash : (v : Node) → on_way n leaf v ≡ true → known r n leaf given v ≡ r.hash (input_at r n leaf given v)
  known-hash v w =
      let le : v.level ≤ n = way-level n leaf v w in
      known-hash-at (n - v.level) v.level v.position (omega arith) (way-position n leaf v w)

pub sibling-differs : (q : ℕ) (b : Bool) → odd q ≡ b → sibling q ≡ q → ⊥
sibling-differs q true o e =
    let m : q % 2 ≡ 1 = odd-true q o in
    let e₁ : q - 1 ≡ q = rw o at e in
    omega arith
sibling-differs q false o e =
    let e₁ : q + 1 ≡ q = rw o at e in
    omega arith

siblings-at : (f : Node → Label) (l p h k : ℕ) → h + suc k ≡ l → get_or (map f (siblings l p)) h [] ≡ f (node (suc k) (sibling (p / 2 ^ h)))
unfolding siblings
siblings-at f zero p h k e = absurd (omega arith)
siblings-at f (suc l) p zero k e =
    let same : l ≡ k = omega arith in
    rw (div-one, same)
siblings-at f (suc l) p (suc h) k e = rw (← halved-first p h) (siblings-at f l (p / 2) h k (omega arith))

-- ---- the tree's opening
module _ (r : Rule) (n leaf : ℕ) where
  pub tree-leaf : tree_opening r n leaf 0 ≡ label r n (node n leaf)
  unfolding tree_opening opening_nodes
  tree-leaf = refl

  pub tree-sibling : (h k : ℕ) → h + suc k ≡ n → tree_opening r n leaf (suc h) ≡ label r n (node (suc k) (sibling (leaf / 2 ^ h)))
  unfolding tree_opening opening_nodes
  tree-sibling h k e = siblings-at (label r n) n leaf h k e

  -- two labels of siblings, one on the way, are the two child labels
  tree-children :
      (h l : ℕ) (b : Bool) → odd (leaf / 2 ^ h) ≡ b → suc h + l ≡ n →
      child_labels (odd (leaf / 2 ^ h)) (label r n (node (suc l) (leaf / 2 ^ h))) (label r n (node (suc l) (sibling (leaf / 2 ^ h)))) ≡
      label r n (left_child (node l (leaf / 2 ^ suc h))) ∷ label r n (right_child (node l (leaf / 2 ^ suc h))) ∷ []
  tree-children h l true o e =
      let m : leaf / 2 ^ h % 2 ≡ 1 = odd-true (leaf / 2 ^ h) o in
      let up : leaf / 2 ^ suc h ≡ leaf / 2 ^ h / 2 = halved leaf h in
      let right : 2 * (leaf / 2 ^ suc h) + 1 ≡ leaf / 2 ^ h = omega arith in
      let left : 2 * (leaf / 2 ^ suc h) ≡ leaf / 2 ^ h - 1 = omega arith in
      rw (o, right, left, add-one l)
  tree-children h l false o e =
      let m : leaf / 2 ^ h % 2 ≡ 0 = odd-false (leaf / 2 ^ h) o in
      let up : leaf / 2 ^ suc h ≡ leaf / 2 ^ h / 2 = halved leaf h in
      let left : 2 * (leaf / 2 ^ suc h) ≡ leaf / 2 ^ h = omega arith in
      rw (o, left, add-one l)

  tree-step :
      (h l : ℕ) → suc h + l ≡ n → computed r n leaf (tree_opening r n leaf) h ≡ label r n (node (suc l) (leaf / 2 ^ h)) →
      child_labels (odd (leaf / 2 ^ h)) (computed r n leaf (tree_opening r n leaf) h) (tree_opening r n leaf (suc h)) ≡
      label r n (left_child (node l (leaf / 2 ^ suc h))) ∷ label r n (right_child (node l (leaf / 2 ^ suc h))) ∷ []
  tree-step h l e below = rw (below, tree-sibling h l (omega arith)) (tree-children h l (odd (leaf / 2 ^ h)) refl e)

  -- every computed label is the tree's
  pub computed-tree : (h l : ℕ) → h + l ≡ n → computed r n leaf (tree_opening r n leaf) h ≡ label r n (node l (leaf / 2 ^ h))
  unfolding computed
  computed-tree zero l e =
      let same : l ≡ n = omega arith in
      rw (div-one, same) tree-leaf
  computed-tree (suc h) l e =
      let level : n - suc h ≡ l = omega arith in
      rw (level, tree-step h l e (computed-tree h (suc l) (omega arith))) (sym (label-inner r n (node l (leaf / 2 ^ suc h)) (omega arith)))

  -- Of a node on the way, and of its sibling, the tree's opening knows the tree's label.
  known-tree-at : (h l p : ℕ) → h + l ≡ n → p ≡ leaf / 2 ^ h → known r n leaf (tree_opening r n leaf) (node l p) ≡ label r n (node l p)
  known-tree-at h l p e w = rw (w, known-way r n leaf (tree_opening r n leaf) h l e) (computed-tree h l e)

  pub known-tree : (v : Node) → on_way n leaf v ≡ true → known r n leaf (tree_opening r n leaf) v ≡ label r n v
  known-tree v w =
      let le : v.level ≤ n = way-level n leaf v w in
      known-tree-at (n - v.level) v.level v.position (omega arith) (way-position n leaf v w)

  pub known-tree-sibling :
      (h l : ℕ) → h + suc l ≡ n →
      known r n leaf (tree_opening r n leaf) (node (suc l) (sibling (leaf / 2 ^ h))) ≡ label r n (node (suc l) (sibling (leaf / 2 ^ h)))
  known-tree-sibling h l e =
      let beside : sibling (leaf / 2 ^ h) ≡ leaf / 2 ^ h → ⊥ = sibling-differs (leaf / 2 ^ h) (odd (leaf / 2 ^ h)) refl in
      rw (known-beside r n leaf (tree_opening r n leaf) h (suc l) (sibling (leaf / 2 ^ h)) e beside) (tree-sibling h l e)

  left-tree :
      (h l : ℕ) → h + suc l ≡ n → odd (leaf / 2 ^ h) ≡ true →
      known r n leaf (tree_opening r n leaf) (node (suc l) (leaf / 2 ^ h - 1)) ≡ label r n (node (suc l) (leaf / 2 ^ h - 1))
  left-tree h l e o = rw o at (known-tree-sibling h l e)

  parents-tree-leaf : map (known r n leaf (tree_opening r n leaf)) (parents n (node n leaf)) ≡ map (label r n) (parents n (node n leaf))
  parents-tree-leaf =
      rw (parents-leaf n (node n leaf) (omega arith)) (left-siblings-same (known r n leaf (tree_opening r n leaf)) (label r n) n leaf left-tree)

  parents-tree-inner :
      (h l : ℕ) → suc h + l ≡ n →
      map (known r n leaf (tree_opening r n leaf)) (parents n (node l (leaf / 2 ^ suc h))) ≡ map (label r n) (parents n (node l (leaf / 2 ^ suc h)))
  parents-tree-inner h l e =
      known-children r n leaf (tree_opening r n leaf) h l e
      ∙ tree-step h l e (computed-tree h (suc l) (omega arith))
      ∙ rw (parents-inner n (node l (leaf / 2 ^ suc h)) (omega arith))

  parents-tree-at :
      (h l p : ℕ) → h + l ≡ n → p ≡ leaf / 2 ^ h →
      map (known r n leaf (tree_opening r n leaf)) (parents n (node l p)) ≡ map (label r n) (parents n (node l p))
  parents-tree-at zero l p e w =
      let same : l ≡ n = omega arith in
      let last : p ≡ leaf = w ∙ div-one leaf in
      rw (same, last) parents-tree-leaf
  parents-tree-at (suc h) l p e w = rw w (parents-tree-inner h l e)

  -- the hash input that it gives at a node on the way is the labelling's
  pub input-tree : (v : Node) → on_way n leaf v ≡ true → input_at r n leaf (tree_opening r n leaf) v ≡ r.input v (map (label r n) (parents n v))
  unfolding input_at
  input-tree v w =
      let le : v.level ≤ n = way-level n leaf v w in
      ap (r.input v) (parents-tree-at (n - v.level) v.level v.position (omega arith) (way-position n leaf v w))

  leaf-right : LeafRight r n leaf (tree_opening r n leaf)
  unfolding input_at
  leaf-right = tree-leaf ∙ label-parents r n (node n leaf) (omega arith) ∙ sym (ap (label_by r (node n leaf)) parents-tree-leaf)

  root-right : leaf < 2 ^ n → RootRight r n leaf (tree_opening r n leaf) (label r n root)
  root-right inside = rw (div-eq_of_lt inside) at (computed-tree n zero (omega arith))

  -- Theorem 6: the tree's opening is right at every leaf.
  pub tree-right : leaf < 2 ^ n → Right r n leaf (tree_opening r n leaf) (label r n root)
  tree-right inside = record { leaf_right = leaf-right; root_right = root-right inside }

  pub tree-sized : Hash32 r → Given32 n (tree_opening r n leaf)
  tree-sized hash zero le = rw tree-leaf (label-length r n hash (node n leaf) (omega arith))
  tree-sized hash (suc h) le =
      let height : suc (n - suc h) ≤ n = omega arith in
      rw (tree-sibling h (n - suc h) (omega arith)) (label-length r n hash (node (suc (n - suc h)) (sibling (leaf / 2 ^ h))) height)
