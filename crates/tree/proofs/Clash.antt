-- Two right openings for one root give the same inputs at the nodes that they share, or two inputs with one hash.
use mathlib.Core.Path.{◌≡◌, refl, sym, ap, ◌∙◌}
use mathlib.Core.Logic.{◌⊎◌, inl, inr, ⊎_map}
use Prim.Native.Nat.{ℕ, zero, suc, ◌+◌, ◌-◌, ◌*◌, ◌/◌, ◌%◌, ◌^◌, ◌≤◌, ◌<◌}
use native.Mathlib.Nat.{div-one, div-eq_of_lt}
use native.Mathlib.Numerals.{add-one}
use native.Mathlib.Omega.{arith}
use mathlib.Core.Bool.{Bool, true, false, not}
use mathlib.Core.List.{List, [], map}
use lib.Dec.{ltb}
use lib.ListN.{length, get_or}
use lib.Pow.{shr-shr}
use borrow.Author.Tests.{ltb-true, ltb-false, lt-ltb, eqb-true, eq-eqb, not-true, not-false}
use Rattle.base.specs.Choice.{both, odd}
use Rattle.base.specs.Lists.{EachOf, same_labels}
use Rattle.base.proofs.ChoiceLaws.{both_first, both-second, both_false, not_so, true-false, odd-true}
use Rattle.base.proofs.ListsLaws.{tells-labels, test-same, test-false, test-differ}
use Rattle.tree.specs.Nodes.{Node, node, left_child, right_child, parents}
use Rattle.tree.specs.Labels.{Label, Rule}
use Rattle.tree.specs.Rules.{document_rule, Readable, Hash32}
use Rattle.tree.specs.Openings.{Given, child_labels, computed, known, input_at, Right}
use Rattle.tree.specs.Disagreement.{Given32, way_node, shared, children_known, disagree_at, AgreeBefore, FirstDisagreement, SameInputs, ClashAt}
use Rattle.tree.proofs.Labelling.{parents-inner, parents-leaf}
use Rattle.tree.proofs.DocumentRule.{length-input}
use Rattle.tree.proofs.OpeningLaws.{left-siblings-same, halved, known-pair, computed-hash, way-position, way-level}

-- ---- one opening
module _ (r : Rule) (n leaf : ℕ) (given : Given) where
  -- the child labels by height, as the code has them
  pub children-known :
      (h l : ℕ) → suc h + l ≡ n →
      children_known r n leaf given l ≡ child_labels (odd (leaf / 2 ^ h)) (computed r n leaf given h) (given (suc h))
  unfolding children_known
  children-known h l e =
      let height : n - l ≡ suc h = omega arith in
      rw height (known-pair r n leaf given h l e)

  pub children-count : (l : ℕ) → length (children_known r n leaf given l) ≡ 2
  unfolding children_known
  children-count l = refl

  -- the input at an inner node is the rule over them
  pub input-children : (l : ℕ) → l < n → input_at r n leaf given (way_node n leaf l) ≡ r.input (way_node n leaf l) (children_known r n leaf given l)
  unfolding input_at children_known
  input-children l h = ap (λ (vs : List Node). r.input (way_node n leaf l) (map (known r n leaf given) vs)) (parents-inner n (way_node n leaf l) h)

  -- and its hash the computed label
  pub computed-way : (l : ℕ) → l < n → computed r n leaf given (n - l) ≡ r.hash (input_at r n leaf given (way_node n leaf l))
  computed-way l h =
      let height : suc (n - suc l) ≡ n - l = omega arith in
      let level : n - (n - l) ≡ l = omega arith in
      rw (height, level) at (computed-hash r n leaf given (n - suc l) (omega arith))

  module _ (hash : Hash32 r) (sized : Given32 n given) where
    computed-length : (h : ℕ) → h ≤ n → length (computed r n leaf given h) ≡ 32
    unfolding computed
    computed-length zero le = sized zero le
    computed-length (suc h) le = hash.hash_length _

    each-by : (h : ℕ) (b : Bool) → suc h ≤ n → EachOf 32 (child_labels b (computed r n leaf given h) (given (suc h)))
    each-by h true le = (sized (suc h) le, (computed-length h (omega arith), tt))
    each-by h false le = (computed-length h (omega arith), (sized (suc h) le, tt))

    pub children-sized : (l : ℕ) → l < n → EachOf 32 (children_known r n leaf given l)
    children-sized l h = rw (children-known (n - suc l) l (omega arith)) (each-by (n - suc l) (odd (leaf / 2 ^ (n - suc l))) (omega arith))

-- with document 01's rule an inner node's input has 105 bytes
pub inner-input-length :
    (edition : ℕ) (statement : List ℕ) (hash : List ℕ → Label) (n leaf : ℕ) (given : Given) → length statement ≡ 32 →
    Hash32 (document_rule edition n statement hash) →
    Given32 n given → (l : ℕ) → l < n →
    length (input_at (document_rule edition n statement hash) n leaf given (way_node n leaf l)) ≡ 105
inner-input-length edition statement hash n leaf given size long sized l h =
    let r : Rule = document_rule edition n statement hash in
    let labels : List Label = children_known r n leaf given l in
    let size₂ : EachOf 32 labels = children-sized r n leaf given long sized l h in
    rw (input-children r n leaf given l h, length-input edition n statement size (way_node n leaf l) labels size₂, children-count r n leaf given l)

-- ---- shared nodes
pub shared-position : (n x y l : ℕ) → shared n x y l ≡ true → x / 2 ^ (n - l) ≡ y / 2 ^ (n - l)
shared-position n x y l s = eqb-true (x / 2 ^ (n - l)) (y / 2 ^ (n - l)) s

-- a shared node's ancestors are shared
pub shared-above : (n x y l k : ℕ) → k ≤ l → l ≤ n → shared n x y l ≡ true → shared n x y k ≡ true
shared-above n x y l k up inside s =
    let heights : n - k ≡ n - l + (l - k) = omega arith in
    let same : x / 2 ^ (n - k) ≡ y / 2 ^ (n - k) =
    rw (heights, ← shr-shr x (n - l) (l - k), ← shr-shr y (n - l) (l - k), shared-position n x y l s) in
    eq-eqb (x / 2 ^ (n - k)) (y / 2 ^ (n - k)) same

pub unshared-below : (n x y l k : ℕ) → k ≤ l → l ≤ n → shared n x y k ≡ false → shared n x y l ≡ false
unshared-below n x y l k up inside s = not_so (shared n x y l) (λ t. true-false (shared n x y k) (shared-above n x y l k up inside t) s)

pub root-shared : (n x y : ℕ) → x < 2 ^ n → y < 2 ^ n → shared n x y 0 ≡ true
root-shared n x y hx hy =
    let whole : n - 0 ≡ n = omega arith in
    rw (whole, div-eq_of_lt hx, div-eq_of_lt hy)

way-label : (b : Bool) (a c g d : Label) → child_labels b a g ≡ child_labels b c d → a ≡ c
way-label true a c g d e = cc
way-label false a c g d e = cc

-- ---- two openings
module _ (r : Rule) (n x : ℕ) (given₁ : Given) (y : ℕ) (given₂ : Given) where
  -- what a disagreement is, both ways
  module _ (l : ℕ) (e : disagree_at r n x given₁ y given₂ l ≡ true) where
    disagree-place : both (ltb l n) (shared n x y l) ≡ true
    unfolding disagree_at
    disagree-place = both_first (both (ltb l n) (shared n x y l)) (not (same_labels (children_known r n x given₁ l) (children_known r n y given₂ l))) e

    pub disagree-inner : l < n
    disagree-inner = ltb-true l n (both_first (ltb l n) (shared n x y l) disagree-place)

    pub disagree-shared : shared n x y l ≡ true
    disagree-shared = both-second (ltb l n) (shared n x y l) disagree-place

    pub disagree-labels : children_known r n x given₁ l ≡ children_known r n y given₂ l → ⊥
    unfolding disagree_at
    disagree-labels =
        let test : Bool = same_labels (children_known r n x given₁ l) (children_known r n y given₂ l) in
        test-false
        tells-labels
        (children_known r n x given₁ l)
        (children_known r n y given₂ l)
        (not-true test (both-second (both (ltb l n) (shared n x y l)) (not test) e))

  module _ (l : ℕ) (h : l < n) (s : shared n x y l ≡ true) where
    -- at a shared inner node only the labels matter
    pub disagree-test : disagree_at r n x given₁ y given₂ l ≡ not (same_labels (children_known r n x given₁ l) (children_known r n y given₂ l))
    unfolding disagree_at
    disagree-test = rw (lt-ltb l n h, s)

    -- the same by height, as a walk up the way has the labels
    pub disagree-height :
        (k : ℕ) → suc k + l ≡ n →
        disagree_at r n x given₁ y given₂ l ≡
        not
        (same_labels
        (child_labels (odd (x / 2 ^ k)) (computed r n x given₁ k) (given₁ (suc k)))
        (child_labels (odd (y / 2 ^ k)) (computed r n y given₂ k) (given₂ (suc k))))
    disagree-height k c = rw (disagree-test, children-known r n x given₁ k l c, children-known r n y given₂ k l c)

    pub agree-labels : disagree_at r n x given₁ y given₂ l ≡ false → children_known r n x given₁ l ≡ children_known r n y given₂ l
    agree-labels e = tells-labels.equal (children_known r n x given₁ l) (children_known r n y given₂ l) (not-false _ (rw disagree-test at e))

    pub labels-agree : children_known r n x given₁ l ≡ children_known r n y given₂ l → disagree_at r n x given₁ y given₂ l ≡ false
    labels-agree e = rw (disagree-test, test-same tells-labels (children_known r n x given₁ l) (children_known r n y given₂ l) e)

    pub labels-disagree : (children_known r n x given₁ l ≡ children_known r n y given₂ l → ⊥) → disagree_at r n x given₁ y given₂ l ≡ true
    labels-disagree d = rw (disagree-test, test-differ tells-labels (children_known r n x given₁ l) (children_known r n y given₂ l) d)

    -- the second opening's input at the shared node
    second-input : input_at r n y given₂ (way_node n x l) ≡ r.input (way_node n x l) (children_known r n y given₂ l)
    second-input = rw (shared-position n x y l s) (input-children r n y given₂ l h)

    pub agree-input : disagree_at r n x given₁ y given₂ l ≡ false → input_at r n x given₁ (way_node n x l) ≡ input_at r n y given₂ (way_node n x l)
    agree-input e = input-children r n x given₁ l h ∙ ap (r.input (way_node n x l)) (agree-labels e) ∙ sym second-input

    -- both know the same labels of the two children
    pub agree_left :
        disagree_at r n x given₁ y given₂ l ≡ false →
        known r n x given₁ (left_child (way_node n x l)) ≡ known r n y given₂ (left_child (way_node n x l))
    unfolding children_known
    agree_left e = ap (λ (labels : List Label). get_or labels 0 []) (agree-labels e) ∙ rw (shared-position n x y l s)

    pub agree_right :
        disagree_at r n x given₁ y given₂ l ≡ false →
        known r n x given₁ (right_child (way_node n x l)) ≡ known r n y given₂ (right_child (way_node n x l))
    unfolding children_known
    agree_right e = ap (λ (labels : List Label). get_or labels 1 []) (agree-labels e) ∙ rw (shared-position n x y l s)

    agree-children :
        (k : ℕ) → suc k + l ≡ n → disagree_at r n x given₁ y given₂ l ≡ false → x / 2 ^ k ≡ y / 2 ^ k →
        child_labels (odd (x / 2 ^ k)) (computed r n x given₁ k) (given₁ (suc k))
        ≡ child_labels (odd (x / 2 ^ k)) (computed r n y given₂ k) (given₂ (suc k))
    agree-children k c e p = sym (children-known r n x given₁ k l c) ∙ agree-labels e ∙ rw p (children-known r n y given₂ k l c)

  pub unshared-agrees : (l : ℕ) → shared n x y l ≡ false → disagree_at r n x given₁ y given₂ l ≡ false
  unfolding disagree_at
  unshared-agrees l s = rw (s, both_false)

  -- ---- right openings
  module _ (root_label : Label) (right₁ : Right r n x given₁ root_label) (right₂ : Right r n y given₂ root_label) where
    -- down to the first disagreement, that one included, they compute the same labels at shared nodes
    pub computed_same :
        (l : ℕ) → l ≤ n → shared n x y l ≡ true → AgreeBefore r n x given₁ y given₂ l →
        computed r n x given₁ (n - l) ≡ computed r n y given₂ (n - l)
    computed_same zero le s before =
        let whole : n - 0 ≡ n = omega arith in
        rw whole (right₁.root_right ∙ sym right₂.root_right)
    computed_same (suc l) le s before =
        way-label
        (odd (x / 2 ^ (n - suc l)))
        (computed r n x given₁ (n - suc l))
        (computed r n y given₂ (n - suc l))
        (given₁ (suc (n - suc l)))
        (given₂ (suc (n - suc l)))
        (agree-children
        l
        le
        (shared-above n x y (suc l) l (omega arith) le s)
        (n - suc l)
        (omega arith)
        (before l (omega arith))
        (shared-position n x y (suc l) s))

    pub same-hash :
        (l : ℕ) → l < n → shared n x y l ≡ true → AgreeBefore r n x given₁ y given₂ l →
        r.hash (input_at r n x given₁ (way_node n x l)) ≡ r.hash (input_at r n y given₂ (way_node n x l))
    same-hash l h s before =
        sym (computed-way r n x given₁ l h) ∙ computed_same l (omega arith) s before ∙ computed-way r n y given₂ l h
        ∙ rw (shared-position n x y l s)

  -- ---- no disagreement
  left-same :
      AgreeBefore r n x given₁ y given₂ n → (h l : ℕ) → h + suc l ≡ n → x ≡ y → odd (x / 2 ^ h) ≡ true →
      known r n x given₁ (node (suc l) (x / 2 ^ h - 1)) ≡ known r n y given₂ (node (suc l) (x / 2 ^ h - 1))
  left-same agree h l e same o =
      let m : x / 2 ^ h % 2 ≡ 1 = odd-true (x / 2 ^ h) o in
      let height : n - l ≡ suc h = omega arith in
      let half : x / 2 ^ suc h ≡ x / 2 ^ h / 2 = halved x h in
      let left : 2 * (x / 2 ^ suc h) ≡ x / 2 ^ h - 1 = omega arith in
      let up : shared n x y l ≡ true = eq-eqb (x / 2 ^ (n - l)) (y / 2 ^ (n - l)) (ap (λ (z : ℕ). z / 2 ^ (n - l)) same) in
      rw (height, left, add-one) at (agree_left l (omega arith) up (agree l (omega arith)))

  leaf-same :
      AgreeBefore r n x given₁ y given₂ n → x ≡ y →
      map (known r n x given₁) (parents n (node n x)) ≡ map (known r n y given₂) (parents n (node n x))
  leaf-same agree same =
      rw
      (parents-leaf n (node n x) (omega arith))
      (left-siblings-same (known r n x given₁) (known r n y given₂) n x (λ h l e. left-same agree h l e same))

  same_at :
      AgreeBefore r n x given₁ y given₂ n → (l p : ℕ) (b : Bool) → ltb l n ≡ b → l ≤ n → p ≡ x / 2 ^ (n - l) → p ≡ y / 2 ^ (n - l) →
      input_at r n x given₁ (node l p) ≡ input_at r n y given₂ (node l p)
  unfolding input_at
  same_at agree l p true t le at₁ at₂ =
      let h : l < n = ltb-true l n t in
      rw at₁ (agree-input l h (eq-eqb (x / 2 ^ (n - l)) (y / 2 ^ (n - l)) (sym at₁ ∙ at₂)) (agree l h))
  same_at agree l p false t le at₁ at₂ =
      let h : n ≤ l = ltb-false l n t in
      let level : l ≡ n = omega arith in
      let height : n - l ≡ 0 = omega arith in
      let here₁ : p ≡ x = rw (height, div-one) at at₁ in
      let here₂ : p ≡ y = rw (height, div-one) at at₂ in
      rw (level, here₁) (ap (r.input (node n x)) (leaf-same agree (sym here₁ ∙ here₂)))

  -- Where no shared inner node disagrees, both give the same input at every shared node, at a leaf too.
  pub same_inputs : AgreeBefore r n x given₁ y given₂ n → SameInputs r n x given₁ y given₂
  same_inputs agree v on₁ on₂ =
      same_at
      agree
      v.level
      v.position
      (ltb v.level n)
      refl
      (way-level n x v on₁)
      (way-position n x v on₁)
      (way-position n y v on₂)

  -- ---- the smallest level
  up_to :
      (k l : ℕ) → l < suc k → (b : Bool) → ltb l k ≡ b → AgreeBefore r n x given₁ y given₂ k →
      disagree_at r n x given₁ y given₂ k ≡ false → disagree_at r n x given₁ y given₂ l ≡ false
  up_to k l h true t before e = before l (ltb-true l k t)
  up_to k l h false t before e =
      let le : k ≤ l = ltb-false l k t in
      let same : l ≡ k = omega arith in
      rw same e

  one_more :
      (k : ℕ) (b : Bool) → disagree_at r n x given₁ y given₂ k ≡ b →
      AgreeBefore r n x given₁ y given₂ k ⊎ ((l : ℕ) × (l < k) × FirstDisagreement r n x given₁ y given₂ l) →
      AgreeBefore r n x given₁ y given₂ (suc k) ⊎ ((l : ℕ) × (l < suc k) × FirstDisagreement r n x given₁ y given₂ l)
  one_more k b e (inr found) = inr (found.0, omega arith, found.2)
  one_more k true e (inl before) = inr (k, omega arith, record { disagrees = e; before = before })
  one_more k false e (inl before) = inl (λ l h. up_to k l h (ltb l k) refl before e)

  pub first-disagreement : (k : ℕ) → AgreeBefore r n x given₁ y given₂ k ⊎ ((l : ℕ) × (l < k) × FirstDisagreement r n x given₁ y given₂ l)
  first-disagreement zero = inl (λ l h. absurd (omega arith))
  first-disagreement (suc k) = one_more k (disagree_at r n x given₁ y given₂ k) refl (first-disagreement k)

  -- ---- Theorem 7
  module _
      (readable : Readable r)
      (hash : Hash32 r)
      (sized₁ : Given32 n given₁)
      (sized₂ : Given32 n given₂)
      (root_label : Label)
      (right₁ : Right r n x given₁ root_label)
      (right₂ : Right r n y given₂ root_label)
    where
      -- a disagreement of smallest level is a clash
      pub disagreement-clash : (l : ℕ) → FirstDisagreement r n x given₁ y given₂ l → ClashAt r n x given₁ y given₂ l
      disagreement-clash l first =
          let h : l < n = disagree-inner l first.disagrees in
          let s : shared n x y l ≡ true = disagree-shared l first.disagrees in
          record {
            inner = h;
            shares = s;
            differ =
                λ same.
                disagree-labels
                l
                first.disagrees
                (readable.read_back
                (way_node n x l)
                (children_known r n x given₁ l)
                (children_known r n y given₂ l)
                (children-count r n x given₁ l ∙ sym (children-count r n y given₂ l))
                (children-sized r n x given₁ hash sized₁ l h)
                (children-sized r n y given₂ hash sized₂ l h)
                (sym (input-children r n x given₁ l h) ∙ same ∙ second-input l h s));
            same_hash = same-hash root_label right₁ right₂ l h s first.before;
            same_before = λ k le. agree-input k (omega arith) (shared-above n x y l k (omega arith) (omega arith) s) (first.before k le);
          }

      pub same-or-clash : SameInputs r n x given₁ y given₂ ⊎ ((l : ℕ) × ClashAt r n x given₁ y given₂ l)
      same-or-clash = ⊎_map same_inputs (λ found. (found.0, disagreement-clash found.0 found.2)) (first-disagreement n)
