-- Document 01, 'Drawing the chain': where two openings disagree.
use Rattle.std.specs.Prelude.{◌≡◌, ℕ, ◌-◌, ◌/◌, ◌^◌, ◌≤◌, ◌<◌, Bool, true, false, not, List, [], ◌∷◌, ltb, eqb, length}
use Rattle.base.specs.Choice.{both}
use Rattle.base.specs.Lists.{same_labels}
use Rattle.tree.specs.Nodes.{Node, node, left_child, right_child, on_way}
use Rattle.tree.specs.Labels.{Label, Rule}
use Rattle.tree.specs.Openings.{Given, known, input_at}

-- the given labels have 32 bytes, the leaf's and the n siblings'
abbrev pub Given32 : ℕ → Given → Type 0
Given32 n given = (i : ℕ) → i ≤ n → length (given i) ≡ 32

-- the node of level l on the way from a leaf to the root
abbrev pub way_node : ℕ → ℕ → ℕ → Node
way_node n leaf l = node l (leaf / 2 ^ (n - l))

-- the ways of two leaves share their node of level l
abbrev pub shared : ℕ → ℕ → ℕ → ℕ → Bool
shared n x y l = eqb (x / 2 ^ (n - l)) (y / 2 ^ (n - l))

-- the two child labels, left before right, computed or given, that an opening has at the inner node of level l on its way
unfoldable pub children_known : Rule → ℕ → ℕ → Given → ℕ → List Label
children_known r n leaf given l =
    let v : Node = way_node n leaf l in
    known r n leaf given (left_child v) ∷ known r n leaf given (right_child v) ∷ []

-- 'Two openings disagree at a shared inner node if their two child labels there, computed or given, differ.'
unfoldable pub disagree_at : Rule → ℕ → ℕ → Given → ℕ → Given → ℕ → Bool
disagree_at r n x given₁ y given₂ l =
    both
    (both (ltb l n) (shared n x y l))
    (not (same_labels (children_known r n x given₁ l) (children_known r n y given₂ l)))

-- no disagreement at any level smaller than k
abbrev pub AgreeBefore : Rule → ℕ → ℕ → Given → ℕ → Given → ℕ → Type 0
AgreeBefore r n x given₁ y given₂ k = (l : ℕ) → l < k → disagree_at r n x given₁ y given₂ l ≡ false

-- l is the smallest level of a disagreement
pub record FirstDisagreement (r : Rule) (n x : ℕ) (given₁ : Given) (y : ℕ) (given₂ : Given) (l : ℕ) : Type 0 where
  pub disagrees : disagree_at r n x given₁ y given₂ l ≡ true
  pub before : AgreeBefore r n x given₁ y given₂ l

-- all nodes on both ways have the same input
abbrev pub SameInputs : Rule → ℕ → ℕ → Given → ℕ → Given → Type 0
SameInputs r n x given₁ y given₂ =
    (v : Node) → on_way n x v ≡ true → on_way n y v ≡ true → input_at r n x given₁ v ≡ input_at r n y given₂ v

-- A clash: at the shared inner node of level l two different inputs with one hash; at smaller levels they are the same.
pub record ClashAt (r : Rule) (n x : ℕ) (given₁ : Given) (y : ℕ) (given₂ : Given) (l : ℕ) : Type 0 where
  pub inner : l < n
  pub shares : shared n x y l ≡ true
  pub differ : input_at r n x given₁ (way_node n x l) ≡ input_at r n y given₂ (way_node n x l) → ⊥
  pub same_hash : r.hash (input_at r n x given₁ (way_node n x l)) ≡ r.hash (input_at r n y given₂ (way_node n x l))
  pub same_before : (k : ℕ) → k < l → input_at r n x given₁ (way_node n x k) ≡ input_at r n y given₂ (way_node n x k)
