-- The paper's Definition 1: a node's label is the hash of its input over its parents' labels. The rule that makes the
-- input is a parameter; document 01's layout is one instance.
use Rattle.std.specs.Prelude.{◌≡◌, ℕ, zero, suc, ◌+◌, ◌-◌, ◌*◌, ◌/◌, List, [], ◌∷◌, ◌++◌, map, reverse, eqb, length, take, drop}
use Rattle.base.specs.Choice.{pick, odd}
use Rattle.base.specs.Bytes.{big_endian, joined}
use Rattle.tree.specs.Nodes.{Node, node, InTree, left_child, right_child, parents}

-- a label, as bytes
abbrev pub Label : Type 0
Label = List ℕ

-- A rule of labels: the hash input of a node over its parents' labels, and the hash.
pub record Rule : Type 0 where
  pub input : Node → List Label → List ℕ
  pub hash : List ℕ → Label

abbrev pub label_by : Rule → Node → List Label → Label
label_by r v labels = r.hash (r.input v labels)

-- The labels of a node's parents in the order in which they are hashed, by the edition. In edition 1 'left child before right, and
-- for a leaf smallest level first', which is the order of `parents`; from edition 2 on 'the label made last comes first' (W-206).
unfoldable pub ordered {ℓ} : {A : Type ℓ} → ℕ → List A → List A
ordered edition xs = pick (eqb edition 1) xs (reverse xs)

-- the byte after the statement, by the edition and the depth n: 'level (1 byte)'
unfoldable pub tag : ℕ → ℕ → ℕ → ℕ
tag edition n level = level

-- Document 01: 'statement (32 bytes), level (1 byte), position (8 bytes, big-endian), then the parents' labels'.
unfoldable pub input_head : ℕ → ℕ → List ℕ → Node → List ℕ
input_head edition n statement v = statement ++ tag edition n v.level ∷ big_endian 8 v.position

unfoldable pub document_input : ℕ → ℕ → List ℕ → Node → List Label → List ℕ
document_input edition n statement v labels = input_head edition n statement v ++ joined (ordered edition labels)

-- bytes cut into k parts of w
unfoldable pub cut : ℕ → ℕ → List ℕ → List (List ℕ)
cut w zero bytes = []
cut w (suc k) bytes = take w bytes ∷ cut w k (drop w bytes)

-- bytes as the labels of 32 bytes that lie in them end to end
unfoldable pub in_labels : List ℕ → List Label
in_labels bytes = cut 32 (length bytes / 32) bytes

-- the length of a node's input: 41 bytes, and 32 for each parent
unfoldable pub input_size : ℕ → Node → ℕ
input_size n v = 41 + 32 * length (parents n v)

-- Definition 1 as an equation on every node of the tree of depth n
abbrev pub IsLabelling : Rule → ℕ → (Node → Label) → Type 0
IsLabelling r n label_of = (v : Node) → InTree n v → label_of v ≡ label_by r v (map label_of (parents n v))

-- The label of a node of height h, by recursion; `aboves` are the labels of the left siblings on its way, smallest level first.
unfoldable pub label_below : Rule → ℕ → Node → List Label → Label
label_below r zero v aboves = label_by r v aboves
label_below r (suc h) v aboves =
    let left : Label = label_below r h (left_child v) aboves in
    label_by r v (left ∷ label_below r h (right_child v) (aboves ++ left ∷ []) ∷ [])

-- the labels of the left siblings on the way of level l, position p, smallest level first
unfoldable pub labels_above : Rule → ℕ → ℕ → ℕ → List Label
labels_above r n zero p = []
labels_above r n (suc l) p =
    let aboves : List Label = labels_above r n l (p / 2) in
    aboves ++ pick (odd p) (label_below r (n - suc l) (node (suc l) (p - 1)) aboves ∷ []) []

-- the label of a node of the tree of depth n
unfoldable pub label : Rule → ℕ → Node → Label
label r n v = label_below r (n - v.level) v (labels_above r n v.level v.position)
