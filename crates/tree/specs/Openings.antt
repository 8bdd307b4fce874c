-- Document 01: the opening of a leaf, when it is right, and the hash input that it gives at each node on the leaf's way.
use Rattle.std.specs.Prelude.{◌≡◌, ℕ, zero, suc, ◌+◌, ◌-◌, ◌*◌, ◌/◌, ◌^◌, Bool, List, [], ◌∷◌, map}
use Rattle.base.specs.Choice.{pick, odd}
use Rattle.tree.specs.Nodes.{Node, node, on_way, parents}
use Rattle.tree.specs.Labels.{Label, Rule, label_by}

-- the position of the other child of the same node
abbrev pub sibling : ℕ → ℕ
sibling p = pick (odd p) (p - 1) (p + 1)

-- the siblings on the way from level l, position p, to the root, from level l to level 1
unfoldable pub siblings : ℕ → ℕ → List Node
siblings zero p = []
siblings (suc l) p = node (suc l) (sibling p) ∷ siblings l (p / 2)

-- 'An opening is the leaf's label, then its path's siblings from level n to level 1.'
unfoldable pub opening_nodes : ℕ → ℕ → List Node
opening_nodes n leaf = node n leaf ∷ siblings n leaf

-- '32 × (n + 1) bytes'
abbrev pub opening_size : ℕ → ℕ
opening_size n = 32 * (n + 1)

-- An opening as given: the label at each of its places, the leaf's at place 0 and at place h + 1 the sibling's of height h
-- above the leaves. It need not be right.
abbrev pub Given : Type 0
Given = ℕ → Label

-- a node's two child labels, left before right, of which one is of the child on the way, at an odd position or not
abbrev pub child_labels : Bool → Label → Label → List Label
child_labels is_odd on_the_way beside = pick is_odd (beside ∷ on_the_way ∷ []) (on_the_way ∷ beside ∷ [])

-- The label at height h on the way: the given one of the leaf, then each computed from below.
unfoldable pub computed : Rule → ℕ → ℕ → Given → ℕ → Label
computed r n leaf given zero = given 0
computed r n leaf given (suc h) =
    label_by r (node (n - suc h) (leaf / 2 ^ suc h))
    (child_labels (odd (leaf / 2 ^ h)) (computed r n leaf given h) (given (suc h)))

-- The label that an opening knows of a node: computed on the leaf's way, given beside it.
unfoldable pub known : Rule → ℕ → ℕ → Given → Node → Label
known r n leaf given v = pick (on_way n leaf v) (computed r n leaf given (n - v.level)) (given (n - v.level + 1))

-- the hash input that an opening gives at a node on its leaf's way
unfoldable pub input_at : Rule → ℕ → ℕ → Given → Node → List ℕ
input_at r n leaf given v = r.input v (map (known r n leaf given) (parents n v))

-- 'An opening is right if its leaf label is the hash of its left siblings there, and hashing upward gives the root.'
abbrev pub LeafRight : Rule → ℕ → ℕ → Given → Type 0
LeafRight r n leaf given = given 0 ≡ r.hash (input_at r n leaf given (node n leaf))

abbrev pub RootRight : Rule → ℕ → ℕ → Given → Label → Type 0
RootRight r n leaf given root_label = computed r n leaf given n ≡ root_label

pub record Right (r : Rule) (n leaf : ℕ) (given : Given) (root_label : Label) : Type 0 where
  pub leaf_right : LeafRight r n leaf given
  pub root_right : RootRight r n leaf given root_label
