-- Document 01, 'The tree', and section 4 of Cohen and Pietrzak: nodes, labelling order, ways to the root, parents.
use Rattle.std.specs.Prelude.{ℕ, zero, suc, ◌+◌, ◌-◌, ◌*◌, ◌/◌, ◌^◌, ◌≤◌, ◌<◌, Bool, List, [], ◌∷◌, ◌++◌, ltb, leb, eqb}
use Rattle.base.specs.Choice.{pick, both, odd}

-- A node by its level, counted from the root, and its position on that level.
pub record Node : Type 0 where
  pub level : ℕ
  pub position : ℕ

abbrev pub node : ℕ → ℕ → Node
node l p = record { level = l; position = p }

abbrev pub root : Node
root = node 0 0

abbrev pub same_node : Node → Node → Bool
same_node v w = both (eqb v.level w.level) (eqb v.position w.position)

-- The tree of depth n: positions 0 to 2^l − 1 on each level l from 0 to n. Its leaves are those of level n.
abbrev pub InTree : ℕ → Node → Type 0
InTree n v = (v.level ≤ n) × (v.position < 2 ^ v.level)

-- 'A node at level l < n, position p, has children 2p and 2p + 1 on level l + 1.'
abbrev pub left_child : Node → Node
left_child v = node (v.level + 1) (2 * v.position)

abbrev pub right_child : Node → Node
right_child v = node (v.level + 1) (2 * v.position + 1)

-- the node above
abbrev pub above : Node → Node
above v = node (v.level - 1) (v.position / 2)

-- Labelling order of the subtree of height h at a node: 'a left subtree, then the right, then the node above'.
unfoldable pub order_below : ℕ → Node → List Node
order_below zero v = v ∷ []
order_below (suc h) v = order_below h (left_child v) ++ order_below h (right_child v) ++ v ∷ []

unfoldable pub labelling_order : ℕ → List Node
labelling_order n = order_below n root

-- The node lies on the way from a leaf to the root, both included.
abbrev pub on_way : ℕ → ℕ → Node → Bool
on_way n leaf v = both (leb v.level n) (eqb v.position (leaf / 2 ^ (n - v.level)))

-- The left siblings of nodes on the way from level l, position p, to the root, itself included, smallest level first.
unfoldable pub left_siblings : ℕ → ℕ → List Node
left_siblings zero p = []
left_siblings (suc l) p = left_siblings l (p / 2) ++ pick (odd p) (node (suc l) (p - 1) ∷ []) []

-- Parents, in the order in which edition 1 hashes their labels (`ordered` has each edition's): an inner node's are its two children, left
-- before right; a leaf's are the left siblings on its way, smallest level first.
unfoldable pub parents : ℕ → Node → List Node
parents n v = pick (ltb v.level n) (left_child v ∷ right_child v ∷ []) (left_siblings v.level v.position)
