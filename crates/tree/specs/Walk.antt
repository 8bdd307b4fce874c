-- The walk from a node down to the one that stands at a given place of the labelling order.
use Rattle.std.specs.Prelude.{ℕ, zero, suc, ◌+◌, ◌-◌, ◌*◌, ◌/◌, ◌^◌, List, [], ◌∷◌, ◌++◌, ltb}
use Rattle.base.specs.Choice.{pick, odd}
use Rattle.tree.specs.Nodes.{Node, node, left_child, right_child}

-- the number of nodes of a subtree of height h; of the whole tree it is document 01's N = 2^(n+1) − 1
unfoldable pub nodes_in : ℕ → ℕ
nodes_in h = 2 ^ (h + 1) - 1

-- the node at place k, from 0, of the labelling order of the subtree of height h at v
unfoldable pub node_at : ℕ → Node → ℕ → Node
node_at zero v k = v
node_at (suc h) v k =
    pick (ltb k (nodes_in h)) (node_at h (left_child v) k)
    (pick (ltb k (nodes_in h + nodes_in h)) (node_at h (right_child v) (k - nodes_in h)) v)

-- the node i levels below v and q places from the left edge of v's subtree there
abbrev pub below : Node → ℕ → ℕ → Node
below v i q = node (v.level + i) (v.position * 2 ^ i + q)

-- The left siblings on the way from level l + j, position p, strictly below level l, smallest level first.
unfoldable pub left_siblings_below : ℕ → ℕ → ℕ → List Node
left_siblings_below l zero p = []
left_siblings_below l (suc j) p = left_siblings_below l j (p / 2) ++ pick (odd p) (node (l + suc j) (p - 1) ∷ []) []
