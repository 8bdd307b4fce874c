-- Document 01, 'Runs in lent memory', an opening: which labels belong to it and where each stands, what starting it copies from
-- the store, and the left siblings' labels that the store holds.
use Rattle.std.specs.Prelude.{ℕ, zero, suc, ◌+◌, ◌-◌, ◌*◌, ◌/◌, ◌^◌, List, map, eqb, take, drop}
use Rattle.base.specs.Choice.{pick}
use Rattle.base.specs.Bytes.{joined, written}
use Rattle.tree.specs.Nodes.{Node, node, same_node, left_siblings}
use Rattle.tree.specs.Labels.{Label}
use Rattle.tree.specs.Store.{slot}
use Rattle.tree.specs.Openings.{sibling}

-- the label that the store holds of a node
abbrev pub label_in : List ℕ → Node → Label
label_in store v = take 32 (drop (slot v) store)

-- the leaf's ancestor on level l
abbrev pub ancestor : ℕ → ℕ → ℕ → Node
ancestor n leaf l = node l (leaf / 2 ^ (n - l))

-- its sibling, which is part of the opening
abbrev pub beside : ℕ → ℕ → ℕ → Node
beside n leaf l = node l (sibling (leaf / 2 ^ (n - l)))

-- The output with the label of a node put in its place if it belongs to the opening: the leaf's first, then the siblings' from
-- level n to level 1.
unfoldable pub placed : ℕ → ℕ → List ℕ → Node → Label → List ℕ
placed n leaf out w label =
    pick (same_node w (node n leaf)) (written out 0 label)
    (pick (same_node w (beside n leaf w.level)) (written out (32 * (n - w.level + 1)) label) out)

-- the output with the siblings of levels 1 to l copied from the store
unfoldable pub copied : ℕ → ℕ → List ℕ → List ℕ → ℕ → List ℕ
copied n leaf store out zero = out
copied n leaf store out (suc l) =
    let w : Node = beside n leaf (suc l) in
    placed n leaf (copied n leaf store out l) w (label_in store w)

-- 'Starting it copies what levels 1 to m of the store hold of it': with m = n the leaf's label too
unfoldable pub copied_all : ℕ → ℕ → ℕ → List ℕ → List ℕ → List ℕ
copied_all n m leaf store out =
    let siblings_copied : List ℕ = copied n leaf store out m in
    pick (eqb m n) (placed n leaf siblings_copied (node n leaf) (label_in store (node n leaf))) siblings_copied

-- 'Left siblings on levels 1 to m are read from the store': their labels, smallest level first
unfoldable pub front : ℕ → ℕ → ℕ → List ℕ → List ℕ
front n m leaf store = joined (map (label_in store) (left_siblings m (leaf / 2 ^ (n - m))))
