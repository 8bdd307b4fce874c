-- Document 01, 'Runs in lent memory': held is a label whose parent node in the tree is not yet labelled.
use Rattle.std.specs.Prelude.{ℕ, Bool, true, false, not, List, [], ◌∷◌, eqb, take}
use Rattle.base.specs.Choice.{pick, passing}
use Rattle.tree.specs.Nodes.{Node, root, same_node, above, order_below}

-- the node is one of the list
unfoldable pub among : List Node → Node → Bool
among [] v = false
among (w ∷ ws) v = pick (same_node v w) true (among ws v)

-- the node above is not yet labelled; the root has none above
abbrev pub is_held : List Node → Node → Bool
is_held labelled v = pick (eqb v.level 0) true (not (among labelled (above v)))

-- the nodes whose labels are held when k nodes of the subtree of height h at v are labelled, in the order made
unfoldable pub held_below : ℕ → Node → ℕ → List Node
held_below h v k = passing (is_held (take k (order_below h v))) (take k (order_below h v))

-- those of a run of depth n after k labels
abbrev pub held : ℕ → ℕ → List Node
held n k = held_below n root k
