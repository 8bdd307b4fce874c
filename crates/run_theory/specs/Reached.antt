-- What runs and openings hold when k labels are made from a start: held labels and store, in the words of the tree's theory.
use Rattle.std.specs.Prelude.{ℕ, ◌-◌, List, [], ◌∷◌, ◌++◌, map, length, take}
use Rattle.base.specs.Limits.{held_size}
use Rattle.base.specs.Bytes.{zeros, joined}
use Rattle.tree.specs.Nodes.{Node, root, labelling_order}
use Rattle.tree.specs.Labels.{Label, label}
use Rattle.tree.specs.Held.{held_below}
use Rattle.labelling.specs.Rule.{stamp_rule}
use Rattle.run.specs.declared.Run.{Run}
use Rattle.run.specs.Steps.{run_of, stored}

-- the label of a node of an edition's tree of depth n for a statement
abbrev pub label_of : ℕ → List ℕ → ℕ → Node → Label
label_of edition statement n v = label (stamp_rule edition n statement) n v

-- some nodes' labels end to end
abbrev pub labels_of : ℕ → List ℕ → ℕ → List Node → List ℕ
labels_of edition statement n nodes = joined (map (label_of edition statement n) nodes)

-- The held labels, and zero elsewhere, when k nodes of the subtree of height h at v are labelled in a tree of depth n.
unfoldable pub held_bytes : ℕ → List ℕ → ℕ → ℕ → Node → ℕ → List ℕ
held_bytes edition statement n h v k =
    let labels : List ℕ = labels_of edition statement n (held_below h v k) in
    labels ++ zeros (held_size - length labels)

-- a store with the labels of some nodes, those of levels 0 to m, written in their slots
unfoldable pub store_with : ℕ → List ℕ → ℕ → ℕ → List Node → List ℕ → List ℕ
store_with edition statement n m [] store = store
store_with edition statement n m (w ∷ ws) store = store_with edition statement n m ws (stored m store w (label_of edition statement n w))

-- the store after k labels
unfoldable pub store_after : ℕ → List ℕ → ℕ → ℕ → ℕ → List ℕ → List ℕ
store_after edition statement n m k store = store_with edition statement n m (take k (labelling_order n)) store

-- the run after k labels
abbrev pub run_after : ℕ → List ℕ → ℕ → ℕ → ℕ → Run
run_after edition statement n m k =
    run_of edition statement n m k (held_bytes edition statement n n root k)
