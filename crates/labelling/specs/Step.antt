-- One step of labelling the subtree of height h at a node v, in order, for every state: which node is next, which held
-- labels it hashes, and what is held afterwards. A run's subtree is the whole tree; an opening's lies below level m.
use Rattle.std.specs.Prelude.{ℕ, ◌+◌, ◌-◌, ◌*◌, ◌%◌, ◌^◌, Bool, List, ◌++◌, eqb, get_or, take, drop}
use Rattle.std.specs.Int.Count.{ones}
use Rattle.base.specs.Choice.{pick}
use Rattle.base.specs.Bytes.{zeros, written}
use Rattle.tree.specs.Nodes.{Node, root, order_below}
use Rattle.tree.specs.Labels.{Label, label_by, in_labels}
use Rattle.labelling.specs.Rule.{stamp_rule}

-- the next node when k of the subtree's nodes are labelled
abbrev pub next_node : ℕ → Node → ℕ → Node
next_node h v k = get_or (order_below h v) k root

-- the place of a node's label among the held ones: the one-bits of its position within the subtree
abbrev pub place_of : Node → Node → ℕ
place_of v w = ones (w.position % 2 ^ (w.level - v.level))

-- it is a leaf of the tree
abbrev pub is_leaf : ℕ → Node → Node → Bool
is_leaf h v w = eqb w.level (v.level + h)

-- The labels that a node hashes: a leaf's are those in front of the subtree and then all held before its place; an inner
-- node's are the two from its place on.
unfoldable pub hashed_labels : ℕ → Node → List ℕ → List ℕ → Node → List Label
hashed_labels h v front held w =
    in_labels (pick (is_leaf h v w) (front ++ take (32 * place_of v w) held) (take 64 (drop (32 * place_of v w) held)))

-- the next label, by an edition's rule in the tree whose leaves are the subtree's
unfoldable pub next_label : ℕ → List ℕ → ℕ → Node → List ℕ → List ℕ → ℕ → Label
next_label edition statement h v front held k =
    let w : Node = next_node h v k in
    label_by (stamp_rule edition (v.level + h) statement) w (hashed_labels h v front held w)

-- The held labels with the new one at its place; an inner node's second child gives up its place, which is set to zero.
unfoldable pub held_with : ℕ → Node → List ℕ → Node → Label → List ℕ
held_with h v held w label =
    let at : ℕ = 32 * place_of v w in
    pick (is_leaf h v w) (written held at label) (written (written held at label) (at + 32) (zeros 32))
