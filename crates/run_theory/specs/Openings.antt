-- What an opening and its output hold when k labels are made from a start.
use Rattle.std.specs.Prelude.{◌≡◌, ℕ, zero, suc, ◌-◌, ◌/◌, ◌^◌, ◌≤◌, ◌<◌, List, [], ◌∷◌, ◌++◌, eqb, take}
use Rattle.base.specs.Choice.{pick}
use Rattle.base.specs.Limits.{IsEdition, IsDepth, IsMemory}
use Rattle.tree.specs.Nodes.{Node, node, InTree, order_below}
use Rattle.tree.specs.Openings.{sibling, opening_size}
use Rattle.tree.specs.Store.{store_size}
use Rattle.opening.specs.declared.Opening.{Opening}
use Rattle.opening_places.specs.Places.{label_in, ancestor, beside, placed, copied_all}
use Rattle.opening.specs.Steps.{opening_of, new_opening, Open}
use Rattle.run_theory.specs.Reached.{label_of, held_bytes}

-- the store holds the label of each node of levels 0 to m in its slot, as a finished run left it
abbrev pub HoldsLabels : ℕ → List ℕ → ℕ → ℕ → List ℕ → Type 0
HoldsLabels edition statement n m store = (u : Node) → InTree m u → label_in store u ≡ label_of edition statement n u

-- the six conditions of a start, over the lengths of store and output
pub record Openable (edition n m leaf store out : ℕ) : Type 0 where
  pub exists : IsEdition edition
  pub depth : IsDepth n
  pub memory : IsMemory n m
  pub store_fits : store_size m ≤ store
  pub position : leaf < 2 ^ n
  pub out_fits : opening_size n ≤ out

-- the node at place i of the opening: the leaf at 0, at h + 1 the sibling of height h
unfoldable pub opening_node : ℕ → ℕ → ℕ → Node
opening_node n leaf zero = node n leaf
opening_node n leaf (suc h) = node (n - h) (sibling (leaf / 2 ^ h))

-- the siblings of levels 1 to l
unfoldable pub besides : ℕ → ℕ → ℕ → List Node
besides n leaf zero = []
besides n leaf (suc l) = besides n leaf l ++ beside n leaf (suc l) ∷ []

-- the nodes whose labels a start copies
unfoldable pub copied_nodes : ℕ → ℕ → ℕ → List Node
copied_nodes n m leaf = besides n leaf m ++ pick (eqb m n) (node n leaf ∷ []) []

-- the first k nodes that an opening labels anew
unfoldable pub anew_nodes : ℕ → ℕ → ℕ → ℕ → List Node
anew_nodes n m leaf k = take k (order_below (n - m) (ancestor n leaf m))

-- an output with the labels of some nodes, those of the opening, put in their places
unfoldable pub out_with : ℕ → List ℕ → ℕ → ℕ → List Node → List ℕ → List ℕ
out_with edition statement n leaf [] out = out
out_with edition statement n leaf (w ∷ ws) out = out_with edition statement n leaf ws (placed n leaf out w (label_of edition statement n w))

-- the output after k labels
unfoldable pub out_after : ℕ → List ℕ → ℕ → ℕ → ℕ → ℕ → List ℕ → List ℕ
out_after edition statement n m leaf k out = out_with edition statement n leaf (copied_nodes n m leaf ++ anew_nodes n m leaf k) out

-- a new opening with its output
abbrev pub new_open : ℕ → List ℕ → ℕ → ℕ → ℕ → List ℕ → List ℕ → Open
new_open edition statement n m leaf store out =
    record { opening = new_opening edition statement n m leaf; out = copied_all n m leaf store out }

-- the opening after k labels
abbrev pub opening_after : ℕ → List ℕ → ℕ → ℕ → ℕ → ℕ → Opening
opening_after edition statement n m leaf k =
    opening_of edition statement n m leaf k (held_bytes edition statement n (n - m) (ancestor n leaf m) k)

abbrev pub open_after : ℕ → List ℕ → ℕ → ℕ → ℕ → ℕ → List ℕ → Open
open_after edition statement n m leaf k out =
    record { opening = opening_after edition statement n m leaf k; out = out_after edition statement n m leaf k out }
