-- Document 01, 'Drawing the chain': the nodes on the opened leaves' ways to the root, in labelling order, each once.
use Rattle.std.specs.Prelude.{ℕ, ◌+◌, ◌^◌, Bool, true, false, List, [], ◌∷◌, map}
use Rattle.base.specs.Choice.{pick, passing}
use Rattle.tree.specs.Nodes.{Node, on_way, labelling_order}

-- the node lies on the way of one of the leaves
unfoldable pub on_some_way : ℕ → List ℕ → Node → Bool
on_some_way n [] v = false
on_some_way n (leaf ∷ leaves) v = pick (on_way n leaf v) true (on_some_way n leaves v)

-- the chain's nodes
unfoldable pub chain : ℕ → List ℕ → List Node
chain n leaves = passing (on_some_way n leaves) (labelling_order n)

-- a node as it is written in a list: 2^l + p
abbrev pub code : Node → ℕ
code v = 2 ^ v.level + v.position

unfoldable pub chain_codes : ℕ → List ℕ → List ℕ
chain_codes n leaves = map code (chain n leaves)
