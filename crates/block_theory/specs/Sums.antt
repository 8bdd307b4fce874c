-- W-207, 'Blocks beside labels': the blocks of some nodes' labels added up, and what calls with budgets report.
use Rattle.std.specs.Prelude.{ℕ, zero, suc, ◌+◌, ◌-◌, List, [], ◌∷◌, ◌++◌, take, drop}
use Rattle.machine.specs.Calls.{labels_over}
use Rattle.tree.specs.Nodes.{Node, labelling_order, order_below}
use Rattle.labelling.specs.Blocks.{node_blocks}
use Rattle.run.specs.Steps as runs
use Rattle.run.specs.Steps.{Stamped}
use Rattle.opening_places.specs.Places.{ancestor}
use Rattle.opening.specs.Rows.{nodes_anew}
use Rattle.opening.specs.Steps as openings
use Rattle.opening.specs.Steps.{Open}
use Rattle.file_head.specs.Challenge.{challenge_leaf}
use Rattle.writing.specs.Steps as writings
use Rattle.writing.specs.Steps.{Written}

-- of some nodes of the tree of depth n
unfoldable pub blocks_sum : ℕ → List Node → ℕ
blocks_sum n [] = 0
blocks_sum n (w ∷ ws) = node_blocks n w + blocks_sum n ws

-- the k nodes that are labelled next in a tree of depth n where `made` are
abbrev pub next_nodes : ℕ → ℕ → ℕ → List Node
next_nodes n made k = take k (drop made (labelling_order n))

-- the k nodes that are labelled anew next for an opening for which `made` are
abbrev pub next_nodes_anew : ℕ → ℕ → ℕ → ℕ → ℕ → List Node
next_nodes_anew n m leaf made k = take k (drop made (order_below (n - m) (ancestor n leaf m)))

-- the nodes that are labelled anew for the openings of the first t challenges, one opening after another
unfoldable pub file_nodes : ℕ → List ℕ → List ℕ → ℕ → ℕ → ℕ → List Node
file_nodes edition statement root n m zero = []
file_nodes edition statement root n m (suc t) =
    file_nodes edition statement root n m t ++ next_nodes_anew n m (challenge_leaf edition n statement root (suc t)) 0 (nodes_anew n m)

-- the blocks of a whole tree, of a whole opening, and of the openings of the first t challenges
abbrev pub tree_blocks : ℕ → ℕ
tree_blocks n = blocks_sum n (labelling_order n)

abbrev pub opening_blocks : ℕ → ℕ → ℕ → ℕ
opening_blocks n m leaf = blocks_sum n (next_nodes_anew n m leaf 0 (nodes_anew n m))

abbrev pub file_blocks : ℕ → List ℕ → List ℕ → ℕ → ℕ → ℕ → ℕ
file_blocks edition statement root n m t = blocks_sum n (file_nodes edition statement root n m t)

-- what calls report, added up: of a run, an opening and a file
abbrev pub reported_blocks : Stamped → List ℕ → ℕ
reported_blocks s budgets = labels_over runs.advanced runs.blocks_in s budgets

abbrev pub reported_blocks_anew : List ℕ → Open → List ℕ → ℕ
reported_blocks_anew store s budgets = labels_over (openings.advanced store) (openings.blocks_in store) s budgets

abbrev pub reported_blocks_written : List ℕ → Written → List ℕ → ℕ
reported_blocks_written store s budgets = labels_over (writings.advanced store) (writings.blocks_in store) s budgets
