-- W-207, 'Blocks beside labels': the 64-byte blocks that are compressed for a label.
use Rattle.std.specs.Prelude.{ℕ, ◌+◌, List}
use Rattle.base.specs.Limits.{max_label_input}
use Rattle.sha256.specs.Padding.{blocks_of}
use Rattle.sha256.specs.Digest.{blocks_hashed}
use Rattle.tree.specs.Nodes.{Node}
use Rattle.tree.specs.Labels.{input_size}
use Rattle.labelling.specs.Rule.{stamp_rule}
use Rattle.labelling.specs.Step.{next_node, hashed_labels}

-- those of the next label, as `next_label` is made: of the very input that it is the digest of
unfoldable pub next_blocks : ℕ → List ℕ → ℕ → Node → List ℕ → List ℕ → ℕ → ℕ
next_blocks edition statement h v front held k =
    let w : Node = next_node h v k in
    blocks_hashed ((stamp_rule edition (v.level + h) statement).input w (hashed_labels h v front held w))

-- those of a node's label in the tree of depth n
abbrev pub node_blocks : ℕ → Node → ℕ
node_blocks n w = blocks_of (input_size n w)

-- the most that a label takes: 21
abbrev pub most_blocks : ℕ
most_blocks = blocks_of max_label_input
