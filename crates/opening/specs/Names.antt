-- Short names for the contracts.
use Rattle.std.specs.Prelude.{ℕ, ◌-◌, List}
use Rattle.tree.specs.Nodes.{Node}
use Rattle.tree.specs.Labels.{Label}
use Rattle.labelling.specs.Step.{next_node, next_label}
use Rattle.labelling.specs.Blocks.{next_blocks}
use Rattle.opening_places.specs.Places.{ancestor}
use Rattle.opening.specs.declared.Opening.{Opening}
use Rattle.opening.specs.Steps.{Open}

abbrev pub open_of : Opening → List ℕ → Open
open_of o out = record { opening = o; out = out }

-- the next node below the leaf's ancestor on level m, its label over those of the left siblings above, and the label's blocks
abbrev pub next_anew : ℕ → ℕ → ℕ → ℕ → Node
next_anew n m leaf made = next_node (n - m) (ancestor n leaf m) made

abbrev pub label_anew : ℕ → List ℕ → ℕ → ℕ → ℕ → List ℕ → List ℕ → ℕ → Label
label_anew edition statement n m leaf aboves held made = next_label edition statement (n - m) (ancestor n leaf m) aboves held made

abbrev pub blocks_anew : ℕ → List ℕ → ℕ → ℕ → ℕ → List ℕ → List ℕ → ℕ → ℕ
blocks_anew edition statement n m leaf aboves held made = next_blocks edition statement (n - m) (ancestor n leaf m) aboves held made
