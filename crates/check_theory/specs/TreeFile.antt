-- The file made of the labelling's own openings. It is the same at every memory level.
use Rattle.std.specs.Prelude.{ℕ, zero, suc, List, [], ◌∷◌, ◌++◌, map}
use Rattle.base.specs.Bytes.{joined}
use Rattle.tree.specs.Nodes.{root}
use Rattle.tree.specs.Labels.{Label, label}
use Rattle.tree.specs.Openings.{opening_nodes}
use Rattle.labelling.specs.Rule.{stamp_rule}
use Rattle.file_head.specs.Challenge.{challenge_leaf}
use Rattle.file_head.specs.Layout.{file}

-- the root's label, in an edition's tree
abbrev pub root_of : ℕ → List ℕ → ℕ → Label
root_of edition statement n = label (stamp_rule edition n statement) n root

-- a leaf's opening, as bytes
abbrev pub opening_of : ℕ → List ℕ → ℕ → ℕ → List ℕ
opening_of edition statement n leaf = joined (map (label (stamp_rule edition n statement) n) (opening_nodes n leaf))

-- the opening of challenge i, from 1
abbrev pub challenged_opening : ℕ → List ℕ → ℕ → ℕ → List ℕ
challenged_opening edition statement n i = opening_of edition statement n (challenge_leaf edition n statement (root_of edition statement n) i)

-- the openings of challenges 1 to t
unfoldable pub tree_openings : ℕ → List ℕ → ℕ → ℕ → List (List ℕ)
tree_openings edition statement n zero = []
tree_openings edition statement n (suc t) = tree_openings edition statement n t ++ challenged_opening edition statement n (suc t) ∷ []

unfoldable pub tree_file : ℕ → List ℕ → ℕ → ℕ → List ℕ
tree_file edition statement n t = file edition statement (root_of edition statement n) n t (tree_openings edition statement n t)
