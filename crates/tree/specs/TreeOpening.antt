-- The opening taken from the labelling, and the labels that an opening gives its leaf.
use Rattle.std.specs.Prelude.{ℕ, zero, suc, ◌+◌, ◌-◌, ◌/◌, ◌^◌, List, [], ◌∷◌, ◌++◌, map, get_or}
use Rattle.base.specs.Choice.{pick, odd}
use Rattle.tree.specs.Labels.{Label, Rule, label}
use Rattle.tree.specs.Openings.{opening_nodes, Given}

-- the tree's opening of a leaf, empty behind its last place
unfoldable pub tree_opening : Rule → ℕ → ℕ → Given
tree_opening r n leaf i = get_or (map (label r n) (opening_nodes n leaf)) i []

-- the given labels of the left siblings on the leaf's way on levels 1 to l, smallest level first
unfoldable pub left_given : ℕ → ℕ → Given → ℕ → List Label
left_given n leaf given zero = []
left_given n leaf given (suc l) =
    left_given n leaf given l ++ pick (odd (leaf / 2 ^ (n - suc l))) (given (n - suc l + 1) ∷ []) []
