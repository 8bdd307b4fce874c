-- Document 01, 'Words of demand 3': k, the number of different leaves opened, and c, the number of largest subtrees that hold
-- none of them.
use Rattle.std.specs.Prelude.{ℕ, zero, suc, ◌/◌, Bool, true, false, not, List, [], ◌∷◌, eqb, length}
use Rattle.base.specs.Choice.{pick, both, passing}
use Rattle.tree.specs.Nodes.{Node, node, labelling_order}
use Rattle.chain_theory.specs.Ways.{on_some_way}

unfoldable pub opened : List ℕ → ℕ → Bool
opened [] leaf = false
opened (x ∷ xs) leaf = pick (eqb x leaf) true (opened xs leaf)

-- the different leaves of a list
unfoldable pub different : List ℕ → List ℕ
different [] = []
different (leaf ∷ leaves) = pick (opened leaves leaf) (different leaves) (leaf ∷ different leaves)

-- k
abbrev pub leaves_opened : List ℕ → ℕ
leaves_opened leaves = length (different leaves)

-- 'A subtree is a node with all below it': it holds an opened leaf just when its node lies on that leaf's way.
abbrev pub holds_none : ℕ → List ℕ → Node → Bool
holds_none n leaves v = not (on_some_way n leaves v)

-- the subtree at level l, position p, lies inside another that holds no opened leaf
unfoldable pub inside_empty : ℕ → List ℕ → ℕ → ℕ → Bool
inside_empty n leaves zero p = false
inside_empty n leaves (suc l) p = pick (holds_none n leaves (node l (p / 2))) true (inside_empty n leaves l (p / 2))

-- 'a largest one holding no opened leaf if it holds none and lies inside no other that holds none'
abbrev pub is_largest_empty : ℕ → List ℕ → Node → Bool
is_largest_empty n leaves v = both (holds_none n leaves v) (not (inside_empty n leaves v.level v.position))

-- c
unfoldable pub largest_empty : ℕ → List ℕ → ℕ
largest_empty n leaves = length (passing (is_largest_empty n leaves) (labelling_order n))
