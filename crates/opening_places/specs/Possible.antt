-- What a call that is not refused knows of an opening, and short names for the contracts.
use Rattle.std.specs.Prelude.{ℕ, ◌-◌, ◌*◌, ◌^◌, ◌≤◌, ◌<◌, List, [], ◌∷◌, map}
use Rattle.base.specs.Choice.{pick, odd}
use Rattle.base.specs.Bytes.{joined}
use Rattle.base.specs.Limits.{max_depth, max_memory}
use Rattle.tree.specs.Nodes.{node}
use Rattle.opening_places.specs.Places.{label_in}

-- n is 1 to 40, m at most min(n, max_memory), and the leaf one of the tree of depth n
pub record Possible (n m leaf : ℕ) : Type 0 where
  pub some : 1 ≤ n
  pub deep : n ≤ max_depth
  pub above : m ≤ n
  pub kept : m ≤ max_memory
  pub inside : leaf < 2 ^ n

-- the bytes of the left siblings' labels on levels 1 to m, at most: 448
abbrev pub front_size : ℕ
front_size = 32 * max_memory

-- the label that the store holds of a node's left sibling, and nothing if it has none
abbrev pub left_label : List ℕ → ℕ → ℕ → List ℕ
left_label store l p = joined (map (label_in store) (pick (odd p) (node l (p - 1) ∷ []) []))
