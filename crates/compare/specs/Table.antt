-- The comparison's table of both child labels. A node on an opening's way takes 64 bytes, an opening 40 of them, the lowest node
-- first. Contracts of the comparison's callers do not cite it.
use Rattle.std.specs.Prelude.{◌≡◌, ℕ, suc, ◌+◌, ◌-◌, ◌*◌, ◌≤◌, ◌<◌, Bool, not, List, ltb, length, get_or, take, drop}
use Rattle.base.specs.Choice.{both}
use Rattle.base.specs.Bytes.{joined}
use Rattle.base.specs.Lists.{same_bytes}
use Rattle.base.specs.Limits.{max_depth, max_challenges}
use Rattle.tree.specs.Labels.{Rule}
use Rattle.tree.specs.Openings.{Given, opening_size}
use Rattle.tree.specs.Disagreement.{shared, children_known}
use Rattle.labelling.specs.Rule.{stamp_rule}
use Rattle.opening_check.specs.OpeningCheck.{given_by}

-- the leaf of opening i, from 1
abbrev pub leaf_of : List ℕ → ℕ → ℕ
leaf_of leaves i = get_or leaves (i - 1) 0

-- what the checks leave: so many leaves, and their openings end to end
pub record Sized (n : ℕ) (leaves openings : List ℕ) : Type 0 where
  pub most : n ≤ max_depth
  pub few : length leaves ≤ max_challenges
  pub whole : length openings ≡ length leaves * opening_size n

-- the bytes of a row: 64 for each level; and of the table
abbrev pub row_size : ℕ
row_size = 64 * max_depth

abbrev pub table_size : ℕ
table_size = max_challenges * row_size

-- part i of parts of one width
abbrev pub part_of : ℕ → List ℕ → ℕ → List ℕ
part_of width bytes i = take width (drop (width * i) bytes)

-- a row: both child labels of each node on the way of one opening, of which k are filled, and behind them what stood there before
pub record RowOf (r : Rule) (n leaf : ℕ) (given : Given) (k : ℕ) (before row : List ℕ) : Type 0 where
  pub filled : (h : ℕ) → h < k → part_of 64 row h ≡ joined (children_known r n leaf given (n - suc h))
  pub kept : drop (64 * k) row ≡ drop (64 * k) before

-- the table, of which the rows of k openings are filled, and behind them what stood there before
pub record TableOf (edition : ℕ) (statement : List ℕ) (n : ℕ) (leaves openings : List ℕ) (k : ℕ) (before table : List ℕ) : Type 0 where
  pub rows :
      (i : ℕ) → i < k →
      RowOf
      (stamp_rule edition n statement)
      n
      (get_or leaves i 0)
      (given_by (take (opening_size n) (drop (i * opening_size n) openings)))
      n
      (part_of row_size before i)
      (part_of row_size table i)
  pub kept : drop (row_size * k) table ≡ drop (row_size * k) before

-- the child labels of the node of level l on the way of opening i, from 1
unfoldable pub cell : ℕ → List ℕ → ℕ → ℕ → List ℕ
cell n table i l = take 64 (drop (row_size * (i - 1) + 64 * (n - (l + 1))) table)

-- leaves, and a table with room for their openings
pub record Inside (n : ℕ) (leaves table : List ℕ) : Type 0 where
  pub most : n ≤ max_depth
  pub few : length leaves ≤ max_challenges
  pub wide : length table ≡ table_size

-- openings i and j disagree at their shared inner node of level l, as the table has them
unfoldable pub table_disagreement : ℕ → List ℕ → List ℕ → ℕ → ℕ → ℕ → Bool
table_disagreement n leaves table i j l =
    both
    (both (ltb l n) (shared n (leaf_of leaves i) (leaf_of leaves j) l))
    (not (same_bytes (cell n table i l) (cell n table j l)))
