-- Document 01, the planning program: what it prints, in bytes.
use Rattle.std.specs.Prelude.{ℕ, ◌+◌, ◌*◌, List, [], ◌∷◌, ◌++◌, map, length, get_or, drop}
use Rattle.base.specs.Limits.{max_chain}
use Rattle.base.specs.Choice.{pick}
use Rattle.base.specs.Bytes.{joined}
use Rattle.base.specs.Row.{is_done}
use Rattle.tree.specs.Nodes.{Node}
use Rattle.chain_theory.specs.Ways.{chain}
use Rattle.chain_theory.specs.Counts.{leaves_opened}
use Rattle.chain.specs.PlanRow.{plan_row}
use Rattle.decimal.specs.Ascii.{ascii}
use Rattle.decimal.specs.Text.{decimal, field}
use Rattle.decimal.specs.Numbers.{numbers}
use Rattle.planning.specs.Input.{unreadable}

-- `refused`, a blank and the number, a line feed
unfoldable pub refused_text : ℕ → List ℕ
refused_text k = field (ascii "refused ") k ++ 10 ∷ []

-- `depth `, ` leaves ` and ` chain `, each with its number, a line feed
unfoldable pub head_text : ℕ → ℕ → ℕ → List ℕ
head_text n k c =
    field (ascii "depth ") n
    ++ field (ascii " leaves ") k
    ++ field (ascii " chain ") c
    ++ 10 ∷ []

-- level, a blank and position, a line feed
unfoldable pub node_text : Node → List ℕ
node_text v = decimal v.level ++ field (32 ∷ []) v.position ++ 10 ∷ []

unfoldable pub nodes_text : List Node → List ℕ
nodes_text nodes = joined (map node_text nodes)

-- the list that the program lends for the chain: 'With t = 200 at most 6,855 nodes.'
abbrev pub places : ℕ
places = max_chain

-- the text of planning's answer, by its number
abbrev pub answer_text : ℕ → List ℕ → ℕ → List ℕ
answer_text n leaves number =
    pick (is_done number) (head_text n (leaves_opened leaves) (length (chain n leaves)) ++ nodes_text (chain n leaves)) (refused_text number)

unfoldable pub plan_text : ℕ → List ℕ → List ℕ
plan_text n leaves = answer_text n leaves (plan_row n leaves places)

-- all that is printed on an input: 'Before all else, 17', else the plan of the first number, the depth, and the others, the leaves
unfoldable pub printed : List ℕ → List ℕ
printed bytes = pick (unreadable bytes) (refused_text 17) (plan_text (get_or (numbers bytes) 0 0) (drop 1 (numbers bytes)))

-- room for any of it: a head of 82 bytes and 6,855 lines of 42
abbrev pub max_output : ℕ
max_output = 82 + 42 * places
