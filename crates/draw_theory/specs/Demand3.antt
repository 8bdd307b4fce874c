-- Document 01, 'Drawing the chain' and 'Words of demand 3': what is claimed of a drawing.
use Rattle.std.specs.Prelude.{◌≡◌, ℕ, ◌+◌, ◌-◌, ◌*◌, ◌^◌, ◌≤◌, ◌<◌, ◌↔◌, Bool, true, false, List, map, length, get_or, take, drop}
use Rattle.base.specs.Choice.{pick, passing}
use Rattle.base.specs.Bytes.{zeros}
use Rattle.base.specs.Row.{is_done}
use Rattle.sha256.specs.Digest.{digest}
use Rattle.tree.specs.Nodes.{Node, root, on_way, labelling_order, parents}
use Rattle.tree.specs.Labels.{ordered}
use Rattle.tree.specs.Held.{among}
use Rattle.tree.specs.Openings.{Given, input_at}
use Rattle.tree.specs.Disagreement.{way_node, disagree_at}
use Rattle.labelling.specs.Rule.{stamp_rule}
use Rattle.chain_theory.specs.Ways.{chain, code}
use Rattle.chain_theory.specs.Counts.{leaves_opened, largest_empty}
use Rattle.chain.specs.PlanRow.{plan_row, planned_count, planned_list}
use Rattle.opening_check.specs.OpeningCheck.{given_by}
use Rattle.file_head.specs.Challenge.{challenge_leaf}
use Rattle.file_head.specs.Head.{head_of, root_at, opening_at}
use Rattle.proof_file.specs.FileCheck.{file_check}
use Rattle.draw.specs.Drawing.{DrawingAnswer, not_drawn, drawn_chain, numbers_end, proof_edition, leaves_of, drawing_of, drawn_list, first_drawn, second_drawn}

-- 'A proof is accepted if no check of the two File rows below refuses it.'
abbrev pub IsAccepted : List ℕ → List ℕ → ℕ → ℕ → Type 0
IsAccepted bytes statement n t = file_check bytes statement n t ≡ 0

-- ---- openings
-- the proof's root
unfoldable pub proof_root : List ℕ → List ℕ
proof_root bytes = root_at bytes (numbers_end (head_of bytes))

-- the leaf of challenge i, from 1
unfoldable pub opened_leaf : List ℕ → List ℕ → ℕ → ℕ → ℕ
opened_leaf bytes statement n i = challenge_leaf (proof_edition bytes) n statement (proof_root bytes) i

-- the labels that opening i gives
unfoldable pub opened_given : List ℕ → ℕ → ℕ → Given
opened_given bytes n i = given_by (opening_at bytes n (numbers_end (head_of bytes)) i)

-- one of the t openings passes a node: the node is on its leaf's way to the root
pub record Passes (bytes statement : List ℕ) (n t i : ℕ) (v : Node) : Type 0 where
  pub positive : 1 ≤ i
  pub small : i ≤ t
  pub through : on_way n (opened_leaf bytes statement n i) v ≡ true

-- 'At each node on its leaf's way to the root an opening gives one hash input'
unfoldable pub opened_input : List ℕ → List ℕ → ℕ → ℕ → Node → List ℕ
opened_input bytes statement n i v =
    input_at (stamp_rule (proof_edition bytes) n statement) n (opened_leaf bytes statement n i) (opened_given bytes n i) v

-- 'The node's hash is SHA-256 of that input'
abbrev pub opened_hash : List ℕ → List ℕ → ℕ → ℕ → Node → List ℕ
opened_hash bytes statement n i v = digest (opened_input bytes statement n i v)

-- ---- disagreement
-- openings i and j disagree at their shared inner node of level l
unfoldable pub disagreeing : List ℕ → List ℕ → ℕ → ℕ → ℕ → ℕ → Bool
disagreeing bytes statement n i j l =
    disagree_at
    (stamp_rule (proof_edition bytes) n statement)
    n
    (opened_leaf bytes statement n i)
    (opened_given bytes n i)
    (opened_leaf bytes statement n j)
    (opened_given bytes n j)
    l

-- no two of the t openings disagree
abbrev pub NoneDisagree : List ℕ → List ℕ → ℕ → ℕ → Type 0
NoneDisagree bytes statement n t =
    (i j l : ℕ) → 1 ≤ i → i < j → j ≤ t → disagreeing bytes statement n i j l ≡ false

-- some two of them disagree
pub record SomeDisagree (bytes statement : List ℕ) (n t : ℕ) : Type 0 where
  pub first : ℕ
  pub second : ℕ
  pub level : ℕ
  pub positive : 1 ≤ first
  pub ordered : first < second
  pub small : second ≤ t
  pub disagrees : disagreeing bytes statement n first second level ≡ true

-- 'the first pair i < j (by i, then j), the smallest such level'
pub record FirstToDisagree (bytes statement : List ℕ) (n t i j l : ℕ) : Type 0 where
  pub positive : 1 ≤ i
  pub ordered : i < j
  pub small : j ≤ t
  pub disagrees : disagreeing bytes statement n i j l ≡ true
  pub first_by_i : (a b k : ℕ) → 1 ≤ a → a < i → a < b → b ≤ t → disagreeing bytes statement n a b k ≡ false
  pub then_by_j : (b k : ℕ) → i < b → b < j → disagreeing bytes statement n i b k ≡ false
  pub smallest_level : (k : ℕ) → k < l → disagreeing bytes statement n i j k ≡ false

-- ---- a chain
-- 2k − 1 + c, over the leaves of challenges 1 to t: k different ones, c largest subtrees that hold none
abbrev pub chain_length : List ℕ → List ℕ → ℕ → ℕ → ℕ
chain_length bytes statement n t =
    2 * leaves_opened (leaves_of bytes statement n t) - 1 + largest_empty n (leaves_of bytes statement n t)

-- the nodes that are drawn
abbrev pub drawn_nodes : List ℕ → List ℕ → ℕ → ℕ → List Node
drawn_nodes bytes statement n t = chain n (leaves_of bytes statement n t)

-- the count answered and the number of nodes written, with k ≥ 1
pub record Counted (bytes statement : List ℕ) (n t count : ℕ) (nodes : List Node) : Type 0 where
  pub some_leaf : 1 ≤ leaves_opened (leaves_of bytes statement n t)
  pub answered : count ≡ chain_length bytes statement n t
  pub written : length nodes ≡ chain_length bytes statement n t

-- a node's parents in the order in which an edition hashes their labels
abbrev pub hashed_parents : ℕ → ℕ → Node → List Node
hashed_parents edition n v = ordered edition (parents n v)

-- 'A hash stands whole in an input if it is one of the parents' labels there, after the first 41 bytes.' It is that of parent u of v.
pub record StandsWhole (edition n : ℕ) (u v : Node) (hash input : List ℕ) : Type 0 where
  pub size : length input ≡ 41 + 32 * length (parents n v)
  pub place : ℕ
  pub is_place : place < length (parents n v)
  pub is_parent : get_or (hashed_parents edition n v) place root ≡ u
  pub stands : take 32 (drop (41 + 32 * place) input) ≡ hash

-- each node's hash stands whole in the next one's input, whichever openings through the two give them
pub record HashChain (bytes statement : List ℕ) (n t : ℕ) (nodes : List Node) : Type 0 where
  pub passed : (k : ℕ) → k < length nodes → (i : ℕ) × Passes bytes statement n t i (get_or nodes k root)
  pub one_input :
      (v : Node) (i j : ℕ) → Passes bytes statement n t i v → Passes bytes statement n t j v →
      opened_input bytes statement n i v ≡ opened_input bytes statement n j v
  pub in_next :
      (k i j : ℕ) → k + 1 < length nodes → Passes bytes statement n t i (get_or nodes k root) →
      Passes bytes statement n t j (get_or nodes (k + 1) root) →
      StandsWhole
      (proof_edition bytes)
      n
      (get_or nodes k root)
      (get_or nodes (k + 1) root)
      (opened_hash bytes statement n i (get_or nodes k root))
      (opened_input bytes statement n j (get_or nodes (k + 1) root))

-- the last node is the root, and its hash, of every opening, is the proof's root
pub record EndsAtRoot (bytes statement : List ℕ) (n t : ℕ) (nodes : List Node) : Type 0 where
  pub some : 1 ≤ length nodes
  pub last : get_or nodes (length nodes - 1) root ≡ root
  pub hash : (i : ℕ) → 1 ≤ i → i ≤ t → Passes bytes statement n t i root × (opened_hash bytes statement n i root ≡ proof_root bytes)

-- the nodes on the opened leaves' ways, each once, in labelling order
pub record OnTheWays (bytes statement : List ℕ) (n t : ℕ) (nodes : List Node) : Type 0 where
  pub on_ways : (v : Node) → among nodes v ≡ true ↔ ((i : ℕ) × Passes bytes statement n t i v)
  pub once : (a b : ℕ) → a < length nodes → b < length nodes → get_or nodes a root ≡ get_or nodes b root → a ≡ b
  pub in_order : nodes ≡ passing (among nodes) (labelling_order n)

-- the nodes are written 'as 2^l + p in 64 bits'; 'later places keep what they had'
pub record ListDrawn (nodes : List Node) (list after : List ℕ) : Type 0 where
  pub codes : take (length nodes) after ≡ map code nodes
  pub fit : (k : ℕ) → k < length nodes → code (get_or nodes k root) < 2 ^ 64
  pub later : drop (length nodes) after ≡ drop (length nodes) list
  pub places : length after ≡ length list

-- ---- a clash
-- The two inputs are those that the first pair gives at its shared inner node of the smallest level. They differ and have one hash.
pub record IsClash (bytes statement : List ℕ) (n t i j l : ℕ) (first second : List ℕ) : Type 0 where
  pub pair : FirstToDisagree bytes statement n t i j l
  pub inner : l < n
  pub shared : way_node n (opened_leaf bytes statement n i) l ≡ way_node n (opened_leaf bytes statement n j) l
  pub first_is : first ≡ opened_input bytes statement n i (way_node n (opened_leaf bytes statement n i) l)
  pub second_is : second ≡ opened_input bytes statement n j (way_node n (opened_leaf bytes statement n j) l)
  pub first_size : length first ≡ 105
  pub second_size : length second ≡ 105
  pub differ : first ≡ second → ⊥
  pub same_hash : digest first ≡ digest second

-- ---- planning
-- what a drawing answers where planning answers so
abbrev pub planned_drawing : ℕ → ℕ → DrawingAnswer
planned_drawing row count = pick (is_done row) (drawn_chain count) (not_drawn (256 * row))

-- the answer and the list are those of planning from the challenged leaves
pub record AsPlanned (bytes statement : List ℕ) (n t : ℕ) (list : List ℕ) : Type 0 where
  pub answer :
      drawing_of bytes statement n t (length list) ≡
      planned_drawing
      (plan_row n (leaves_of bytes statement n t) (length list))
      (planned_count n (leaves_of bytes statement n t) (length list))
  pub after : drawn_list bytes statement n t list ≡ planned_list n (leaves_of bytes statement n t) list

-- ---- nothing drawn
-- '16, if no pair disagrees': 'A list is short if it has fewer places than the count.'
pub record ListShort (bytes statement : List ℕ) (n t list code : ℕ) : Type 0 where
  pub accepted : IsAccepted bytes statement n t
  pub agree : NoneDisagree bytes statement n t
  pub short : list < chain_length bytes statement n t
  pub refusal : code ≡ 256 * 16

-- list and inputs where no chain is drawn, and where no clash is
abbrev pub ListUntouched : List ℕ → List ℕ → ℕ → ℕ → List ℕ → Type 0
ListUntouched bytes statement n t list = drawn_list bytes statement n t list ≡ list

abbrev pub NoInputs : List ℕ → List ℕ → ℕ → ℕ → ℕ → Type 0
NoInputs bytes statement n t list =
    (first_drawn bytes statement n t list ≡ zeros 105) × (second_drawn bytes statement n t list ≡ zeros 105)
