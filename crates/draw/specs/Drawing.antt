-- Document 01, 'Drawing the chain', with its row: all file checks; 16, if no pair disagrees.
use Rattle.std.specs.Prelude.{◌≡◌, ℕ, zero, suc, ◌+◌, List, [], ◌∷◌, ltb, length, drop, Option, Some, None, Result, Ok, Err}
use Rattle.base.specs.Choice.{pick}
use Rattle.base.specs.Bytes.{written}
use Rattle.base.specs.Number.{number_of}
use Rattle.base.specs.Row.{is_done}
use Rattle.chain_theory.specs.Ways.{chain, chain_codes}
use Rattle.file_head.specs.Challenge.{challenge_leaf}
use Rattle.file_head.specs.Head.{HeadAnswer, numbers, not_read, head_of, head_edition, root_at}
use Rattle.proof_file.specs.FileCheck.{found_in, file_check}
use Rattle.base.specs.declared.refusal.Rejection.{Rejection}
use Rattle.compare.specs.declared.Pair.{Pair}
use Rattle.compare.specs.FirstPair.{disagree_at_level}
use Rattle.compare.specs.Comparison.{first_disagreement, first_input, second_input}
use Rattle.draw.specs.declared.Drawing.{Drawing}
use Rattle.draw.specs.declared.Drawing.TheVariants.{Chain, Clash}

-- what drawing answers: the refusal with the opening it was found in as one number, or the chain's count, or a clash: the pair
-- i < j, from 1, and the level
pub data DrawingAnswer : Type 0 where
  not_drawn : ℕ → DrawingAnswer
  drawn_chain : ℕ → DrawingAnswer
  drawn_clash : ℕ → ℕ → ℕ → DrawingAnswer

abbrev pub drawn_answer : Drawing → DrawingAnswer
drawn_answer (Chain count) = drawn_chain count
drawn_answer (Clash clash) = drawn_clash clash.pair.first clash.pair.second clash.pair.level

abbrev pub drawing_answer : Result Drawing Rejection → DrawingAnswer
drawing_answer (Ok drawing) = drawn_answer drawing
drawing_answer (Err r) = not_drawn (found_in r.opening (number_of r.refusal))

-- the leaves of `left` challenges from i on
unfoldable pub leaves_from : ℕ → ℕ → List ℕ → List ℕ → ℕ → ℕ → List ℕ
leaves_from edition n statement root i zero = []
leaves_from edition n statement root i (suc left) = challenge_leaf edition n statement root i ∷ leaves_from edition n statement root (i + 1) left

-- where the head's numbers end
abbrev pub numbers_end : HeadAnswer → ℕ
numbers_end (numbers e n t at) = at
numbers_end (not_read r) = 0

-- the edition of the bytes as a proof: the one that its head says
unfoldable pub proof_edition : List ℕ → ℕ
proof_edition bytes = head_edition (head_of bytes)

-- 'The leaves opened are those of its challenges 1 to t.'
unfoldable pub leaves_of : List ℕ → List ℕ → ℕ → ℕ → List ℕ
leaves_of bytes statement n t = leaves_from (proof_edition bytes) n statement (root_at bytes (numbers_end (head_of bytes))) 1 t

-- the openings, which follow the head
unfoldable pub openings_of : List ℕ → List ℕ
openings_of bytes = drop (numbers_end (head_of bytes) + 64) bytes

-- the first pair of a proof's openings that disagrees
unfoldable pub pair_of : List ℕ → List ℕ → ℕ → ℕ → Option Pair
pair_of bytes statement n t = first_disagreement (proof_edition bytes) statement n (leaves_of bytes statement n t) (openings_of bytes)

-- where no pair disagrees; 16: the list has fewer places than the count
abbrev pub drawn_from : Option Pair → ℕ → ℕ → DrawingAnswer
drawn_from (Some pair) count list = drawn_clash pair.first pair.second pair.level
drawn_from None count list = pick (ltb list count) (not_drawn (found_in 0 16)) (drawn_chain count)

-- all file checks first
abbrev pub drawn_if : ℕ → DrawingAnswer → DrawingAnswer
drawn_if code drawing = pick (is_done code) drawing (not_drawn code)

-- the answer, for a list of so many places
unfoldable pub drawing_of : List ℕ → List ℕ → ℕ → ℕ → ℕ → DrawingAnswer
drawing_of bytes statement n t list =
    drawn_if (file_check bytes statement n t)
    (drawn_from (pair_of bytes statement n t) (length (chain n (leaves_of bytes statement n t))) list)

-- the list afterwards: 'later places keep what they had'; untouched but for a chain
abbrev pub list_after : DrawingAnswer → List ℕ → List ℕ → List ℕ
list_after (drawn_chain count) codes list = written list 0 codes
list_after (drawn_clash i j l) codes list = list
list_after (not_drawn code) codes list = list

unfoldable pub drawn_list : List ℕ → List ℕ → ℕ → ℕ → List ℕ → List ℕ
drawn_list bytes statement n t list =
    list_after (drawing_of bytes statement n t (length list)) (chain_codes n (leaves_of bytes statement n t)) list

-- the two inputs of a clash, all zero where there is none
abbrev pub clash_pair : DrawingAnswer → Option Pair
clash_pair (drawn_clash i j l) = disagree_at_level i j l
clash_pair (drawn_chain count) = None
clash_pair (not_drawn code) = None

unfoldable pub first_drawn : List ℕ → List ℕ → ℕ → ℕ → ℕ → List ℕ
first_drawn bytes statement n t list =
    first_input (proof_edition bytes) statement n (leaves_of bytes statement n t) (openings_of bytes)
    (clash_pair (drawing_of bytes statement n t list))

unfoldable pub second_drawn : List ℕ → List ℕ → ℕ → ℕ → ℕ → List ℕ
second_drawn bytes statement n t list =
    second_input (proof_edition bytes) statement n (leaves_of bytes statement n t) (openings_of bytes)
    (clash_pair (drawing_of bytes statement n t list))

-- a clash that was drawn has these inputs
abbrev pub HasInputs : List ℕ → List ℕ → Drawing → Type 0
HasInputs first second (Chain count) = Unit
HasInputs first second (Clash clash) = (clash.first ≡ first) × (clash.second ≡ second)
