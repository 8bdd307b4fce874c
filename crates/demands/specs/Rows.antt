-- Document 01's table 'The checks, by place', row by row: each condition as a fact of numbers and bytes, with its number.
use Rattle.std.specs.Prelude.{◌≡◌, ◌⊎◌, ℕ, zero, suc, ◌+◌, ◌-◌, ◌*◌, ◌%◌, ◌^◌, ◌≤◌, ◌<◌, min, List, [], ◌∷◌, ◌++◌, ltb, length, get_or, drop}
use Rattle.base.specs.Choice.{pick}
use Rattle.tree.specs.Openings.{LeafRight, RootRight}
use Rattle.tree.specs.Held.{held}
use Rattle.labelling.specs.Rule.{stamp_rule}
use Rattle.groups.specs.Groups.{groups_of}
use Rattle.run.specs.declared.Run.{Run}
use Rattle.run_record.specs.Layout.{record_of}
use Rattle.unit.specs.declared.StampingUnit.{StampingUnit}
use Rattle.unit.specs.Runs.{run_at}
use Rattle.opening.specs.declared.Opening.{Opening}
use Rattle.opening_check.specs.OpeningCheck.{given_by}
use Rattle.file_head.specs.Challenge.{challenge_leaf}
use Rattle.file_head.specs.Layout.{file_size}
use Rattle.file_head.specs.Head.{statement_at, root_at, opening_at}
use Rattle.chain_theory.specs.Ways.{chain}
use Rattle.decimal.specs.Numbers.{numbers}
use Rattle.writing.specs.declared.Writing.{Writing}
use Rattle.draw_theory.specs.Demand3.{NoneDisagree, chain_length}

-- a row: its conditions, each with the number answered, in the order listed
abbrev pub Row : Type 1
Row = List (Type 0 × ℕ)

-- 'Each is given just when its condition holds and no earlier one did.' Where none holds the answer is 0.
abbrev pub IsFirst : Row → ℕ → Type 0
IsFirst [] answer = answer ≡ 0
IsFirst (check ∷ row) answer = (check.0 × (answer ≡ check.1)) ⊎ ((check.0 → ⊥) × IsFirst row answer)

-- not low..high
abbrev pub Outside : ℕ → ℕ → ℕ → Type 0
Outside low high x = (low ≤ x) × (x ≤ high) → ⊥

-- | Hashing, each portion and the end | 5: over 2^61 − 1 bytes in all |
abbrev pub hashing : ℕ → ℕ → Row
hashing taken more = (2 ^ 61 - 1 < taken + more, 5) ∷ []

-- m over min(n, 20). W-209: 'Number 2 now means over the smaller of depth and 14'.
abbrev pub MemoryOver : ℕ → ℕ → Type 0
MemoryOver n m = min n 14 < m

-- | Starting a run | 1: n not 1..40; 2: m over min(n, 20), now 14; 3: store short |
abbrev pub starting_run : ℕ → ℕ → ℕ → Row
starting_run n m store = (Outside 1 40 n, 1) ∷ (MemoryOver n m, 2) ∷ (store < 32 * (2 ^ (m + 1) - 1), 3) ∷ []

-- W-206: '12 now means neither 1 nor 2', an edition that does not exist
abbrev pub NoEdition : ℕ → Type 0
NoEdition edition = Outside 1 2 edition

-- n not 1..40, m over its limit, or more labels made than there are to make. W-206: an edition 'that does not exist gets 4'.
abbrev pub Impossible : ℕ → ℕ → ℕ → ℕ → ℕ → Type 0
Impossible edition n m made all = NoEdition edition ⊎ (Outside 1 40 n ⊎ (MemoryOver n m ⊎ (all < made)))

-- | Continuing a run | 4: an edition that does not exist (W-206), n not 1..40, m over min(n, 20), now 14, or more labels made than there are to make; 3 |
abbrev pub continuing_run : Run → ℕ → Row
continuing_run run store =
    (Impossible run.edition run.depth run.memory run.made (2 ^ (run.depth + 1) - 1), 4)
    ∷ (store < 32 * (2 ^ (run.memory + 1) - 1), 3)
    ∷ []

-- W-206: '12 .. comes first where an opening, a head or a challenge is given its edition.'
-- | Starting an opening | 12; 1, 2, 3; 6: position 2^n or more; 7: output short |
abbrev pub starting_opening : ℕ → ℕ → ℕ → ℕ → ℕ → ℕ → Row
starting_opening edition n m leaf store out =
    (NoEdition edition, 12)
    ∷ (Outside 1 40 n, 1)
    ∷ (MemoryOver n m, 2)
    ∷ (store < 32 * (2 ^ (m + 1) - 1), 3)
    ∷ (2 ^ n ≤ leaf, 6)
    ∷ (out < 32 * (n + 1), 7)
    ∷ []

-- | Continuing an opening | 4 (also a leaf of 2^n or more); 3; 7 |
abbrev pub continuing_opening : Opening → ℕ → ℕ → Row
continuing_opening o store out =
    (Impossible o.edition o.depth o.memory o.made (2 ^ (o.depth - o.memory + 1) - 2) ⊎ (2 ^ o.depth ≤ o.leaf), 4)
    ∷ (store < 32 * (2 ^ (o.memory + 1) - 1), 3)
    ∷ (out < 32 * (o.depth + 1), 7)
    ∷ []

-- | A challenge | 12; 1; 8: i not 1..200 |
abbrev pub a_challenge : ℕ → ℕ → ℕ → Row
a_challenge edition n i = (NoEdition edition, 12) ∷ (Outside 1 40 n, 1) ∷ (Outside 1 200 i, 8) ∷ []

-- | Writing the file's head | 12; 1; 8: t not 1..200; 7: less than the whole file fits |
abbrev pub writing_head : ℕ → ℕ → ℕ → ℕ → Row
writing_head edition n t out = (NoEdition edition, 12) ∷ (Outside 1 40 n, 1) ∷ (Outside 1 200 t, 8) ∷ (out < file_size n t, 7) ∷ []

-- | One opening checked | 12; 1; 6; 10: bytes too few; 13: too many; 14: leaf label wrong; 15: root wrong |
abbrev pub one_opening : ℕ → List ℕ → ℕ → ℕ → List ℕ → List ℕ → Row
one_opening edition statement n leaf root bytes =
    (NoEdition edition, 12)
    ∷ (Outside 1 40 n, 1)
    ∷ (2 ^ n ≤ leaf, 6)
    ∷ (length bytes < 32 * (n + 1), 10)
    ∷ (32 * (n + 1) < length bytes, 13)
    ∷ (LeafRight (stamp_rule edition n statement) n leaf (given_by bytes) → ⊥, 14)
    ∷ (RootRight (stamp_rule edition n statement) n leaf (given_by bytes) root → ⊥, 15)
    ∷ []

-- ---- File
-- the number at a place, in one byte or in two, and the place behind it
abbrev pub byte_at : List ℕ → ℕ → ℕ
byte_at bytes at = get_or bytes at 0

unfoldable pub value_at : List ℕ → ℕ → ℕ
value_at bytes at =
    pick (ltb (byte_at bytes at) 128) (byte_at bytes at) (byte_at bytes at % 128 + 128 * byte_at bytes (at + 1))

unfoldable pub behind : List ℕ → ℕ → ℕ
behind bytes at = pick (ltb (byte_at bytes at) 128) (at + 1) (at + 2)

-- n follows the edition, t follows n, and then the statement comes
abbrev pub depth_place : List ℕ → ℕ
depth_place bytes = behind bytes 0

abbrev pub count_place : List ℕ → ℕ
count_place bytes = behind bytes (depth_place bytes)

abbrev pub numbers_end : List ℕ → ℕ
numbers_end bytes = behind bytes (count_place bytes)

-- | File, each number in turn | 10: bytes end; 11: last of several bytes 0, or the last allowed byte above 127; .. |
abbrev pub a_number : List ℕ → ℕ → Row
a_number bytes at =
    ((length bytes ≤ at) ⊎ ((128 ≤ byte_at bytes at) × (length bytes ≤ at + 1)), 10)
    ∷ ((128 ≤ byte_at bytes at) × ((byte_at bytes (at + 1) ≡ 0) ⊎ (128 ≤ byte_at bytes (at + 1))), 11)
    ∷ []

-- .. then 12: edition not 1, now neither 1 nor 2, or 1, or 8 |
abbrev pub a_head : List ℕ → Row
a_head bytes =
    a_number bytes 0
    ++ (NoEdition (value_at bytes 0), 12) ∷ a_number bytes (depth_place bytes)
    ++ (Outside 1 40 (value_at bytes (depth_place bytes)), 1) ∷ a_number bytes (count_place bytes)
    ++ (Outside 1 200 (value_at bytes (count_place bytes)), 8) ∷ []

-- | File, rest | 10; 13; 9: statement, n or t not those wanted; .. |: n' and t' were read, and end at a place
abbrev pub file_rest : List ℕ → List ℕ → ℕ → ℕ → ℕ → ℕ → ℕ → Row
file_rest bytes statement n t n' t' at =
    (length bytes < at + 64 + t' * (32 * (n' + 1)), 10)
    ∷ (at + 64 + t' * (32 * (n' + 1)) < length bytes, 13)
    ∷ ((statement_at bytes at ≡ statement) × (n' ≡ n) × (t' ≡ t) → ⊥, 9)
    ∷ []

-- .. per opening 14, 15 |. W-206: a file is 'checked by [its] own order', that of the edition that its head says
abbrev pub file_opening : List ℕ → ℕ → ℕ → ℕ → Row
file_opening bytes n at i =
    let edition : ℕ = value_at bytes 0 in
    let statement : List ℕ = statement_at bytes at in
    let root : List ℕ = root_at bytes at in
    let leaf : ℕ = challenge_leaf edition n statement root i in
    (LeafRight (stamp_rule edition n statement) n leaf (given_by (opening_at bytes n at i)) → ⊥, 14)
    ∷ (RootRight (stamp_rule edition n statement) n leaf (given_by (opening_at bytes n at i)) root → ⊥, 15)
    ∷ []

-- 'the refusal number with the opening it was found in, from 1, or 0 outside openings', as one number: 256 × refusal + opening
abbrev pub found_in : ℕ → Row → Row
found_in i [] = []
found_in i (check ∷ row) = (check.0, 256 * check.1 + i) ∷ found_in i row

-- `left` openings from number i on
unfoldable pub file_openings : List ℕ → ℕ → ℕ → ℕ → ℕ → Row
file_openings bytes n at i zero = []
file_openings bytes n at i (suc left) = found_in i (file_opening bytes n at i) ++ file_openings bytes n at (i + 1) left

-- both rows
unfoldable pub a_file : List ℕ → List ℕ → ℕ → ℕ → Row
a_file bytes statement n t =
    let n' : ℕ = value_at bytes (depth_place bytes) in
    let t' : ℕ = value_at bytes (count_place bytes) in
    found_in 0 (a_head bytes)
    ++ found_in 0 (file_rest bytes statement n t n' t' (numbers_end bytes))
    ++ file_openings bytes n' (numbers_end bytes) 1 t'

-- | Planning a chain | 1; 8: not 1..200 leaves; 6; 16: list short |. W-203: 'Planning refuses with 8 only above 200 leaves'.
abbrev pub planning_chain : ℕ → List ℕ → ℕ → Row
planning_chain n leaves list =
    (Outside 1 40 n, 1)
    ∷ (200 < length leaves, 8)
    ∷ ((i : ℕ) × (i < length leaves) × (2 ^ n ≤ get_or leaves i 0), 6)
    ∷ (list < length (chain n leaves), 16)
    ∷ []

-- | Drawing a chain | all file checks; 16, if no pair disagrees |
abbrev pub drawing_chain : List ℕ → List ℕ → ℕ → ℕ → ℕ → Row
drawing_chain bytes statement n t list =
    a_file bytes statement n t
    ++ found_in 0 ((NoneDisagree bytes statement n t × (list < chain_length bytes statement n t), 16) ∷ [])

-- ---- 'The planning program .. Before all else, 17: over 65,536 bytes, any other byte, no number, or a number over 2^64 − 1.'
-- other than a digit, a blank and a line feed
abbrev pub OtherByte : ℕ → Type 0
OtherByte b = ((48 ≤ b) × (b ≤ 57)) ⊎ ((b ≡ 32) ⊎ (b ≡ 10)) → ⊥

abbrev pub Unreadable : List ℕ → Type 0
Unreadable bytes =
    (65536 < length bytes)
    ⊎ (((i : ℕ) × (i < length bytes) × OtherByte (get_or bytes i 0))
    ⊎ ((length (numbers bytes) ≡ 0) ⊎ ((i : ℕ) × (i < length (numbers bytes)) × (2 ^ 64 ≤ get_or (numbers bytes) i 0))))

-- the first number is the depth, the others are the leaves, and the list has 6,855 places
abbrev pub planning_program : List ℕ → Row
planning_program bytes = (Unreadable bytes, 17) ∷ planning_chain (get_or (numbers bytes) 0 0) (drop 1 (numbers bytes)) 6855

-- ---- Calls for which document 01 has no row
-- openings compared, so many bytes of them: 12; 1; 8: not 1..200 leaves; 6; 10: bytes too few; 13: too many
abbrev pub comparing : ℕ → ℕ → List ℕ → ℕ → Row
comparing edition n leaves size =
    (NoEdition edition, 12)
    ∷ (Outside 1 40 n, 1)
    ∷ (Outside 1 200 (length leaves), 8)
    ∷ ((i : ℕ) × (i < length leaves) × (2 ^ n ≤ get_or leaves i 0), 6)
    ∷ (size < length leaves * (32 * (n + 1)), 10)
    ∷ (length leaves * (32 * (n + 1)) < size, 13)
    ∷ []

-- a number of at most `most` bytes read at a place, by its bytes. The first i of them have their top bit set:
abbrev pub GoOn : List ℕ → ℕ → ℕ → Type 0
GoOn bytes at i = (j : ℕ) → j < i → 128 ≤ byte_at bytes (at + j)

-- the bytes end before the number does
abbrev pub NumberEnds : List ℕ → ℕ → ℕ → Type 0
NumberEnds bytes at most = (i : ℕ) × (i < most) × GoOn bytes at i × (length bytes ≤ at + i)

-- a last byte, after i others, that cannot be: the last of several is 0; or a tenth is above 1, which 64 bits do not hold
abbrev pub NotLast : ℕ → ℕ → Type 0
NotLast i byte = (byte < 128) × (((0 < i) × (byte ≡ 0)) ⊎ ((9 ≤ i) × (1 < byte)))

-- the last allowed byte is above 127, or a last byte cannot be
abbrev pub NotShortest : List ℕ → ℕ → ℕ → Type 0
NotShortest bytes at most =
    GoOn bytes at most
    ⊎ ((i : ℕ) × (i < most) × GoOn bytes at i × (at + i < length bytes) × NotLast i (byte_at bytes (at + i)))

-- 10; 11
abbrev pub reading_number : List ℕ → ℕ → ℕ → Row
reading_number bytes at most = (NumberEnds bytes at most, 10) ∷ (NotShortest bytes at most, 11) ∷ []

-- a number's groups written from a place on: 7
abbrev pub writing_number : List ℕ → ℕ → ℕ → Row
writing_number out at x = (length out < at + length (groups_of x), 7) ∷ []

-- a whole file by budgets, its start: 12, and those of a run's start and of the head, 1, 2, 3; 8; 7
abbrev pub starting_file : ℕ → ℕ → ℕ → ℕ → ℕ → ℕ → Row
starting_file edition n m t store file =
    (NoEdition edition, 12)
    ∷ (Outside 1 40 n, 1)
    ∷ (MemoryOver n m, 2)
    ∷ (store < 32 * (2 ^ (m + 1) - 1), 3)
    ∷ (Outside 1 200 t, 8)
    ∷ (file < file_size n t, 7)
    ∷ []

-- an opening that is done and is not the last, which no start or call leaves
abbrev pub NotBegun : Writing → Type 0
NotBegun w = let o : Opening = w.opening in (o.made ≡ 2 ^ (o.depth - o.memory + 1) - 2) × (w.number < w.count)

-- a leaf of 2^n or more, a count not 1..200, an opening's number not 1..t, or the next opening not begun
abbrev pub ImpossibleFile : Writing → Type 0
ImpossibleFile w =
    (2 ^ w.opening.depth ≤ w.opening.leaf) ⊎ (Outside 1 200 w.count ⊎ (Outside 1 w.count w.number ⊎ NotBegun w))

-- its continuation: 4; 3; 7
abbrev pub continuing_file : Writing → ℕ → ℕ → Row
continuing_file w store file =
    let o : Opening = w.opening in
    (Impossible o.edition o.depth o.memory o.made (2 ^ (o.depth - o.memory + 1) - 2) ⊎ ImpossibleFile w, 4)
    ∷ (store < 32 * (2 ^ (o.memory + 1) - 1), 3)
    ∷ (file < file_size o.depth w.count, 7)
    ∷ []

-- ---- W-201: records of runs
-- 'Writing a record: 4, then 7 for a short buffer.'
abbrev pub writing_record : Run → ℕ → Row
writing_record run out =
    (Impossible run.edition run.depth run.memory run.made (2 ^ (run.depth + 1) - 1), 4) ∷ (out < length (record_of run), 7) ∷ []

-- the memory level follows the depth, and the labels made follow it
abbrev pub memory_place : List ℕ → ℕ
memory_place bytes = behind bytes (depth_place bytes)

abbrev pub made_place : List ℕ → ℕ
made_place bytes = behind bytes (memory_place bytes)

-- the number at a place, of at most so many bytes, low group first, and the place behind it
unfoldable pub value_within : ℕ → List ℕ → ℕ → ℕ
value_within zero bytes at = 0
value_within (suc most) bytes at =
    pick (ltb (byte_at bytes at) 128) (byte_at bytes at) (byte_at bytes at % 128 + 128 * value_within most bytes (at + 1))

unfoldable pub behind_within : ℕ → List ℕ → ℕ → ℕ
behind_within zero bytes at = at
behind_within (suc most) bytes at = pick (ltb (byte_at bytes at) 128) (at + 1) (behind_within most bytes (at + 1))

-- '18, the record's length is not what its numbers require; the order is 10 and 11 for each number, 12 after the edition, 4 after all
-- four, then 18.' Labels made may take six bytes; as many labels are held as the tree has nodes to hold then.
unfoldable pub reading_record : List ℕ → Row
reading_record bytes =
    let n : ℕ = value_at bytes (depth_place bytes) in
    let m : ℕ = value_at bytes (memory_place bytes) in
    let made : ℕ = value_within 6 bytes (made_place bytes) in
    a_number bytes 0
    ++ (NoEdition (value_at bytes 0), 12) ∷ a_number bytes (depth_place bytes)
    ++ a_number bytes (memory_place bytes)
    ++ reading_number bytes (made_place bytes) 6
    ++ (Impossible (value_at bytes 0) n m made (2 ^ (n + 1) - 1), 4)
    ∷ (length bytes ≡ behind_within 6 bytes (made_place bytes) + 32 + 32 * length (held n made) → ⊥, 18)
    ∷ []

-- ---- W-208: a unit's runs
-- 'each run in order as when continued': so many from run i on, whose store begins behind those of the runs before it
unfoldable pub serving_runs : List Run → ℕ → ℕ → ℕ → ℕ → Row
serving_runs runs i zero from store = []
serving_runs runs i (suc more) from store =
    let run : Run = run_at runs i in
    continuing_run run (store - from) ++ serving_runs runs (i + 1) more (from + 32 * (2 ^ (run.memory + 1) - 1)) store

-- '21, not 1 to 8 runs, or the run named as served last not among them; checked first': a run is named, and those up to `end` follow
abbrev pub naming_run : StampingUnit → ℕ → ℕ → ℕ → Row
naming_run unit name end store =
    (Outside 1 8 unit.count ⊎ Outside 1 unit.count name, 21) ∷ serving_runs unit.runs 1 end 0 store

-- a call names the run served last and takes all runs; where run i's store lies is asked by naming it, and takes the runs up to it
abbrev pub serving_unit : StampingUnit → ℕ → Row
serving_unit unit store = naming_run unit unit.last unit.count store

abbrev pub asking_place : StampingUnit → ℕ → ℕ → Row
asking_place unit i store = naming_run unit i i store
