-- Demand 1, sentence by sentence. A call is spoken of by the definitions that its contract cites.
use Rattle.std.specs.Prelude.{◌≡◌, ◌⊎◌, ℕ, ◌+◌, ◌-◌, ◌*◌, ◌^◌, ◌≤◌, ◌<◌, min, List, ◌++◌, length, get_or, drop, None}
use Rattle.base.specs.Bytes.{zeros}
use Rattle.sha256.specs.declared.Hash.{Hash}
use Rattle.sha256.specs.Portions.{update_row, update_state, finish_row, finish_digest, finish_state, digest_row, digest_answer}
use Rattle.machine.specs.Calls.{total, after_calls, labels_over}
use Rattle.groups.specs.Groups.{max_groups}
use Rattle.groups.specs.Reading.{Answer, value, refused, read_at}
use Rattle.groups.specs.Writing.{put_row, put_count, output_after}
use Rattle.run.specs.declared.Run.{Run}
use Rattle.run.specs.Rows.{start_row, continue_row}
use Rattle.run.specs.Steps as runs
use Rattle.run.specs.Steps.{Stamped, stamped, no_run}
use Rattle.run_record.specs.Layout.{record_row, record_size, record_written}
use Rattle.run_record.specs.Reading.{resume_row, resumed}
use Rattle.unit.specs.declared.StampingUnit.{StampingUnit}
use Rattle.unit.specs.Runs.{run_at}
use Rattle.unit.specs.Rows.{unit_row}
use Rattle.unit.specs.Turns as units
use Rattle.unit.specs.Turns.{carried}
use Rattle.opening.specs.declared.Opening.{Opening}
use Rattle.opening.specs.Rows.{open_row, reopen_row}
use Rattle.opening.specs.Steps as openings
use Rattle.opening.specs.Steps.{Open, no_opening}
use Rattle.opening.specs.Names.{open_of}
use Rattle.opening_check.specs.OpeningCheck.{opening_row}
use Rattle.file_head.specs.Challenge.{challenge_row, challenged}
use Rattle.file_head.specs.Layout.{file_size, head_row, head_written}
use Rattle.file_head.specs.Head as read
use Rattle.file_head.specs.Head.{HeadAnswer, not_read, head_of}
use Rattle.proof_file.specs.FileCheck.{file_check}
use Rattle.writing.specs.declared.Writing.{Writing}
use Rattle.writing.specs.Rows.{write_row, rewrite_row}
use Rattle.writing.specs.Steps as writings
use Rattle.writing.specs.Steps.{Written, no_writing}
use Rattle.chain.specs.PlanRow.{plan_row, planned_count, planned_list}
use Rattle.chain_theory.specs.Ways.{chain}
use Rattle.chain_theory.specs.Counts.{leaves_opened}
use Rattle.decimal.specs.Numbers.{numbers}
use Rattle.planning.specs.Output.{refused_text, head_text, nodes_text, printed}
use Rattle.compare.specs.Comparison.{compare_row, compared}
use Rattle.draw.specs.Drawing.{DrawingAnswer, not_drawn, drawn_chain, drawn_clash, drawing_of, drawn_list, first_drawn, second_drawn}
use Rattle.demands.specs.Rows.{IsFirst, hashing, starting_run, continuing_run, starting_opening, continuing_opening, a_challenge, writing_head}
use Rattle.demands.specs.Rows.{one_opening, a_head, a_file, planning_chain, drawing_chain, planning_program, comparing, reading_number, writing_number}
use Rattle.demands.specs.Rows.{starting_file, continuing_file, writing_record, reading_record, serving_unit}

-- ---- 'Labelling, opening and writing can be carried to their end for every depth 1..40, memory level 0..min(depth, 20) ..'.
-- W-209: 'Make that [14] the limit, in demand 1 too'.

-- Calls with any budgets, one after the other: none is refused, together they make the budgets' sum of labels, up to `all`, and the
-- next makes the smaller of its budget and what remains.
pub record CarriedOut {S : Type 0} (row : S → ℕ) (labels : S → ℕ → ℕ) (call : S → ℕ → S) (start : S) (all : ℕ) : Type 0 where
  pub not_refused : (budgets : List ℕ) → row (after_calls call start budgets) ≡ 0
  pub made : (budgets : List ℕ) → labels_over call labels start budgets ≡ min (total budgets) all
  pub next : (budgets : List ℕ) (budget : ℕ) → labels (after_calls call start budgets) budget ≡ min budget (all - min (total budgets) all)

-- an edition that exists
abbrev pub AnEdition : ℕ → Type 0
AnEdition edition = (1 ≤ edition) × (edition ≤ 2)

-- a run of an edition with no label made, with its store
abbrev pub run_at_start : ℕ → List ℕ → ℕ → ℕ → List ℕ → Stamped
run_at_start edition statement n m store = stamped (runs.new_run edition statement n m) store

-- a run, an opening and a file as their starts give them, each with the bytes lent to it
abbrev pub started_run : List ℕ → ℕ → ℕ → List ℕ → Stamped
started_run statement n m store = stamped (runs.started statement n m (length store)) store

abbrev pub started_opening : ℕ → List ℕ → ℕ → ℕ → ℕ → List ℕ → List ℕ → Open
started_opening edition statement n m leaf store out =
    open_of (openings.started edition statement n m leaf (length store) (length out)) (openings.started_out edition n m leaf store out)

abbrev pub started_file : ℕ → List ℕ → List ℕ → ℕ → ℕ → ℕ → List ℕ → List ℕ → Written
started_file edition statement root n m t store file = writings.started edition statement root n m t store file

-- a depth, with a memory level that it allows and a store for it
pub record InBounds (n m store : ℕ) : Type 0 where
  pub depth : (1 ≤ n) × (n ≤ 40)
  pub memory : m ≤ min n 14
  pub room : 32 * (2 ^ (m + 1) - 1) ≤ store

-- A run of either edition labels all 2^(n+1) − 1 nodes. One that is started is of edition 2 (W-206: 'New runs write 2').
pub record LabellingEnds (edition : ℕ) (statement : List ℕ) (n m : ℕ) (store : List ℕ) : Type 0 where
  pub starts : (start_row n m (length store) ≡ 0) × (started_run statement n m store ≡ run_at_start 2 statement n m store)
  pub ends :
      CarriedOut (λ s. continue_row s.run (length s.store)) runs.labels_in runs.advanced (run_at_start edition statement n m store)
      (2 ^ (n + 1) - 1)

-- the opening labels the 2^(n−m+1) − 2 nodes strictly below the leaf's ancestor on level m, whatever the store holds
pub record OpeningEnds (edition : ℕ) (statement : List ℕ) (n m leaf : ℕ) (store out : List ℕ) : Type 0 where
  pub starts : open_row edition n m leaf (length store) (length out) ≡ 0
  pub ends :
      CarriedOut (λ s. reopen_row s.opening (length store) (length s.out)) (openings.labels_in store) (openings.advanced store)
      (started_opening edition statement n m leaf store out)
      (2 ^ (n - m + 1) - 2)

-- '.. 1..200 challenges': the file labels these of each of its t openings, whatever the store and the root are
pub record WritingEnds (edition : ℕ) (statement root : List ℕ) (n m t : ℕ) (store file : List ℕ) : Type 0 where
  pub starts : write_row edition n m t (length store) (length file) ≡ 0
  pub ends :
      CarriedOut (λ s. rewrite_row s.writing (length store) (length s.file)) (writings.labels_in store) (writings.advanced store)
      (started_file edition statement root n m t store file)
      (t * (2 ^ (n - m + 1) - 2))

-- ---- 'Any call that fails a check of document 01, over all possible bytes and states, gets the number of the first one, and no lent
-- byte changes.'

-- 'A refused hash state is handed back unchanged.'
pub record HashingPortion (s : Hash) (part : List ℕ) : Type 0 where
  pub answer : IsFirst (hashing s.taken (length part)) (update_row s part)
  pub refused : 1 ≤ update_row s part → update_state s part ≡ s

pub record HashingEnd (s : Hash) : Type 0 where
  pub answer : IsFirst (hashing s.taken 0) (finish_row s)
  pub refused : 1 ≤ finish_row s → (finish_digest s ≡ zeros 32) × (finish_state s ≡ s)

pub record HashingWhole (message : List ℕ) : Type 0 where
  pub answer : IsFirst (hashing 0 (length message)) (digest_row message)
  pub refused : 1 ≤ digest_row message → digest_answer message ≡ zeros 32

-- 'a refused start gives the number alone'; starting a run lends nothing to write to
pub record StartingRun (statement : List ℕ) (n m store : ℕ) : Type 0 where
  pub answer : IsFirst (starting_run n m store) (start_row n m store)
  pub refused : 1 ≤ start_row n m store → runs.started statement n m store ≡ no_run

-- 'A refused run is handed back unchanged, with 0 labels'
pub record ContinuingRun (run : Run) (store : List ℕ) (budget : ℕ) : Type 0 where
  pub answer : IsFirst (continuing_run run (length store)) (continue_row run (length store))
  pub refused :
      1 ≤ continue_row run (length store)
      → (runs.labels_in (stamped run store) budget ≡ 0) × (runs.advanced (stamped run store) budget ≡ stamped run store)
  -- 'Budget 0 and a finished run change nothing.'
  pub idle :
      (budget ≡ 0) ⊎ (2 ^ (run.depth + 1) - 1 ≤ run.made)
      → (runs.labels_in (stamped run store) budget ≡ 0) × (runs.advanced (stamped run store) budget ≡ stamped run store)

pub record StartingOpening (edition : ℕ) (statement : List ℕ) (n m leaf : ℕ) (store out : List ℕ) : Type 0 where
  pub answer :
      IsFirst (starting_opening edition n m leaf (length store) (length out)) (open_row edition n m leaf (length store) (length out))
  pub refused :
      1 ≤ open_row edition n m leaf (length store) (length out)
      → (openings.started edition statement n m leaf (length store) (length out) ≡ no_opening)
      × (openings.started_out edition n m leaf store out ≡ out)

pub record ContinuingOpening (o : Opening) (store out : List ℕ) (budget : ℕ) : Type 0 where
  pub answer : IsFirst (continuing_opening o (length store) (length out)) (reopen_row o (length store) (length out))
  pub refused :
      1 ≤ reopen_row o (length store) (length out)
      → (openings.labels_in store (open_of o out) budget ≡ 0) × (openings.advanced store (open_of o out) budget ≡ open_of o out)
  pub idle :
      (budget ≡ 0) ⊎ (2 ^ (o.depth - o.memory + 1) - 2 ≤ o.made)
      → (openings.labels_in store (open_of o out) budget ≡ 0) × (openings.advanced store (open_of o out) budget ≡ open_of o out)

pub record AChallenge (edition n : ℕ) (statement root : List ℕ) (i : ℕ) : Type 0 where
  pub answer : IsFirst (a_challenge edition n i) (challenge_row edition n i)
  pub refused : 1 ≤ challenge_row edition n i → challenged edition n statement root i ≡ 0

pub record WritingHead (edition : ℕ) (statement root : List ℕ) (n t : ℕ) (out : List ℕ) : Type 0 where
  pub answer : IsFirst (writing_head edition n t (length out)) (head_row edition n t (length out))
  pub refused : 1 ≤ head_row edition n t (length out) → head_written edition statement root n t out ≡ out

-- checking lends nothing to write to
abbrev pub OneOpening : ℕ → List ℕ → ℕ → ℕ → List ℕ → List ℕ → Type 0
OneOpening edition statement n leaf root bytes =
    IsFirst (one_opening edition statement n leaf root bytes) (opening_row edition statement n leaf root bytes)

-- a head's refusal, 0 if its numbers are read
abbrev pub head_number : HeadAnswer → ℕ
head_number (not_read number) = number
head_number (read.numbers e n t at) = 0

abbrev pub AHead : List ℕ → Type 0
AHead bytes = IsFirst (a_head bytes) (head_number (head_of bytes))

-- 'Where an answer must be one number it is 256 × refusal + opening, and 0 if accepted.'
abbrev pub AFile : List ℕ → List ℕ → ℕ → ℕ → Type 0
AFile bytes statement n t = IsFirst (a_file bytes statement n t) (file_check bytes statement n t)

pub record PlanningChain (n : ℕ) (leaves list : List ℕ) : Type 0 where
  pub answer : IsFirst (planning_chain n leaves (length list)) (plan_row n leaves (length list))
  pub refused :
      1 ≤ plan_row n leaves (length list)
      → (planned_count n leaves (length list) ≡ 0) × (planned_list n leaves list ≡ list)

-- a drawing's refusal as one number, 0 if it draws
abbrev pub drawing_number : DrawingAnswer → ℕ
drawing_number (not_drawn code) = code
drawing_number (drawn_chain count) = 0
drawing_number (drawn_clash i j l) = 0

pub record DrawingChain (bytes statement : List ℕ) (n t : ℕ) (list : List ℕ) : Type 0 where
  pub answer : IsFirst (drawing_chain bytes statement n t (length list)) (drawing_number (drawing_of bytes statement n t (length list)))
  pub refused :
      (code : ℕ) → drawing_of bytes statement n t (length list) ≡ not_drawn code
      → (drawn_list bytes statement n t list ≡ list)
      × ((first_drawn bytes statement n t (length list) ≡ zeros 105) × (second_drawn bytes statement n t (length list) ≡ zeros 105))

-- 'A refusal prints `refused`, a blank and the number.'
pub record PlanningProgram (input : List ℕ) : Type 0 where
  pub number : ℕ
  pub answer : IsFirst (planning_program input) number
  pub refused : 1 ≤ number → printed input ≡ refused_text number
  pub done :
      number ≡ 0
      → printed input
      ≡ head_text (get_or (numbers input) 0 0) (leaves_opened (drop 1 (numbers input)))
      (length (chain (get_or (numbers input) 0 0) (drop 1 (numbers input))))
      ++ nodes_text (chain (get_or (numbers input) 0 0) (drop 1 (numbers input)))

-- comparing lends nothing to write to
pub record Comparing (edition : ℕ) (statement : List ℕ) (n : ℕ) (leaves openings : List ℕ) : Type 0 where
  pub answer : IsFirst (comparing edition n leaves (length openings)) (compare_row edition n leaves (length openings))
  pub refused : 1 ≤ compare_row edition n leaves (length openings) → compared edition statement n leaves openings ≡ None

pub record WritingNumber (out : List ℕ) (at x : ℕ) : Type 0 where
  pub answer : IsFirst (writing_number out at x) (put_row out at x)
  pub refused : 1 ≤ put_row out at x → (put_count out at x ≡ 0) × (output_after out at x ≡ out)

-- a number's refusal, 0 if it is read
abbrev pub answer_number : Answer → ℕ
answer_number (value x end) = 0
answer_number (refused r) = r

-- reading lends nothing to write to; ten groups hold every number of 64 bits
pub record ReadingNumber (bytes : List ℕ) (at most : ℕ) : Type 0 where
  pub answer : IsFirst (reading_number bytes at (min most 10)) (answer_number (read_at bytes at (min most max_groups)))

pub record StartingFile (edition : ℕ) (statement root : List ℕ) (n m t : ℕ) (store file : List ℕ) : Type 0 where
  pub answer : IsFirst (starting_file edition n m t (length store) (length file)) (write_row edition n m t (length store) (length file))
  pub refused :
      1 ≤ write_row edition n m t (length store) (length file)
      → started_file edition statement root n m t store file ≡ record { writing = no_writing; file = file }

pub record ContinuingFile (w : Writing) (store file : List ℕ) (budget : ℕ) : Type 0 where
  pub answer : IsFirst (continuing_file w (length store) (length file)) (rewrite_row w (length store) (length file))
  pub refused :
      1 ≤ rewrite_row w (length store) (length file)
      → (writings.labels_in store (record { writing = w; file = file }) budget ≡ 0)
      × (writings.advanced store (record { writing = w; file = file }) budget ≡ record { writing = w; file = file })

-- W-201: the size is the number of bytes written
pub record WritingRecord (run : Run) (out : List ℕ) : Type 0 where
  pub answer : IsFirst (writing_record run (length out)) (record_row run (length out))
  pub refused : 1 ≤ record_row run (length out) → (record_size run (length out) ≡ 0) × (record_written run out ≡ out)

-- reading a record lends nothing to write to; beside a refusal the all-zero run
pub record ReadingRecord (bytes : List ℕ) : Type 0 where
  pub answer : IsFirst (reading_record bytes) (resume_row bytes)
  pub refused : 1 ≤ resume_row bytes → resumed bytes ≡ no_run

-- W-208: 'one refusal changes nothing in any'; budget 0 and a unit whose runs are all finished change nothing either
pub record ServingUnit (unit : StampingUnit) (store : List ℕ) (budget : ℕ) : Type 0 where
  pub answer : IsFirst (serving_unit unit (length store)) (unit_row unit (length store))
  pub refused :
      1 ≤ unit_row unit (length store)
      → (units.labels_in (carried unit store) budget ≡ 0)
      × ((units.blocks_in (carried unit store) budget ≡ 0) × (units.advanced (carried unit store) budget ≡ carried unit store))
  pub idle :
      (budget ≡ 0) ⊎ ((i : ℕ) → (1 ≤ i) × (i ≤ unit.count) → 2 ^ ((run_at unit.runs i).depth + 1) - 1 ≤ (run_at unit.runs i).made)
      → (units.labels_in (carried unit store) budget ≡ 0)
      × ((units.blocks_in (carried unit store) budget ≡ 0) × (units.advanced (carried unit store) budget ≡ carried unit store))

-- ---- the demand
pub record Demand1 : Type 0 where
  pub labelling_ends :
      (edition : ℕ) (statement : List ℕ) (n m : ℕ) (store : List ℕ) → AnEdition edition → InBounds n m (length store)
      → LabellingEnds edition statement n m store
  pub opening_ends :
      (edition : ℕ) (statement : List ℕ) (n m leaf : ℕ) (store out : List ℕ) → AnEdition edition → InBounds n m (length store)
      → leaf < 2 ^ n → 32 * (n + 1) ≤ length out → OpeningEnds edition statement n m leaf store out
  pub writing_ends :
      (edition : ℕ) (statement root : List ℕ) (n m t : ℕ) (store file : List ℕ) → AnEdition edition → length statement ≡ 32
      → length root ≡ 32 → InBounds n m (length store) → (1 ≤ t) × (t ≤ 200) → file_size n t ≤ length file
      → WritingEnds edition statement root n m t store file
  pub hashing_portion : (s : Hash) (part : List ℕ) → HashingPortion s part
  pub hashing_end : (s : Hash) → HashingEnd s
  pub hashing_whole : (message : List ℕ) → HashingWhole message
  pub starting_run : (statement : List ℕ) (n m store : ℕ) → StartingRun statement n m store
  pub continuing_run : (run : Run) (store : List ℕ) (budget : ℕ) → ContinuingRun run store budget
  pub starting_opening :
      (edition : ℕ) (statement : List ℕ) (n m leaf : ℕ) (store out : List ℕ) → StartingOpening edition statement n m leaf store out
  pub continuing_opening : (o : Opening) (store out : List ℕ) (budget : ℕ) → ContinuingOpening o store out budget
  pub challenge : (edition n : ℕ) (statement root : List ℕ) (i : ℕ) → AChallenge edition n statement root i
  pub writing_head : (edition : ℕ) (statement root : List ℕ) (n t : ℕ) (out : List ℕ) → WritingHead edition statement root n t out
  pub one_opening :
      (edition : ℕ) (statement : List ℕ) (n leaf : ℕ) (root bytes : List ℕ) → OneOpening edition statement n leaf root bytes
  pub head : (bytes : List ℕ) → AHead bytes
  pub file : (bytes statement : List ℕ) (n t : ℕ) → AFile bytes statement n t
  pub planning_chain : (n : ℕ) (leaves list : List ℕ) → PlanningChain n leaves list
  pub drawing_chain :
      (bytes statement : List ℕ) (n t : ℕ) (list : List ℕ) → ((j : ℕ) → get_or bytes j 0 < 256) → DrawingChain bytes statement n t list
  pub planning_program : (input : List ℕ) → PlanningProgram input
  pub comparing :
      (edition : ℕ) (statement : List ℕ) (n : ℕ) (leaves openings : List ℕ) → Comparing edition statement n leaves openings
  pub reading_number : (bytes : List ℕ) (at most : ℕ) → ReadingNumber bytes at most
  pub writing_number : (out : List ℕ) (at x : ℕ) → WritingNumber out at x
  pub starting_file :
      (edition : ℕ) (statement root : List ℕ) (n m t : ℕ) (store file : List ℕ) → StartingFile edition statement root n m t store file
  pub continuing_file : (w : Writing) (store file : List ℕ) (budget : ℕ) → ContinuingFile w store file budget
  pub writing_record : (run : Run) (out : List ℕ) → WritingRecord run out
  pub reading_record : (bytes : List ℕ) → ReadingRecord bytes
  pub serving_unit : (unit : StampingUnit) (store : List ℕ) (budget : ℕ) → ServingUnit unit store budget
