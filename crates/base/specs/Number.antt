-- Document 01, 'The checks, by place': the number of each refusal, from 18 on a change request's, and a check's answer as one number.
use Rattle.std.specs.Prelude.{ℕ, ◌+◌, ◌*◌, Result, Ok, Err}
use Rattle.base.specs.declared.refusal.Refusal.{Refusal}
use Rattle.base.specs.declared.refusal.Refusal.TheVariants.{Depth, MemoryLevel, ShortStore, State, TooManyBytes, LeafPosition, ShortOutput, Count}
use Rattle.base.specs.declared.refusal.Refusal.TheVariants.{NotWanted, BytesEnd, NotShortest, Edition, BytesLeft, LeafLabel, Root, ShortList}
use Rattle.base.specs.declared.refusal.Refusal.TheVariants.{Input, RecordLength, Runs}
use Rattle.base.specs.declared.refusal.Rejection.{Rejection}

abbrev pub number_of : Refusal → ℕ
-- n not 1..40
number_of Depth = 1
-- m over min(n, max_memory)
number_of MemoryLevel = 2
-- store short
number_of ShortStore = 3
-- a run or an opening that cannot be continued, also of an edition that does not exist (W-206), and a record's numbers that no run has (W-201)
number_of State = 4
-- over 2^61 − 1 bytes in all
number_of TooManyBytes = 5
-- position 2^n or more
number_of LeafPosition = 6
-- output short
number_of ShortOutput = 7
-- a challenge, or a count of them or of leaves compared, not 1..200; over 200 leaves planned (W-203)
number_of Count = 8
-- statement, n or t not those wanted
number_of NotWanted = 9
-- bytes end, or are too few
number_of BytesEnd = 10
-- a number not in its shortest form, or in more bytes than are allowed
number_of NotShortest = 11
-- an edition that does not exist: neither 1 nor 2 (W-206)
number_of Edition = 12
-- bytes too many
number_of BytesLeft = 13
-- leaf label wrong
number_of LeafLabel = 14
-- root wrong
number_of Root = 15
-- list short
number_of ShortList = 16
-- the planning program's input
number_of Input = 17
-- a record's length is not what its numbers require (W-201)
number_of RecordLength = 18
-- not 1 to 8 runs in a unit, or the run named as served last not among them (W-208)
number_of Runs = 21

-- 0 if done, else the refusal's number
abbrev pub outcome_number : {A : Type 0} → Result A Refusal → ℕ
outcome_number (Ok value) = 0
outcome_number (Err r) = number_of r

-- 'Where an answer must be one number it is 256 × refusal + opening, and 0 if accepted.'
abbrev pub code_of : Result Unit Rejection → ℕ
code_of (Ok value) = 0
code_of (Err r) = 256 * number_of r.refusal + r.opening
