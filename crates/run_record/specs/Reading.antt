-- W-201: what reading gives back of any bytes. 'The order is 10 and 11 for each number, 12 after the edition, 4 after all four, then
-- 18', the record's length is not what its numbers require.
use Rattle.std.specs.Prelude.{ℕ, ◌+◌, ◌-◌, Bool, false, not, List, [], ◌∷◌, ◌++◌, eqb, length, take, drop, Result, Ok, Err}
use Rattle.base.specs.Choice.{pick}
use Rattle.base.specs.Bytes.{zeros}
use Rattle.base.specs.Limits.{held_size}
use Rattle.base.specs.Number.{number_of}
use Rattle.base.specs.Row.{first_of, no_edition, is_done}
use Rattle.groups.specs.Groups.{number_groups}
use Rattle.groups.specs.Reading.{read_at, checked}
use Rattle.run.specs.declared.Run.{Run}
use Rattle.run.specs.Steps.{run_of, no_run}
use Rattle.run_record.specs.declared.RecordNumbers.{RecordNumbers}
use Rattle.base.specs.declared.refusal.Refusal.{Refusal}
use Rattle.run_record.specs.Layout.{made_groups, held_length, no_such_run}

-- what reading the numbers answers: edition, depth, memory level, labels made and the place after them, or the refusal's number
pub data NumbersAnswer : Type 0 where
  numbers : ℕ → ℕ → ℕ → ℕ → ℕ → NumbersAnswer
  not_read : ℕ → NumbersAnswer

abbrev pub numbers_answer : Result RecordNumbers Refusal → NumbersAnswer
numbers_answer (Ok r) = numbers r.edition r.depth r.memory r.made r.end
numbers_answer (Err r) = not_read (number_of r)

-- a number is taken as it stands, since 4 comes after all four
abbrev pub any_number : ℕ → Bool
any_number x = false

-- 10 and 11 for each number in turn, 12 after the edition
unfoldable pub numbers_of : List ℕ → NumbersAnswer
numbers_of bytes =
    checked not_read (read_at bytes 0 number_groups) no_edition 12
    (λ e at. checked not_read (read_at bytes at number_groups) any_number 4
    (λ n at. checked not_read (read_at bytes at number_groups) any_number 4
    (λ m at. checked not_read (read_at bytes at made_groups) any_number 4 (λ made at. numbers e n m made at))))

-- the length that the numbers require, where they end at a place
abbrev pub length_from : ℕ → ℕ → ℕ → ℕ
length_from n made at = at + 32 + held_length n made

-- 4 after all four, then 18
unfoldable pub rest_row : ℕ → ℕ → ℕ → ℕ → ℕ → ℕ → ℕ
rest_row edition n m made at len = first_of ((no_such_run edition n m made, 4) ∷ (not (eqb len (length_from n made at)), 18) ∷ [])

abbrev pub row_after : ℕ → NumbersAnswer → ℕ
row_after len (numbers e n m made at) = rest_row e n m made at len
row_after len (not_read r) = r

unfoldable pub resume_row : List ℕ → ℕ
resume_row bytes = row_after (length bytes) (numbers_of bytes)

-- the run of these numbers: the statement, then the held labels from the first place on, and zero in the other places
unfoldable pub run_from : List ℕ → ℕ → ℕ → ℕ → ℕ → ℕ → Run
run_from bytes edition n m made at =
    let labels : List ℕ = drop (at + 32) bytes in
    run_of edition (take 32 (drop at bytes)) n m made (labels ++ zeros (held_size - length labels))

abbrev pub run_read : List ℕ → NumbersAnswer → Run
run_read bytes (numbers e n m made at) = run_from bytes e n m made at
run_read bytes (not_read r) = no_run

-- the run that is handed back: all zero beside a refusal
unfoldable pub resumed : List ℕ → Run
resumed bytes = pick (is_done (resume_row bytes)) (run_read bytes (numbers_of bytes)) no_run
