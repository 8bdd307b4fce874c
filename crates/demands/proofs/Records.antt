-- W-201: the rows of records of runs, written and read.
use mathlib.Core.Path.{◌≡◌, refl, subst}
use mathlib.Core.Logic.{inr}
use Prim.Native.Nat.{ℕ, zero, suc, ◌+◌, ◌*◌, ◌%◌, ◌^◌, ◌≤◌, ◌<◌, min}
use native.Mathlib.Omega.{arith}
use mathlib.Core.Bool.{Bool, true, false, not}
use mathlib.Core.List.{List, [], ◌∷◌, ◌++◌}
use lib.Dec.{ltb, leb, eqb, lit≤}
use lib.ListN.{length, drop}
use borrow.Author.Tests.{eqb-true, eqb-false, ltb-true}
use Rattle.base.specs.Choice.{pick, both}
use Rattle.base.specs.Row.{either, no_edition}
use Rattle.base.proofs.RowLaws.{some-refused}
use Rattle.groups.specs.Groups.{max_groups}
use Rattle.groups.specs.Reading.{Answer, value, refused, ended, read_from, read_at, checked}
use Rattle.groups.proofs.Steps.{small, next-weight, read_number}
use Rattle.tree.specs.Walk.{nodes_in}
use Rattle.run.specs.declared.Run.{Run}
use Rattle.run_record.specs.Layout.{made_groups, record_of, no_such_run, record_row, record_size, record_written}
use Rattle.run_record.specs.Reading.{NumbersAnswer, numbers, not_read, any_number, numbers_of, length_from, rest_row, row_after, resume_row, resumed}
use Rattle.run_record.specs.ReadingSteps.{made_from, memory_from, depth_from}
use Rattle.run_record.proofs.NumbersSteps.{by-steps}
use Rattle.demands.specs.Rows.{Row, IsFirst, byte_at, value_at, depth_place, reading_number}
use Rattle.demands.specs.Rows.{memory_place, made_place, value_within, behind_within, reading_record}
use Rattle.demands.specs.Demand1.{answer_number, WritingRecord, ReadingRecord}
use Rattle.demands.proofs.Decisions.{decides-lt, is-first, given, stays-first, passes-first}
use Rattle.demands.proofs.Checks.{decides-edition, decides-impossible, impossible_run}
use Rattle.demands.proofs.Files.{number-first}
use Rattle.demands.proofs.Numbers.{reading-number}

-- ---- a record written
pub writing-record : (run : Run) (out : List ℕ) → WritingRecord run out
unfolding record_row record_size record_written nodes_in
writing-record run out =
    let size : ℕ = length (record_of run) in
    record {
      answer =
          is-first
          (impossible_run run
          ∷ record { test = ltb (length out) size; condition = length out < size; decides = decides-lt (length out) size; number = 7 }
          ∷ []
          );
      refused = λ some. let no = some-refused _ some in (rw no, rw no);
    }

-- ---- the value of a number, for any number of bytes
-- a number that is read has this value and ends at this place
abbrev IsRead : ℕ → ℕ → Answer → Type 0
IsRead x end (value y end') = (y ≡ x) × (end' ≡ end)
IsRead x end (refused r) = Unit

-- one byte: the bytes end, the number ends, it cannot be, or it goes on
read_byte :
    (short last bad : Bool) (byte total low more weight end end' : ℕ) (next : Answer) → (last ≡ true → total ≡ low + byte * weight)
    → IsRead (low + more * weight) end' next
    → IsRead (low + pick last byte more * weight) (pick last end end')
    (pick short (refused 10) (pick last (pick bad (refused 11) (value total end)) next))
read_byte true last bad byte total low more weight end end' next is rest = tt
read_byte false true true byte total low more weight end end' next is rest = tt
read_byte false true false byte total low more weight end end' next is rest = (is refl, refl)
read_byte false false bad byte total low more weight end end' next is rest = rest

-- a group, and the groups after it
more-groups : (low group more weight next : ℕ) → weight * 128 ≡ next
    → low + group * weight + more * next ≡ low + (group + 128 * more) * weight
more-groups low group more weight next e = rw (← e) (omega arith)

last-group : (low byte weight : ℕ) → byte < 128 → low + byte % 128 * weight ≡ low + byte * weight
last-group low byte weight h = rw (small byte h)

read-from : (bytes : List ℕ) (left at i low : ℕ)
    → IsRead (low + value_within left bytes at * 128 ^ i) (behind_within left bytes at) (read_from bytes at i low left)
unfolding read_from ended value_within behind_within
read-from bytes zero at i low = tt
read-from bytes (suc left) at i low =
    let byte : ℕ = byte_at bytes at in
    let total : ℕ = low + byte % 128 * 128 ^ i in
    read_byte (leb (length bytes) at) (ltb byte 128) (either (both (eqb byte 0) (ltb 0 i)) (leb (2 ^ 64) total)) byte total low
    (byte % 128 + 128 * value_within left bytes (at + 1)) (128 ^ i) (at + 1) (behind_within left bytes (at + 1))
    (read_from bytes (at + 1) (i + 1) total left) (λ e. last-group low byte (128 ^ i) (ltb-true byte 128 e))
    (subst (λ (x : ℕ). IsRead x (behind_within left bytes (at + 1)) (read_from bytes (at + 1) (i + 1) total left))
    (more-groups low (byte % 128) (value_within left bytes (at + 1)) (128 ^ i) (128 ^ (i + 1)) (next-weight (128 ^ i) i refl))
    (read-from bytes left (at + 1) (i + 1) total))

read-within : (bytes : List ℕ) (at most : ℕ) → IsRead (value_within most bytes at) (behind_within most bytes at) (read_at bytes at most)
unfolding read_at
read-within bytes at most =
    let e : 0 + value_within most bytes at * 128 ^ 0 ≡ value_within most bytes at = omega arith in
    subst (λ (x : ℕ). IsRead x (behind_within most bytes at) (read_at bytes at most)) e (read-from bytes most at 0 0)

-- the number, then what is answered of its value
module _
    (answer : Answer → ℕ) (refusals : (number : ℕ) → answer (refused number) ≡ number) (bytes : List ℕ) (at most : ℕ) (few : most ≤ max_groups)
    (row : Row) (rest : IsFirst row (answer (value (value_within most bytes at) (behind_within most bytes at)))) where
  after-number :
      (number : Answer) → read_at bytes at most ≡ number → IsRead (value_within most bytes at) (behind_within most bytes at) number
      → IsFirst (reading_number bytes at most) (answer_number number) → IsFirst (reading_number bytes at most ++ row) (answer number)
  after-number (value x end) e is first =
      passes-first (reading_number bytes at most) row (answer (value x end)) (lit≤ tt, (lit≤ tt, tt)) first (rw (is.0, is.1) rest)
  after-number (refused r) e is first =
      stays-first (reading_number bytes at most) row (answer (refused r)) (rw (refusals r) (read_number bytes at most r e))
      (rw (refusals r) first)

  within_first : IsFirst (reading_number bytes at most ++ row) (answer (read_at bytes at most))
  within_first =
      let e : min most 10 ≡ most = omega arith in
      after-number (read_at bytes at most) refl (read-within bytes at most) (rw e at (reading-number bytes at most).answer)

-- ---- a record read
module _ (bytes : List ℕ) where
  -- the row without its first conditions
  abbrev from : ℕ → Row
  from k = drop k (reading_record bytes)

  abbrev edition : ℕ
  edition = value_at bytes 0

  abbrev depth : ℕ
  depth = value_at bytes (depth_place bytes)

  abbrev memory : ℕ
  memory = value_at bytes (memory_place bytes)

  abbrev made : ℕ
  made = value_within made_groups bytes (made_place bytes)

  abbrev end : ℕ
  end = behind_within made_groups bytes (made_place bytes)

  abbrev answer : NumbersAnswer → ℕ
  answer = row_after (length bytes)

  -- 12 is answered before a byte of the depth is read
  no-edition : no_edition edition ≡ true → IsFirst (from 2) 12
  unfolding reading_record
  no-edition e = given (omega arith) ((decides-edition edition).yes e)

  edition-by :
      (t : Bool) → no_edition edition ≡ t → IsFirst (from 3) (answer (depth_from bytes edition (depth_place bytes)))
      → IsFirst (from 2) (answer (pick t (not_read 12) (depth_from bytes edition (depth_place bytes))))
  unfolding reading_record
  edition-by true e rest = no-edition e
  edition-by false e rest = inr ((decides-edition edition).no e, rest)

  edition-first :
      IsFirst (from 3) (answer (depth_from bytes edition (depth_place bytes))) → IsFirst (reading_record bytes) (answer (numbers_of bytes))
  unfolding reading_record
  edition-first rest =
      rw (by-steps bytes)
      (number-first (λ k. k) (λ number. answer (checked not_read number no_edition 12 (depth_from bytes))) (λ r. refl) bytes 0
      (from 2) (edition-by (no_edition edition) refl rest))

  depth-first :
      IsFirst (from 5) (answer (memory_from bytes edition depth (memory_place bytes)))
      → IsFirst (from 3) (answer (depth_from bytes edition (depth_place bytes)))
  unfolding reading_record depth_from
  depth-first rest =
      number-first (λ k. k) (λ number. answer (checked not_read number any_number 4 (λ n at. memory_from bytes edition n at))) (λ r. refl) bytes
      (depth_place bytes) (from 5) rest

  memory-first :
      IsFirst (from 7) (answer (made_from bytes edition depth memory (made_place bytes)))
      → IsFirst (from 5) (answer (memory_from bytes edition depth (memory_place bytes)))
  unfolding reading_record memory_from
  memory-first rest =
      number-first (λ k. k) (λ number. answer (checked not_read number any_number 4 (λ m at. made_from bytes edition depth m at))) (λ r. refl) bytes
      (memory_place bytes) (from 7) rest

  made-first :
      IsFirst (from 9) (answer (numbers edition depth memory made end)) → IsFirst (from 7) (answer (made_from bytes edition depth memory (made_place bytes)))
  unfolding reading_record made_from
  made-first rest =
      subst (λ (most : ℕ). IsFirst (reading_number bytes (made_place bytes) most ++ from 9) (answer (made_from bytes edition depth memory (made_place bytes))))
      (omega arith)
      (within_first (λ number. answer (checked not_read number any_number 4 (λ made at. numbers edition depth memory made at))) (λ r. refl) bytes
      (made_place bytes) made_groups (lit≤ tt) (from 9) rest)

  -- 4 is answered whatever the length is, then 18
  no-such-run : no_such_run edition depth memory made ≡ true → IsFirst (from 9) 4
  unfolding reading_record nodes_in
  no-such-run e = given (omega arith) ((decides-impossible edition depth memory made (nodes_in depth)).yes e)

  other_length : eqb (length bytes) (length_from depth made end) ≡ false → IsFirst (from 10) 18
  unfolding reading_record
  other_length e = given (omega arith) (λ same. eqb-false (length bytes) (length_from depth made end) e (omega (arith, same)))

  rest-by :
      (t u : Bool) → no_such_run edition depth memory made ≡ t → eqb (length bytes) (length_from depth made end) ≡ u
      → IsFirst (from 9) (pick t 4 (pick (not u) 18 0))
  unfolding reading_record nodes_in
  rest-by true u e f = no-such-run e
  rest-by false false e f = inr ((decides-impossible edition depth memory made (nodes_in depth)).no e, other_length f)
  rest-by false true e f =
      inr (
        (decides-impossible edition depth memory made (nodes_in depth)).no e,
        inr (λ other. other (omega (arith, eqb-true (length bytes) (length_from depth made end) f)), refl),
      )

  rest-first : IsFirst (from 9) (answer (numbers edition depth memory made end))
  unfolding rest_row
  rest-first = rest-by (no_such_run edition depth memory made) (eqb (length bytes) (length_from depth made end)) refl refl

  row_first : IsFirst (reading_record bytes) (resume_row bytes)
  unfolding resume_row
  row_first = edition-first (depth-first (memory-first (made-first rest-first)))

  pub reading-record : ReadingRecord bytes
  unfolding resumed
  reading-record = record { answer = row_first; refused = λ some. rw (some-refused (resume_row bytes) some) }
