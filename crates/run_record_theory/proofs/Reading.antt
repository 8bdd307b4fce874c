-- A record is read back: what is written of a run gives the run tidied, and what is read of any bytes has just these bytes as its
-- record. So no two records give one run.
use mathlib.Core.Path.{◌≡◌, refl, sym, ap, ◌∙◌}
use mathlib.Core.Bool.{false, not}
use mathlib.Core.List.{List, [], ◌++◌, append_assoc}
use Prim.Native.Nat.{ℕ, ◌+◌, ◌-◌, ◌^◌, ◌<◌}
use native.Mathlib.Nat.{zero-add, add_assoc}
use native.Mathlib.Omega.{arith}
use borrow.Author.Tests.{eqb-true, eq-eqb, not-false}
use lib.Dec.{eqb, lit≤}
use lib.ListN.{length, take, drop, get_or, length-append, length-drop, length-replicate, take-append-drop}
use lib.Seq.{take_at, drop_at, drop-append-add, drop-drop, length-take-le}
use Rattle.base.specs.Limits.{max_edition, held_size}
use Rattle.base.specs.Bytes.{zeros}
use Rattle.base.proofs.Ranges.{within}
use Rattle.base.proofs.RowLaws as rows
use Rattle.groups.specs.Groups.{groups, number_groups}
use Rattle.groups.specs.Reading.{value, read_at}
use Rattle.groups.proofs.ReadBack.{read-written}
use Rattle.run.specs.declared.Run.{Run}
use Rattle.run.specs.Steps.{run_of}
use Rattle.run.proofs.RowLaws.{Possible, possible}
use Rattle.run.proofs.StepLaws.{small-nodes}
use Rattle.run_record.specs.Layout.{made_groups, held_length, record_numbers, held_labels, record_of, no_such_run}
use Rattle.run_record.specs.Reading.{NumbersAnswer, numbers, not_read, numbers_of, length_from, rest_row, row_after, resume_row, run_from, run_read, resumed}
use Rattle.run_record.proofs.NumbersLaws.{NumbersRead, numbers-read, refusal-number}
use Rattle.run_record_theory.specs.Pausing.{HasArrays, tidied}
use Rattle.run_record.proofs.HeldCounts.{held_fits}
use Rattle.run_record_theory.proofs.Tidy.{held-inside}

-- ---- what was written is read back
-- a number below 128 among other bytes
small-back : (x : ℕ) (before rest : List ℕ) → x < 128
    → read_at (before ++ groups number_groups x ++ rest) (length before) number_groups ≡ value x (length before + length (groups number_groups x))
small-back x before rest small = read-written number_groups number_groups x before rest (omega arith) (omega arith) (omega arith) (omega arith)

module _ (edition n m made : ℕ) (can : Possible edition n m made) (rest : List ℕ) where
  edition-back :
      read_at (record_numbers edition n m made ++ rest) 0 number_groups
      ≡ value edition (length (groups number_groups edition))
  unfolding record_numbers
  edition-back =
      simp append_assoc
      (simp (append_assoc, zero-add) at
      (small-back edition []
      (groups number_groups n ++ groups number_groups m ++ groups made_groups made ++ rest) (omega arith)))

  depth-back :
      read_at (record_numbers edition n m made ++ rest) (length (groups number_groups edition)) number_groups
      ≡ value n (length (groups number_groups edition) + length (groups number_groups n))
  unfolding record_numbers
  depth-back =
      simp append_assoc
      (simp append_assoc at
      (small-back n (groups number_groups edition) (groups number_groups m ++ groups made_groups made ++ rest) (omega arith)))

  memory-back :
      read_at (record_numbers edition n m made ++ rest)
      (length (groups number_groups edition) + length (groups number_groups n)) number_groups
      ≡ value m (length (groups number_groups edition) + length (groups number_groups n) + length (groups number_groups m))
  unfolding record_numbers
  memory-back =
      simp append_assoc
      (simp (append_assoc, length-append) at
      (small-back m (groups number_groups edition ++ groups number_groups n) (groups made_groups made ++ rest) (omega arith)))

  made-below : made < 128 ^ made_groups
  made-below = omega (arith, can.made-few, small-nodes n can.depth)

  made-back :
      read_at (record_numbers edition n m made ++ rest)
      (length (groups number_groups edition) + length (groups number_groups n) + length (groups number_groups m)) made_groups
      ≡ value made (length (record_numbers edition n m made))
  unfolding record_numbers
  made-back =
      simp (append_assoc, length-append, add_assoc)
      (simp (append_assoc, length-append, add_assoc) at
      (read-written made_groups made_groups made (groups number_groups edition ++ groups number_groups n ++ groups number_groups m) rest
      (omega arith) (omega arith) made-below (omega (arith, made-below))))

  numbers-back : numbers_of (record_numbers edition n m made ++ rest) ≡ numbers edition n m made (length (record_numbers edition n m made))
  unfolding numbers_of
  numbers-back = rw (edition-back, within 1 max_edition edition can.exists, depth-back, memory-back, made-back)

module _ (run : Run) (arrays : HasArrays run) (can : no_such_run run.edition run.depth run.memory run.made ≡ false) where
  -- the place after the numbers
  after_numbers : ℕ
  after_numbers = length (record_numbers run.edition run.depth run.memory run.made)

  bounds : Possible run.edition run.depth run.memory run.made
  bounds = possible run.edition run.depth run.memory run.made can

  labels-size : length (held_labels run) ≡ held_length run.depth run.made
  labels-size = length-take-le (held_length run.depth run.made) run.held (held-inside run arrays bounds.depth bounds.made-few)

  record-parts : record_of run ≡ record_numbers run.edition run.depth run.memory run.made ++ (run.statement ++ held_labels run)
  unfolding record_of
  record-parts = append_assoc (record_numbers run.edition run.depth run.memory run.made) run.statement (held_labels run)

  pub record-size :
      length (record_of run)
      ≡ length_from run.depth run.made (length (record_numbers run.edition run.depth run.memory run.made))
  record-size = rw (record-parts, length-append, length-append run.statement (held_labels run), labels-size, arrays.statement_size) (omega arith)

  numbers-again : numbers_of (record_of run) ≡ numbers run.edition run.depth run.memory run.made after_numbers
  unfolding after_numbers
  numbers-again = rw record-parts (numbers-back run.edition run.depth run.memory run.made bounds (run.statement ++ held_labels run))

  row-again : resume_row (record_of run) ≡ 0
  unfolding resume_row rest_row after_numbers
  row-again = rw (numbers-again, can, eq-eqb (length (record_of run)) (length_from run.depth run.made after_numbers) record-size)

  statement-again : take 32 (drop after_numbers (record_of run)) ≡ run.statement
  unfolding after_numbers
  statement-again =
      rw (record-parts, drop_at (record_numbers run.edition run.depth run.memory run.made) (run.statement ++ held_labels run) after_numbers refl)
      (take_at run.statement (held_labels run) 32 arrays.statement_size)

  labels-again : drop (after_numbers + 32) (record_of run) ≡ held_labels run
  unfolding after_numbers
  labels-again =
      rw (record-parts, drop-append-add (record_numbers run.edition run.depth run.memory run.made) (run.statement ++ held_labels run) 32)
      (drop_at run.statement (held_labels run) 32 arrays.statement_size)

  run-again : run_from (record_of run) run.edition run.depth run.memory run.made after_numbers ≡ tidied run
  unfolding run_from tidied
  run-again = rw (statement-again, labels-again, labels-size)

  -- the record of a run is not refused, and gives the run tidied
  pub record-back : (resume_row (record_of run) ≡ 0) × (resumed (record_of run) ≡ tidied run)
  unfolding resumed
  record-back = (row-again, rw (row-again, numbers-again) run-again)

-- ---- what is read
-- a run that has these bytes as its record, with nothing in its other places
pub record IsRecord (bytes : List ℕ) (run : Run) : Type 0 where
  pub written : record_of run ≡ bytes
  pub arrays : HasArrays run
  pub possible : no_such_run run.edition run.depth run.memory run.made ≡ false
  pub tidy : tidied run ≡ run

module _ (bytes : List ℕ) (edition n m made at : ℕ) (read : NumbersRead bytes edition n m made at) (can : no_such_run edition n m made ≡ false)
    (size : length bytes ≡ length_from n made at) where
  labels-read : length (drop (at + 32) bytes) ≡ held_length n made
  labels-read = rw length-drop (omega arith)

  labels-front :
      take (held_length n made) (drop (at + 32) bytes ++ zeros (held_size - length (drop (at + 32) bytes))) ≡ drop (at + 32) bytes
  labels-front = take_at (drop (at + 32) bytes) _ (held_length n made) labels-read

  from-record : record_of (run_from bytes edition n m made at) ≡ bytes
  unfolding record_of run_from
  from-record =
      ap (λ (l : List ℕ). record_numbers edition n m made ++ take 32 (drop at bytes) ++ l) labels-front
      ∙ append_assoc (record_numbers edition n m made) (take 32 (drop at bytes)) (drop (at + 32) bytes)
      ∙ ap (λ (l : List ℕ). record_numbers edition n m made ++ l)
      (ap (λ (l : List ℕ). take 32 (drop at bytes) ++ l) (sym (drop-drop 32 at bytes)) ∙ take-append-drop 32 (drop at bytes))
      ∙ sym read.form

  from-arrays : HasArrays (run_from bytes edition n m made at)
  unfolding run_from
  from-arrays =
      let b : Possible edition n m made = possible edition n m made can in
      record {
        statement_size = length-take-le 32 (drop at bytes) (rw length-drop (omega arith));
        places_size =
            rw (length-append, length-replicate, labels-read) (omega (arith, held_fits n made b.depth b.made-few));
      }

  from-tidy : tidied (run_from bytes edition n m made at) ≡ run_from bytes edition n m made at
  unfolding tidied run_from
  from-tidy =
      ap (run_of edition (take 32 (drop at bytes)) n m made)
      (ap (λ (l : List ℕ). l ++ zeros (held_size - held_length n made)) labels-front
      ∙ ap (λ (c : ℕ). drop (at + 32) bytes ++ zeros (held_size - c)) (sym labels-read))

  from_bytes : IsRecord bytes (run_from bytes edition n m made at)
  unfolding run_from
  from_bytes = record { written = from-record; arrays = from-arrays; possible = can; tidy = from-tidy }

-- the rest's two conditions do not hold
rest-passed : (edition n m made at len : ℕ) → rest_row edition n m made at len ≡ 0
    → (no_such_run edition n m made ≡ false) × (len ≡ length_from n made at)
unfolding rest_row
rest-passed edition n m made at len e =
    let (a, f) = rows.passed (no_such_run edition n m made) 4 _ (lit≤ tt) e in
    let (b, g) = rows.passed (not (eqb len (length_from n made at))) 18 0 (lit≤ tt) f in
    (a, eqb-true len (length_from n made at) (not-false (eqb len (length_from n made at)) b))

module _ (bytes : List ℕ) (small : (j : ℕ) → get_or bytes j 0 < 256) where
  by_answer : (answer : NumbersAnswer) → numbers_of bytes ≡ answer → row_after (length bytes) answer ≡ 0 → IsRecord bytes (run_read bytes answer)
  by_answer (numbers edition n m made at) is e =
      let (can, size) = rest-passed edition n m made at (length bytes) e in
      from_bytes bytes edition n m made at (numbers-read bytes edition n m made at small is) can size
  by_answer (not_read r) is e = absurd (omega (arith, refusal-number bytes r is))

  module _ (done : resume_row bytes ≡ 0) where
    pub is-record : IsRecord bytes (resumed bytes)
    unfolding resumed resume_row
    is-record = rw done (by_answer (numbers_of bytes) refl done)

    -- what is read has these bytes as its record
    pub read-is-record : record_of (resumed bytes) ≡ bytes
    read-is-record = is-record.written

    pub read-arrays : HasArrays (resumed bytes)
    read-arrays = is-record.arrays

    pub read-possible : no_such_run (resumed bytes).edition (resumed bytes).depth (resumed bytes).memory (resumed bytes).made ≡ false
    read-possible = is-record.possible

    pub read-tidy : tidied (resumed bytes) ≡ resumed bytes
    read-tidy = is-record.tidy

-- no two records give one run
pub one-record : (a b : List ℕ) → ((j : ℕ) → get_or a j 0 < 256) → ((j : ℕ) → get_or b j 0 < 256)
    → resume_row a ≡ 0 → resume_row b ≡ 0 → resumed a ≡ resumed b → a ≡ b
one-record a b small-a small_b done-a done-b e =
    sym (read-is-record a small-a done-a) ∙ ap record_of e ∙ read-is-record b small_b done-b
