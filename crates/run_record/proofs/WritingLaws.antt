-- Laws of writing a record: its numbers in their groups, its parts one behind the other, and what is answered and left in the buffer.
use mathlib.Core.Path.{◌≡◌, sym, ◌∙◌}
use mathlib.Core.Bool.{true, false}
use mathlib.Core.List.{List, ◌++◌}
use Prim.Native.Nat.{ℕ, ◌+◌, ◌^◌, ◌≤◌, ◌<◌}
use native.Mathlib.Omega.{arith}
use borrow.Author.Tests.{lt-ltb, le-ltb}
use lib.ListN.{length, take, drop, length-append}
use lib.Seq.{take_at, length-take-le}
use Rattle.base.specs.Limits.{max_edition, max_depth, max_memory, held_size}
use Rattle.base.specs.Bytes.{written}
use Rattle.base.proofs.WrittenLaws.{written_next, written-three}
use Rattle.groups.specs.Groups.{groups, groups_of, max_groups, number_groups}
use Rattle.groups.proofs.Sizes.{groups-same}
use Rattle.tree.specs.Walk.{nodes_in}
use Rattle.run.specs.declared.Run.{Run}
use Rattle.run.proofs.RowLaws.{possible}
use Rattle.run.proofs.StepLaws.{small-nodes}
use Rattle.run_record.proofs.HeldCounts.{held_fits}
use Rattle.run_record.proofs.NumbersLaws.{numbers-length}
use Rattle.run_record.specs.Layout.{made_groups, numbers_space, held_length, held_labels, record_numbers, record_of, no_such_run, record_row, record_size, record_written}

-- ---- the four numbers, each in as many groups as it takes
module _ (edition n m made : ℕ) (exists : edition ≤ max_edition) (depth : n ≤ max_depth) (memory : m ≤ max_memory)
    (few : made ≤ nodes_in n) where
  small : (x : ℕ) → x < 128 → groups_of x ≡ groups number_groups x
  small x h = groups-same max_groups number_groups x (omega arith) (omega arith) (omega arith) (omega arith)

  -- 'labels made may take six': every count is below 2^42
  six-enough : groups_of made ≡ groups made_groups made
  six-enough =
      let below : made < 128 ^ made_groups = omega (arith, small-nodes n depth) in
      groups-same max_groups made_groups made (omega arith) (omega arith) (omega arith) below

  numbers-are : record_numbers edition n m made ≡ groups_of edition ++ groups_of n ++ groups_of m ++ groups_of made
  unfolding record_numbers
  numbers-are = rw (small edition (omega arith), small n (omega arith), small m (omega arith), six-enough)

  pub numbers-size :
      length (record_numbers edition n m made) ≡ length (groups_of edition) + length (groups_of n) + length (groups_of m) + length (groups_of made)
  numbers-size = rw (numbers-are, length-append, length-append, length-append)

  pub numbers-few :
      length (groups_of edition) + length (groups_of n) + length (groups_of m) + length (groups_of made) ≤ numbers_space
  numbers-few = omega (arith, numbers-size, numbers-length edition n m made)

  pub numbers-put : (out o1 o2 o3 o4 : List ℕ) (second third fourth : ℕ) → o1 ≡ written out 0 (groups_of edition)
      → o2 ≡ written o1 second (groups_of n) → o3 ≡ written o2 third (groups_of m) → o4 ≡ written o3 fourth (groups_of made)
      → second ≡ length (groups_of edition) → third ≡ second + length (groups_of n) → fourth ≡ third + length (groups_of m)
      → o4 ≡ written out 0 (record_numbers edition n m made)
  numbers-put out o1 o2 o3 o4 second third fourth e1 e2 e3 e4 s2 s3 s4 =
      rw numbers-are
      (e4
      ∙ written_next out (groups_of edition ++ groups_of n ++ groups_of m) (groups_of made) o3 fourth
      (written-three out (groups_of edition) (groups_of n) (groups_of m) o1 o2 o3 second third e1 e2 e3 s2 s3)
      (s4 ∙ rw (s3, s2, length-append, length-append)))

-- what was written over the front stands there
pub front-written : (out part : List ℕ) (count : ℕ) → count ≡ length part → take count (written out 0 part) ≡ part
unfolding written
front-written out part count e = take_at part (drop (0 + length part) out) count (rw e)

-- ---- what is answered and left in the buffer
pub record Answered (run : Run) (out : List ℕ) (number size : ℕ) (after : List ℕ) : Type 0 where
  pub row : number ≡ record_row run (length out)
  pub bytes : size ≡ record_size run (length out)
  pub output : after ≡ record_written run out

-- the length of a possible run's record
pub record-size : (run : Run) → length run.statement ≡ 32 → held_length run.depth run.made ≤ length run.held
    → length (record_of run)
    ≡ length (record_numbers run.edition run.depth run.memory run.made) + 32 + held_length run.depth run.made
unfolding record_of
record-size run s h = rw (length-append, length-append, s, length-take-le (held_length run.depth run.made) run.held h)

-- the three lengths of a possible run's record
pub record Sizes (r : Run) (count labels : ℕ) : Type 0 where
  pub numbers-few : count ≤ numbers_space
  pub labels-few : labels ≤ held_size
  pub inside : labels ≤ length r.held
  pub whole : count + 32 + labels ≡ length (record_of r)

pub sizes : (r : Run) (count labels : ℕ) → no_such_run r.edition r.depth r.memory r.made ≡ false
    → count ≡ length (record_numbers r.edition r.depth r.memory r.made) → labels ≡ held_length r.depth r.made
    → length r.statement ≡ 32 → length r.held ≡ held_size → Sizes r count labels
sizes r count labels can_be counted of_labels statement held =
    let b = possible r.edition r.depth r.memory r.made can_be in
    let fits = held_fits r.depth r.made b.depth b.made-few in
    record {
      numbers-few = omega (arith, counted, numbers-length r.edition r.depth r.memory r.made);
      labels-few = omega (arith, of_labels, fits);
      inside = omega (arith, of_labels, fits, held);
      whole = rw (counted, of_labels) (sym (record-size r statement (omega (arith, held, fits))));
    }

-- numbers, statement and held labels make the record
pub parts_are : (run : Run) (numbers labels : List ℕ) → numbers ≡ record_numbers run.edition run.depth run.memory run.made
    → labels ≡ held_labels run → numbers ++ run.statement ++ labels ≡ record_of run
unfolding record_of
parts_are run numbers labels e f = rw (e, f)

module _ (run : Run) (out : List ℕ) where
  pub no-such-run : no_such_run run.edition run.depth run.memory run.made ≡ true → Answered run out 4 0 out
  unfolding record_row record_size record_written
  no-such-run e = record { row = rw e; bytes = rw e; output = rw e }

  module _ (possible : no_such_run run.edition run.depth run.memory run.made ≡ false) where
    pub short-buffer : length out < length (record_of run) → Answered run out 7 0 out
    unfolding record_row record_size record_written
    short-buffer h =
        let short = lt-ltb (length out) (length (record_of run)) h in
        record { row = rw (possible, short); bytes = rw (possible, short); output = rw (possible, short) }

    pub record-put : (size : ℕ) (after : List ℕ) → length (record_of run) ≤ length out → size ≡ length (record_of run)
        → after ≡ written out 0 (record_of run) → Answered run out 0 size after
    unfolding record_row record_size record_written
    record-put size after h s w =
        let enough = le-ltb (length out) (length (record_of run)) h in
        record { row = rw (possible, enough); bytes = rw (possible, enough) s; output = rw (possible, enough) w }
