-- What is known of bytes that are read as a checkpoint.
use mathlib.Core.Path.{◌≡◌, refl, sym, ap, ◌∙◌}
use mathlib.Core.Bool.{Bool, true, false, not}
use mathlib.Core.List.{List, [], ◌∷◌, ◌++◌}
use Prim.Native.Nat.{ℕ, zero, suc, ◌+◌, ◌*◌, ◌/◌, ◌%◌, ◌≤◌, ◌<◌, min}
use native.Mathlib.Omega.{arith}
use borrow.Author.Tests.{ltb-false, le-ltb, eqb-true, eq-eqb, not-false}
use lib.Dec.{ltb, eqb, lit≤, lit<}
use lib.ListN.{length, take, drop, get_or, length-append, length-drop, length-replicate, take-append-drop}
use lib.Seq.{length-take-le, take-take, take-add, get_or-drop}
use Rattle.base.specs.Choice.{both}
use Rattle.base.specs.Limits.{max_depth, max_memory, max_challenges, IsDepth, IsMemory, IsCount}
use Rattle.base.specs.Lists.{same_bytes}
use Rattle.base.specs.Row.{outside, memory_over, is_done}
use Rattle.base.proofs.ChoiceLaws.{both_first, both-second}
use Rattle.base.proofs.ListsLaws.{test-same, tells-bytes}
use Rattle.base.proofs.Ranges.{within, range-of, neither}
use Rattle.base.proofs.RowLaws.{NoneHolds, none-holds, passed}
use Rattle.sha256.specs.Digest.{digest}
use Rattle.tree.specs.Store.{store_size}
use Rattle.run.specs.declared.Run.{Run}
use Rattle.run.specs.Steps.{stamped}
use Rattle.run_theory.proofs.GoesOn.{not-refused}
use Rattle.run_record.specs.Layout.{held_length, record_of, no_such_run}
use Rattle.run_record.specs.Reading.{NumbersAnswer, numbers, not_read, numbers_of, rest_row, row_after, resume_row, run_from, run_read, resumed}
use Rattle.run_record.proofs.NumbersLaws.{refusal-number}
use Rattle.run_record.proofs.HeldCounts.{held_fits}
use Rattle.run_record.proofs.ReadingLaws.{Fits, fits}
use Rattle.run_record_theory.specs.Pausing.{HasArrays, Continuable}
use Rattle.run_record_theory.proofs.Reading.{read-is-record}
use Rattle.checkpoint.specs.Layout.{mark, order_head, head_size, covered, checkpoint_of, size_of}
use Rattle.checkpoint.specs.Reading.{depth_in, memory_in, count_in, length_in, store_in, record_from, record_end, record_in}
use Rattle.checkpoint.specs.Reading.{unmarked, no_order, altered, other_run, fault_of, run_found, count_found, size_found}

-- ---- none of the six conditions holds
pub record Read (bytes : List ℕ) : Type 0 where
  pub headed : head_size ≤ length bytes
  pub marked : take 15 bytes ≡ mark
  pub depth : IsDepth (depth_in bytes)
  pub memory : IsMemory (depth_in bytes) (memory_in bytes)
  pub count : IsCount (count_in bytes)
  pub enough : size_of (memory_in bytes) (length_in bytes) ≤ length bytes
  pub hashed : take 32 (drop (record_end bytes) bytes) ≡ digest (take (record_end bytes) bytes)
  pub row : resume_row (record_in bytes) ≡ 0
  pub run_depth : (resumed (record_in bytes)).depth ≡ depth_in bytes
  pub run_memory : (resumed (record_in bytes)).memory ≡ memory_in bytes

same_lists : (x y : List ℕ) → not (same_bytes x y) ≡ false → x ≡ y
same_lists x y e = tells-bytes.equal x y (not-false (same_bytes x y) e)

is_zero : (row : ℕ) → not (is_done row) ≡ false → row ≡ 0
is_zero zero e = refl
is_zero (suc row) e = cc

abbrev checks : List ℕ → List (Bool × ℕ)
checks bytes =
    (unmarked bytes, 1)
    ∷ (no_order (depth_in bytes) (memory_in bytes) (count_in bytes), 2)
    ∷ (ltb (length bytes) (size_of (memory_in bytes) (length_in bytes)), 2)
    ∷ (altered bytes (record_end bytes), 2)
    ∷ (not (is_done (resume_row (record_in bytes))), 3)
    ∷ (other_run (resumed (record_in bytes)) (depth_in bytes) (memory_in bytes), 3)
    ∷ []

module _ (bytes : List ℕ) (whole : fault_of bytes ≡ 0) where
  none : NoneHolds (checks bytes)
  unfolding fault_of
  none = none-holds (checks bytes) refl whole

  pub read : Read bytes
  read =
      let (short, other) = neither (ltb (length bytes) head_size) (not (same_bytes (take 15 bytes) mark)) none.0 in
      let (n, mt) = neither (outside 1 max_depth (depth_in bytes)) _ none.1.0 in
      let (m, t) = neither (memory_over (depth_in bytes) (memory_in bytes)) _ mt in
      let r : Run = resumed (record_in bytes) in
      let same : both (eqb r.depth (depth_in bytes)) (eqb r.memory (memory_in bytes)) ≡ true =
      not-false _ none.1.1.1.1.1.0 in
      record {
        headed = ltb-false (length bytes) head_size short;
        marked = same_lists (take 15 bytes) mark other;
        depth = range-of 1 max_depth (depth_in bytes) n;
        memory = ltb-false (min (depth_in bytes) max_memory) (memory_in bytes) m;
        count = range-of 1 max_challenges (count_in bytes) t;
        enough = ltb-false (length bytes) (size_of (memory_in bytes) (length_in bytes)) none.1.1.0;
        hashed = same_lists _ _ none.1.1.1.0;
        row = is_zero (resume_row (record_in bytes)) none.1.1.1.1.0;
        run_depth = eqb-true r.depth (depth_in bytes) (both_first (eqb r.depth (depth_in bytes)) (eqb r.memory (memory_in bytes)) same);
        run_memory = eqb-true r.memory (memory_in bytes) (both-second (eqb r.depth (depth_in bytes)) (eqb r.memory (memory_in bytes)) same);
      }

-- and where none holds, there is no fault
pub read_whole : (bytes : List ℕ) → Read bytes → fault_of bytes ≡ 0
unfolding fault_of
read_whole bytes r =
    rw (
      le-ltb (length bytes) head_size r.headed,
      test-same tells-bytes (take 15 bytes) mark r.marked,
      within 1 max_depth (depth_in bytes) r.depth,
      le-ltb (min (depth_in bytes) max_memory) (memory_in bytes) r.memory,
      within 1 max_challenges (count_in bytes) r.count,
      le-ltb (length bytes) (size_of (memory_in bytes) (length_in bytes)) r.enough,
      test-same tells-bytes (take 32 (drop (record_end bytes) bytes)) (digest (take (record_end bytes) bytes)) r.hashed,
      r.row,
      eq-eqb (resumed (record_in bytes)).depth (depth_in bytes) r.run_depth,
      eq-eqb (resumed (record_in bytes)).memory (memory_in bytes) r.run_memory,
    )

-- ---- what is handed back then
module _ (bytes : List ℕ) (whole : fault_of bytes ≡ 0) where
  pub run-found : run_found bytes ≡ resumed (record_in bytes)
  unfolding run_found
  run-found = rw whole

  pub count-found : count_found bytes ≡ count_in bytes
  unfolding count_found
  count-found = rw whole

  pub size-found : size_found bytes ≡ size_of (memory_in bytes) (length_in bytes)
  unfolding size_found
  size-found = rw whole

-- ---- the run can be, whatever the bytes
pub record CanBe (run : Run) : Type 0 where
  pub arrays : HasArrays run
  pub possible : no_such_run run.edition run.depth run.memory run.made ≡ false

from-numbers : (bytes : List ℕ) (e n m made at : ℕ) → rest_row e n m made at (length bytes) ≡ 0 → CanBe (run_from bytes e n m made at)
unfolding rest_row run_from
from-numbers bytes e n m made at row =
    let f : Fits e n m made at (length bytes) = fits e n m made at (length bytes) row in
    let labels : length (drop (at + 32) bytes) ≡ held_length n made = rw length-drop (omega (arith, f.size)) in
    record {
      arrays =
          record {
            statement_size = length-take-le 32 (drop at bytes) (rw length-drop (omega (arith, f.size)));
            places_size =
                rw (length-append, length-replicate, labels)
                (omega (arith, held_fits n made f.possible.depth f.possible.made-few));
          };
      possible = (passed (no_such_run e n m made) 4 _ (lit≤ tt) row).0;
    }

by_answer : (bytes : List ℕ) (answer : NumbersAnswer) → numbers_of bytes ≡ answer → row_after (length bytes) answer ≡ 0
    → CanBe (run_read bytes answer)
by_answer bytes (numbers e n m made at) is row = from-numbers bytes e n m made at row
by_answer bytes (not_read r) is e = absurd (omega (arith, refusal-number bytes r is))

resumed-can-be : (bytes : List ℕ) → resume_row bytes ≡ 0 → CanBe (resumed bytes)
unfolding resumed resume_row
resumed-can-be bytes done = rw done (by_answer bytes (numbers_of bytes) refl done)

-- the order that was found, and where it ends
pub record FoundOrder (bytes : List ℕ) : Type 0 where
  pub depth : (run_found bytes).depth ≡ depth_in bytes
  pub memory : (run_found bytes).memory ≡ memory_in bytes
  pub count : IsCount (count_found bytes)
  pub inside : size_found bytes ≤ length bytes
  pub store_inside : head_size + store_size (run_found bytes).memory ≤ size_found bytes

module _ (bytes : List ℕ) (whole : fault_of bytes ≡ 0) where
  can-be : CanBe (run_found bytes)
  can-be = rw (run-found bytes whole) (resumed-can-be (record_in bytes) (read bytes whole).row)

  pub found-arrays : HasArrays (run_found bytes)
  found-arrays = can-be.arrays

  pub found-possible : no_such_run (run_found bytes).edition (run_found bytes).depth (run_found bytes).memory (run_found bytes).made ≡ false
  found-possible = can-be.possible

  pub found-order : FoundOrder bytes
  found-order =
      let r = read bytes whole in
      let memory : (run_found bytes).memory ≡ memory_in bytes = rw (run-found bytes whole) r.run_memory in
      record {
        depth = rw (run-found bytes whole) r.run_depth;
        memory = memory;
        count = rw (count-found bytes whole) r.count;
        inside = rw (size-found bytes whole) r.enough;
        store_inside = rw (memory, size-found bytes whole) (omega arith);
      }

  pub store-size : length (store_in bytes) ≡ store_size (run_found bytes).memory
  store-size =
      rw found-order.memory
      (length-take-le (store_size (memory_in bytes)) (drop head_size bytes) (rw length-drop (omega (arith, (read bytes whole).enough))))

  -- it is not refused with the store that was found
  pub found-continuable : Continuable (stamped (run_found bytes) (store_in bytes))
  found-continuable =
      record {
        arrays = found-arrays;
        goes = not-refused (run_found bytes) (length (store_in bytes)) found-possible (omega (arith, store-size));
      }

-- ---- bytes that are read are a checkpoint, with more behind it
five : (l : List ℕ) → 5 ≤ length l → take 5 l ≡ get_or l 0 0 ∷ get_or l 1 0 ∷ get_or l 2 0 ∷ get_or l 3 0 ∷ get_or l 4 0 ∷ []
five [] h = absurd (omega arith)
five (a ∷ []) h = absurd (omega arith)
five (a ∷ b ∷ []) h = absurd (omega arith)
five (a ∷ b ∷ c ∷ []) h = absurd (omega arith)
five (a ∷ b ∷ c ∷ d ∷ []) h = absurd (omega arith)
five (a ∷ b ∷ c ∷ d ∷ e ∷ l) h = refl

take-small : (k : ℕ) (l : List ℕ) → ((j : ℕ) → get_or l j 0 < 256) → (j : ℕ) → get_or (take k l) j 0 < 256
take-small zero l small j = lit< tt
take-small (suc k) [] small j = lit< tt
take-small (suc k) (x ∷ l) small zero = small zero
take-small (suc k) (x ∷ l) small (suc j) = take-small k l (λ i. small (suc i)) j

two_bytes : (high low : ℕ) → low < 256 → ((256 * high + low) / 256 ≡ high) × ((256 * high + low) % 256 ≡ low)
two_bytes high low small = (omega arith, omega arith)

module _ (bytes : List ℕ) (small : (j : ℕ) → get_or bytes j 0 < 256) (whole : fault_of bytes ≡ 0) where
  head_read : take head_size bytes ≡ order_head (depth_in bytes) (memory_in bytes) (count_in bytes) (length_in bytes)
  unfolding order_head
  head_read =
      let r : Read bytes = read bytes whole in
      let (high, low) = two_bytes (get_or bytes 18 0) (get_or bytes 19 0) (small 19) in
      take-add 15 5 bytes
      ∙ rw (r.marked, high, low, five (drop 15 bytes) (rw length-drop (omega (arith, r.headed))))
      (rw (get_or-drop 15 bytes 0 0, get_or-drop 15 bytes 1 0, get_or-drop 15 bytes 2 0, get_or-drop 15 bytes 3 0, get_or-drop 15 bytes 4 0))

  record-size : length (record_in bytes) ≡ length_in bytes
  record-size = length-take-le (length_in bytes) (drop (record_from bytes) bytes) (rw length-drop (omega (arith, (read bytes whole).enough)))

  record-read : record_of (resumed (record_in bytes)) ≡ record_in bytes
  record-read =
      read-is-record (record_in bytes)
      (take-small (length_in bytes) (drop (record_from bytes) bytes) (λ j. rw (get_or-drop (record_from bytes) bytes j 0) (small (record_from bytes + j))))
      (read bytes whole).row

  covered-read : covered (resumed (record_in bytes)) (count_in bytes) (store_in bytes) ≡ take (record_end bytes) bytes
  unfolding covered
  covered-read =
      let r : Read bytes = read bytes whole in
      rw (
        record-read,
        record-size,
        r.run_depth,
        r.run_memory,
        ← head_read,
        take-take (store_size (memory_in bytes)) (store_size (memory_in bytes)) (drop head_size bytes) (omega arith),
      )
      (sym
      (take-add (record_from bytes) (length_in bytes) bytes
      ∙ ap (λ (l : List ℕ). l ++ record_in bytes) (take-add head_size (store_size (memory_in bytes)) bytes)))

  checkpoint-read : checkpoint_of (run_found bytes) (count_found bytes) (store_in bytes) ≡ take (size_found bytes) bytes
  unfolding checkpoint_of
  checkpoint-read =
      rw (run-found bytes whole, count-found bytes whole, size-found bytes whole, covered-read, ← (read bytes whole).hashed)
      (sym (take-add (record_end bytes) 32 bytes))

  pub read-is-checkpoint : bytes ≡ checkpoint_of (run_found bytes) (count_found bytes) (store_in bytes) ++ drop (size_found bytes) bytes
  read-is-checkpoint = rw checkpoint-read (sym (take-append-drop (size_found bytes) bytes))

-- no two checkpoints are read as the same
pub one-checkpoint : (a b : List ℕ) → ((j : ℕ) → get_or a j 0 < 256) → ((j : ℕ) → get_or b j 0 < 256) → fault_of a ≡ 0 → fault_of b ≡ 0
    → run_found a ≡ run_found b → count_found a ≡ count_found b → store_in a ≡ store_in b → take (size_found a) a ≡ take (size_found b) b
one-checkpoint a b small-a small_b whole-a whole-b run count store =
    sym (checkpoint-read a small-a whole-a)
    ∙ (λ i. checkpoint_of (run i) (count i) (store i))
    ∙ checkpoint-read b small_b whole-b
