-- Laws of writing a checkpoint: its head, the record, the SHA-256 behind all of it, and what is answered and left in the buffer.
use mathlib.Core.Path.{◌≡◌, ap, ◌∙◌}
use mathlib.Core.Bool.{false}
use mathlib.Core.List.{List, ◌++◌}
use Prim.Native.Nat.{ℕ, ◌/◌, ◌%◌, ◌≤◌}
use borrow.Author.Tests.{le-ltb}
use lib.ListN.{length, take, set}
use Rattle.base.specs.Bytes.{zeros, written}
use Rattle.base.proofs.WrittenLaws.{written_next}
use Rattle.sha256.specs.Digest.{digest}
use Rattle.tree.specs.Store.{store_size}
use Rattle.run.specs.declared.Run.{Run}
use Rattle.run_record.specs.Layout.{record_of, no_such_run, record_row, record_size, record_written}
use Rattle.run_record.proofs.WritingLaws.{front-written}
use Rattle.std.proofs.Common.{arith}
use Rattle.std.proofs.lemmas.Bool.Decides.{nat_tests}
use Rattle.checkpoint.specs.Layout.{order_row, mark, order_head, head_size, covered, checkpoint_of, size_of, checkpoint_row}

-- the five numbers behind the mark
pub head-laid : (head : List ℕ) (n m t size : ℕ) → head ≡ written (zeros head_size) 0 mark
    → set (set (set (set (set head 15 n) 16 m) 17 t) 18 (size / 256)) 19 (size % 256) ≡ order_head n m t size
unfolding written order_head
head-laid head n m t size e = rw e

-- the SHA-256 behind what it is over
pub hashed : (out all before hash after : List ℕ) (end : ℕ) → before ≡ written out 0 all → end ≡ length all
    → hash ≡ digest (take end before) → after ≡ written before end hash → after ≡ written out 0 (all ++ digest all)
hashed out all before hash after end e size h a =
    let front : take end before ≡ all = rw e (front-written out all end size) in
    a ∙ rw (h ∙ ap digest front) (written_next out all (digest all) before end e size)

-- the record fits a room of its own
pub record-fits : (run : Run) (room : ℕ) → no_such_run run.edition run.depth run.memory run.made ≡ false → length (record_of run) ≤ room
    → record_row run room ≡ 0
unfolding record_row
record-fits run room possible fits = rw (possible, le-ltb room (length (record_of run)) fits)

pub record-laid : (run : Run) (room after : List ℕ) (size : ℕ) → no_such_run run.edition run.depth run.memory run.made ≡ false
    → length (record_of run) ≤ length room → size ≡ record_size run (length room) → after ≡ record_written run room
    → (size ≡ length (record_of run)) × (take size after ≡ record_of run)
unfolding record_row record_size record_written
record-laid run room after size possible fits s a =
    let enough = le-ltb (length room) (length (record_of run)) fits in
    let is : size ≡ length (record_of run) = rw (possible, enough) at s in
    let there : after ≡ written room 0 (record_of run) = rw (possible, enough) at a in
    (is, rw there (front-written room (record_of run) size is))

-- head, store and record, with the SHA-256 of them, make the checkpoint
pub parts_are : (run : Run) (t : ℕ) (store head laid : List ℕ) (kept size : ℕ) → head ≡ order_head run.depth run.memory t size
    → kept ≡ store_size run.memory → size ≡ length (record_of run) → laid ≡ record_of run
    → (head ++ take kept store ++ laid) ++ digest (head ++ take kept store ++ laid) ≡ checkpoint_of run t store
unfolding checkpoint_of covered
parts_are run t store head laid kept size e f g h = rw (e, f, g, h)

-- no check refuses, and it fits
pub row-done : (run : Run) (t store out : ℕ) → order_row run t store ≡ 0 → size_of run.memory (length (record_of run)) ≤ out
    → checkpoint_row run t store out ≡ 0
unfolding order_row checkpoint_row
row-done run t store out e h = grind (arith, nat_tests)
