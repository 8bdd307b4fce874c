-- Laws of reading a checkpoint: what its SHA-256 is compared with, the fault by each check, and what is handed back beside it.
use mathlib.Core.Path.{◌≡◌}
use mathlib.Core.Bool.{true, false, not}
use mathlib.Core.List.{List}
use Prim.Native.Nat.{ℕ, ◌+◌, ◌-◌, ◌*◌, ◌≤◌, ◌<◌}
use borrow.Author.Tests.{lt-ltb, le-ltb, ltb-false}
use lib.Dec.{ltb}
use lib.ListN.{length, take, drop, get_or}
use Rattle.base.specs.Limits.{max_depth, max_memory}
use Rattle.base.specs.Lists.{same_bytes}
use Rattle.base.specs.Row.{outside, memory_over, is_done}
use Rattle.base.proofs.Parts.{part-size}
use Rattle.base.proofs.Ranges.{memory-inside, neither}
use Rattle.sha256.specs.Digest.{digest}
use Rattle.tree.specs.Walk.{nodes_in}
use Rattle.tree.specs.Store.{store_size}
use Rattle.run_record.specs.Reading.{resume_row, resumed}
use Rattle.checkpoint.specs.Layout.{head_size, size_of}
use Rattle.checkpoint.specs.Reading.{depth_in, memory_in, count_in, length_in, record_from, record_end, record_in, unmarked, no_order, altered, other_run}
use Rattle.checkpoint.specs.Reading.{record_fault, fault_of}

-- the 32 bytes at a place are compared with the SHA-256 of all before it
pub compared : (bytes hash : List ℕ) (end : ℕ) → hash ≡ digest (take end bytes)
    → not (same_bytes (take (end + 32 - end) (drop end bytes)) hash) ≡ altered bytes end
compared bytes hash end e = rw (part-size bytes end 32, e)

-- the store's bytes, from its nodes
pub store_bytes : (m nodes : ℕ) → nodes ≡ nodes_in m → 32 * nodes ≡ store_size m
unfolding nodes_in
store_bytes m nodes e = rw e

-- ---- the fields, as they are read
module _ (bytes : List ℕ) where
  pub head-there : unmarked bytes ≡ false → head_size ≤ length bytes
  head-there e = ltb-false (length bytes) head_size (neither (ltb (length bytes) head_size) _ e).0

  pub order-read : (n m t : ℕ) → n ≡ depth_in bytes → m ≡ memory_in bytes → t ≡ count_in bytes
      → no_order n m t ≡ no_order (depth_in bytes) (memory_in bytes) (count_in bytes)
  order-read n m t e f g = rw (e, f, g)

  pub from-read : (m nodes : ℕ) → m ≡ memory_in bytes → nodes ≡ nodes_in m → head_size + 32 * nodes ≡ record_from bytes
  from-read m nodes e f = rw (← e, store_bytes m nodes f)

  pub length-read : (high low : ℕ) → high ≡ get_or bytes 18 0 → low ≡ get_or bytes 19 0 → 256 * high + low ≡ length_in bytes
  length-read high low e f = rw (e, f)

  pub part-read : (from size : ℕ) → from ≡ record_from bytes → size ≡ length_in bytes → take (from + size - from) (drop from bytes) ≡ record_in bytes
  part-read from size e f = rw (part-size bytes from size, e, f)

-- an order's memory level
pub memory_low : (n m t : ℕ) → no_order n m t ≡ false → m ≤ max_memory
memory_low n m t e = memory-inside n m (neither (memory_over n m) _ (neither (outside 1 max_depth n) _ e).1).0

-- ---- the record: of no run, of another one, or of the order's
module _ (bytes : List ℕ) (n m : ℕ) where
  pub no-run : is_done (resume_row bytes) ≡ false → 3 ≡ record_fault bytes n m
  unfolding record_fault
  no-run e = rw e

  module _ (done : resume_row bytes ≡ 0) where
    pub other-run : other_run (resumed bytes) n m ≡ true → 3 ≡ record_fault bytes n m
    unfolding record_fault
    other-run e = rw (done, e)

    pub order-run : other_run (resumed bytes) n m ≡ false → 0 ≡ record_fault bytes n m
    unfolding record_fault
    order-run e = rw (done, e)

-- ---- the bytes: foreign, damaged by three checks, or left to the record's
module _ (bytes : List ℕ) where
  pub foreign : unmarked bytes ≡ true → 1 ≡ fault_of bytes
  unfolding fault_of
  foreign e = rw e

  module _ (marked : unmarked bytes ≡ false) where
    pub no-order : no_order (depth_in bytes) (memory_in bytes) (count_in bytes) ≡ true → 2 ≡ fault_of bytes
    unfolding fault_of
    no-order e = rw (marked, e)

    module _ (order : no_order (depth_in bytes) (memory_in bytes) (count_in bytes) ≡ false) where
      pub cut_off : length bytes < size_of (memory_in bytes) (length_in bytes) → 2 ≡ fault_of bytes
      unfolding fault_of
      cut_off h = rw (marked, order, lt-ltb (length bytes) (size_of (memory_in bytes) (length_in bytes)) h)

      module _ (there : size_of (memory_in bytes) (length_in bytes) ≤ length bytes) where
        pub changed : altered bytes (record_end bytes) ≡ true → 2 ≡ fault_of bytes
        unfolding fault_of
        changed e = rw (marked, order, le-ltb (length bytes) (size_of (memory_in bytes) (length_in bytes)) there, e)

        pub unchanged : altered bytes (record_end bytes) ≡ false
            → record_fault (record_in bytes) (depth_in bytes) (memory_in bytes) ≡ fault_of bytes
        unfolding fault_of record_fault
        unchanged e = rw (marked, order, le-ltb (length bytes) (size_of (memory_in bytes) (length_in bytes)) there, e)

pub ruleset reading_laws = (memory_low)
