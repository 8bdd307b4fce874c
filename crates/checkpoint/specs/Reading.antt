-- What reading gives back of any bytes as a checkpoint. Behind it may stand the openings that are finished.
use Rattle.std.specs.Prelude.{◌≡◌, ℕ, ◌+◌, ◌*◌, Bool, not, List, [], ◌∷◌, ltb, eqb, length, take, drop, get_or, Result, Ok, Err}
use Rattle.base.specs.Choice.{pick, both}
use Rattle.base.specs.Limits.{max_depth, max_challenges}
use Rattle.base.specs.Lists.{same_bytes}
use Rattle.base.specs.Row.{first_of, outside, memory_over, either, is_done}
use Rattle.sha256.specs.Digest.{digest}
use Rattle.tree.specs.Store.{store_size}
use Rattle.run.specs.declared.Run.{Run}
use Rattle.run.specs.Steps.{no_run}
use Rattle.run_record.specs.Reading.{resume_row, resumed}
use Rattle.checkpoint.specs.declared.Fault.{Fault}
use Rattle.checkpoint.specs.declared.Found.{Found}
use Rattle.checkpoint.specs.declared.Fault.TheVariants.{Foreign, Damaged, Impossible}
use Rattle.checkpoint.specs.Layout.{mark, head_size, size_of}

-- ---- the fields, where they stand
abbrev pub depth_in : List ℕ → ℕ
depth_in bytes = get_or bytes 15 0

abbrev pub memory_in : List ℕ → ℕ
memory_in bytes = get_or bytes 16 0

abbrev pub count_in : List ℕ → ℕ
count_in bytes = get_or bytes 17 0

-- the record's length
abbrev pub length_in : List ℕ → ℕ
length_in bytes = 256 * get_or bytes 18 0 + get_or bytes 19 0

abbrev pub store_in : List ℕ → List ℕ
store_in bytes = take (store_size (memory_in bytes)) (drop head_size bytes)

-- where the record begins and where it ends
abbrev pub record_from : List ℕ → ℕ
record_from bytes = head_size + store_size (memory_in bytes)

abbrev pub record_end : List ℕ → ℕ
record_end bytes = record_from bytes + length_in bytes

abbrev pub record_in : List ℕ → List ℕ
record_in bytes = take (length_in bytes) (drop (record_from bytes) bytes)

-- ---- the checks
-- the bytes do not begin as a checkpoint does
abbrev pub unmarked : List ℕ → Bool
unmarked bytes = either (ltb (length bytes) head_size) (not (same_bytes (take 15 bytes) mark))

-- no order has these numbers
abbrev pub no_order : ℕ → ℕ → ℕ → Bool
no_order n m t = either (outside 1 max_depth n) (either (memory_over n m) (outside 1 max_challenges t))

-- the SHA-256 from a place on is not that of all before it
abbrev pub altered : List ℕ → ℕ → Bool
altered bytes end = not (same_bytes (take 32 (drop end bytes)) (digest (take end bytes)))

-- the run is not of this depth and memory level
abbrev pub other_run : Run → ℕ → ℕ → Bool
other_run run n m = not (both (eqb run.depth n) (eqb run.memory m))

-- where the SHA-256 is right: 3: the record is of no run, or of one that the order's numbers do not fit
abbrev pub record_checks : List ℕ → ℕ → ℕ → List (Bool × ℕ)
record_checks bytes n m = (not (is_done (resume_row bytes)), 3) ∷ (other_run (resumed bytes) n m, 3) ∷ []

unfoldable pub record_fault : List ℕ → ℕ → ℕ → ℕ
record_fault bytes n m = first_of (record_checks bytes n m)

-- 1: foreign; 2: damaged; 3: whole by its SHA-256 and yet of no run
unfoldable pub fault_of : List ℕ → ℕ
fault_of bytes =
    first_of
    ((unmarked bytes, 1)
    ∷ (no_order (depth_in bytes) (memory_in bytes) (count_in bytes), 2)
    ∷ (ltb (length bytes) (size_of (memory_in bytes) (length_in bytes)), 2)
    ∷ (altered bytes (record_end bytes), 2)
    ∷ record_checks (record_in bytes) (depth_in bytes) (memory_in bytes)
    )

abbrev pub fault_number : {A : Type 0} → Result A Fault → ℕ
fault_number (Ok x) = 0
fault_number (Err Foreign) = 1
fault_number (Err Damaged) = 2
fault_number (Err Impossible) = 3

-- ---- what is handed back: nothing beside a fault
unfoldable pub run_found : List ℕ → Run
run_found bytes = pick (is_done (fault_of bytes)) (resumed (record_in bytes)) no_run

unfoldable pub count_found : List ℕ → ℕ
count_found bytes = pick (is_done (fault_of bytes)) (count_in bytes) 0

unfoldable pub size_found : List ℕ → ℕ
size_found bytes = pick (is_done (fault_of bytes)) (size_of (memory_in bytes) (length_in bytes)) 0

-- what a whole checkpoint says
pub record IsFoundIn (bytes : List ℕ) (found : Found) : Type 0 where
  pub run : found.run ≡ run_found bytes
  pub count : found.count ≡ count_found bytes
  pub size : found.size ≡ size_found bytes
