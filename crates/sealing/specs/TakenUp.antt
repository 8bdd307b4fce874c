-- What is taken up from the bytes of a checkpoint.
use Rattle.std.specs.Prelude.{◌≡◌, ℕ, ◌*◌, List, eqb, take, drop}
use Rattle.base.specs.Bytes.{written}
use Rattle.base.specs.Choice.{pick, both}
use Rattle.base.specs.Row.{is_done}
use Rattle.tree.specs.Openings.{opening_size}
use Rattle.tree.specs.Walk.{nodes_in}
use Rattle.run.specs.declared.Run.{Run}
use Rattle.file_head.specs.Layout.{head_size}
use Rattle.checkpoint.specs.Reading.{fault_of, run_found, count_found, size_found, store_in}
use Rattle.checkpoint.specs.Openings.{openings_taken}
use Rattle.sealing.specs.declared.Seal.{Seal}

-- the openings behind the checkpoint that are right, once all labels are made
unfoldable pub openings_done : List ℕ → ℕ
openings_done bytes =
    let run : Run = run_found bytes in
    pick (both (is_done (fault_of bytes)) (eqb run.made (nodes_in run.depth)))
    (openings_taken run.edition run.statement (take 32 run.held) run.depth (count_found bytes) (drop (size_found bytes) bytes))
    0

-- the store over the front of one; nothing beside a fault
unfoldable pub store_taken : List ℕ → List ℕ → List ℕ
store_taken bytes store = pick (is_done (fault_of bytes)) (written store 0 (store_in bytes)) store

-- the openings in their places of a file
unfoldable pub file_taken : List ℕ → List ℕ → List ℕ
file_taken bytes file =
    let n : ℕ = (run_found bytes).depth in
    pick (is_done (fault_of bytes))
    (written file (head_size n (count_found bytes)) (take (openings_done bytes * opening_size n) (drop (size_found bytes) bytes)))
    file

-- what is taken up of a whole checkpoint
pub record IsTakenUp (bytes : List ℕ) (seal : Seal) : Type 0 where
  pub run : seal.run ≡ run_found bytes
  pub count : seal.count ≡ count_found bytes
  pub done : seal.done ≡ openings_done bytes
