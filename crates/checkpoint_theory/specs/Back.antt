-- What is to be given back of a checkpoint with more bytes behind it.
use Rattle.std.specs.Prelude.{◌≡◌, ℕ, List, drop}
use Rattle.run.specs.declared.Run.{Run}
use Rattle.checkpoint.specs.Reading.{store_in, fault_of, run_found, count_found, size_found}

-- the bytes are read as a checkpoint of this size: of this run, order and store, with these bytes behind it
pub record Back (bytes : List ℕ) (run : Run) (t : ℕ) (store : List ℕ) (size : ℕ) (more : List ℕ) : Type 0 where
  pub is_whole : fault_of bytes ≡ 0
  pub run_back : run_found bytes ≡ run
  pub count_back : count_found bytes ≡ t
  pub size_back : size_found bytes ≡ size
  pub store_back : store_in bytes ≡ store
  pub more_back : drop (size_found bytes) bytes ≡ more
