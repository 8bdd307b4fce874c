-- What the vector programs make of an edition and a statement: the store of a finished run, the file written whole, its leaves.
use Rattle.std.specs.Prelude.{ℕ, zero, suc, ◌+◌, List, [], ◌∷◌, ◌++◌, map}
use Rattle.base.specs.Bytes.{big_endian}
use Rattle.run.specs.declared.Run.{Run}
use Rattle.run.specs.Steps as runs
use Rattle.file_head.specs.Challenge.{challenged}
use Rattle.writing.specs.Steps as writings

-- the parts of a run as they are hashed: statement, edition, depth, memory level, labels made, and places
abbrev pub run_parts : Run → List (List ℕ)
run_parts r = r.statement ∷ map (big_endian 8) (r.edition ∷ r.depth ∷ r.memory ∷ r.made ∷ []) ++ r.held ∷ []

-- the store after a new run is called with the greatest budget
unfoldable pub whole_run : ℕ → List ℕ → ℕ → ℕ → List ℕ → List ℕ
whole_run edition statement n m store =
    (runs.advanced (runs.stamped (runs.new_run edition statement n m) store) 18446744073709551615).store

-- the file after its writing is started and called with the greatest budget
unfoldable pub whole_file : ℕ → List ℕ → List ℕ → ℕ → ℕ → ℕ → List ℕ → List ℕ → List ℕ
whole_file edition statement root n m t store file =
    (writings.advanced store (writings.started edition statement root n m t store file) 18446744073709551615).file

-- the leaves of challenges 1 to k
unfoldable pub leaves_to : ℕ → ℕ → List ℕ → List ℕ → ℕ → List ℕ
leaves_to edition n statement root zero = []
leaves_to edition n statement root (suc k) = leaves_to edition n statement root k ++ challenged edition n statement root (k + 1) ∷ []
