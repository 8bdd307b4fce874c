-- `vector_helpers::filled::places_digest` meets its contract. The invariant: the places left give the same state.
use Rattle.std.proofs.Common.{◌≡◌, map, drop}
use Rattle.base.specs.Bytes.{big_endian}
use Rattle.sha256.specs.Portions.{new_hash, updated_all}
use Rattle.vector_helpers.proofs.filled.places_digest.Given as goal

abbrev pub invariant-loop-place : goal.invariant-loop-place
invariant-loop-place l =
    updated_all new_hash (map (big_endian 8) l.list) ≡ updated_all l.state (map (big_endian 8) (drop l.place-index l.list))
