-- A digest has 32 bytes, so document 01's rule meets the law of a hash to 32 bytes.
use Prim.Native.Nat.{ℕ}
use mathlib.Core.List.{List}
use Rattle.sha256.proofs.Digests.{digest-length}
use Rattle.tree.specs.Rules.{Hash32}
use Rattle.labelling.specs.Rule.{stamp_rule}

pub stamp-hash : (edition n : ℕ) (statement : List ℕ) → Hash32 (stamp_rule edition n statement)
stamp-hash edition n statement = record { hash_length = digest-length }
