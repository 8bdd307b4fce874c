-- The check accepts exactly the proofs of the editions that exist.
use mathlib.Core.Path.{◌≡◌}
use Prim.Native.Nat.{ℕ, ◌<◌}
use mathlib.Core.Logic.{◌↔◌}
use mathlib.Core.List.{List}
use lib.ListN.{get_or}
use Rattle.file_head.specs.Head.{head_edition, head_of}
use Rattle.proof_file.specs.FileCheck.{file_check}
use Rattle.check_theory.specs.IsProof.{IsProof}
use Rattle.check_theory.proofs.Soundness.{accepted-proof}
use Rattle.check_theory.proofs.Completeness.{proof-accepted}

pub exactly-proofs :
    (bytes statement : List ℕ) (n t : ℕ) → ((j : ℕ) → get_or bytes j 0 < 256)
    → file_check bytes statement n t ≡ 0 ↔ ((edition : ℕ) × IsProof edition bytes statement n t)
exactly-proofs bytes statement n t small = (
  λ e. (head_edition (head_of bytes), accepted-proof bytes statement n t small e),
  λ p. proof-accepted p.0 bytes statement n t p.1,
)
