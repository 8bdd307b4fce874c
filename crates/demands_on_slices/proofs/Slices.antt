-- Demand 2 by the check's answer.
use mathlib.Core.Path.{◌≡◌, refl, sym, ◌∙◌}
use mathlib.Core.Bool.{true}
use mathlib.Core.Logic.{◌↔◌}
use mathlib.Core.List.{List}
use Prim.Native.Nat.{ℕ, ◌<◌}
use native.Mathlib.Omega.{arith}
use lib.ListN.{get_or}
use Rattle.std.specs.Prelude.{Result, Ok, Err, is_ok}
use Rattle.base.specs.declared.refusal.Rejection.{Rejection}
use Rattle.base.specs.Number.{code_of}
use Rattle.base.proofs.Bounds.{number-some}
use Rattle.proof_file.specs.FileCheck.{file_check}
use Rattle.check_theory.specs.IsProof.{IsProof}
use Rattle.demands.proofs.Demand2.{demand2}

module _ (bytes statement : List ℕ) (n t : ℕ) (small : (j : ℕ) → get_or bytes j 0 < 256) where
  pub decided : (check : Result Unit Rejection) → code_of check ≡ file_check bytes statement n t
      → (is_ok check ≡ true) ↔ ((edition : ℕ) × IsProof edition bytes statement n t)
  decided (Ok x) is = ((λ _. (demand2.accepted bytes statement n t small).0 (sym is)), (λ p. refl))
  decided (Err r) is = (
    (λ x. absurd (let no : ◌≡◌ {A = ℕ} 0 1 = cc in omega arith)),
    (λ p. absurd (omega (arith, is ∙ (demand2.accepted bytes statement n t small).1 p, number-some r.refusal))),
  )
