-- The list that the program lends is long enough for every input: it never prints the refusal 16.
use mathlib.Core.Path.{◌≡◌}
use Prim.Native.Nat.{ℕ}
use native.Mathlib.Omega.{arith}
use mathlib.Core.Bool.{false, not}
use mathlib.Core.List.{List, [], ◌∷◌, ◌++◌}
use lib.Dec.{ltb}
use lib.ListN.{length}
use borrow.Author.Tests.{le-ltb, not-false}
use Rattle.base.specs.Choice.{every}
use Rattle.base.specs.Limits.{max_depth, max_challenges}
use Rattle.base.proofs.RowLaws.{never-gives}
use Rattle.base.proofs.Ranges.{range-of, depth-inside}
use Rattle.base.specs.Row.{outside}
use Rattle.chain_theory.specs.Ways.{chain}
use Rattle.chain_theory.specs.Planning.{is_leaf}
use Rattle.chain_theory.proofs.Bound.{chain-bound, leaves_opened-le}
use Rattle.chain.specs.Leaves.{leaves_checks}
use Rattle.chain.specs.PlanRow.{plan_row}
use Rattle.planning.specs.Output.{places}

pub never-short : (n : ℕ) (leaves : List ℕ) → plan_row n leaves places ≡ 16 → ⊥
unfolding plan_row
never-short n leaves =
    never-gives (leaves_checks 0 n leaves ++ (ltb places (length (chain n leaves)), 16) ∷ []) 16 (omega arith) (
      λ one. absurd (omega arith),
      λ depth. (
        λ eight. absurd (omega arith),
        λ few. (λ six. absurd (omega arith), λ inside. (λ _. enough depth few inside, λ _. tt)),
      ),
    )
  where
    enough :
        outside 1 max_depth n ≡ false → outside 0 max_challenges (length leaves) ≡ false → not (every (is_leaf n) leaves) ≡ false
        → ltb places (length (chain n leaves)) ≡ false
    enough depth few inside =
        le-ltb places (length (chain n leaves))
        (chain-bound n leaves (not-false _ inside) (depth-inside n depth)
        (omega (arith, leaves_opened-le leaves, range-of 0 max_challenges (length leaves) few)))
