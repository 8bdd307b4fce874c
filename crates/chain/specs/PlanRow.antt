-- Document 01's row 'Planning a chain' as W-203 amends it, and what planning writes.
use Rattle.std.specs.Prelude.{ℕ, List, [], ◌∷◌, ◌++◌, ltb, length}
use Rattle.base.specs.Choice.{pick}
use Rattle.base.specs.Bytes.{written}
use Rattle.base.specs.Row.{first_of, is_done}
use Rattle.chain_theory.specs.Ways.{chain, chain_codes}
use Rattle.chain.specs.Leaves.{leaves_checks}

-- 1; 8: over 200 leaves; 6; 16: list short
unfoldable pub plan_row : ℕ → List ℕ → ℕ → ℕ
plan_row n leaves list = first_of (leaves_checks 0 n leaves ++ (ltb list (length (chain n leaves)), 16) ∷ [])

-- the count answered: 0 where it is refused
unfoldable pub planned_count : ℕ → List ℕ → ℕ → ℕ
planned_count n leaves list = pick (is_done (plan_row n leaves list)) (length (chain n leaves)) 0

-- the list afterwards: 'later places keep what they had', and nothing is written where it is refused
unfoldable pub planned_list : ℕ → List ℕ → List ℕ → List ℕ
planned_list n leaves list = pick (is_done (plan_row n leaves (length list))) (written list 0 (chain_codes n leaves)) list
