-- The checks of leaf positions, and what is known of leaves that passed them.
use Rattle.std.specs.Prelude.{◌≡◌, ℕ, ◌≤◌, Bool, true, not, List, [], ◌∷◌, length}
use Rattle.base.specs.Choice.{every}
use Rattle.base.specs.Limits.{max_depth, max_challenges}
use Rattle.base.specs.Row.{first_of, outside}
use Rattle.chain_theory.specs.Planning.{is_leaf}

-- at most 200 leaves of a depth of at most 40
pub record Leaves (n : ℕ) (leaves : List ℕ) : Type 0 where
  pub depth : n ≤ max_depth
  pub few : length leaves ≤ max_challenges
  pub inside : every (is_leaf n) leaves ≡ true

-- 1; 8: not least..200 leaves; 6. Planning takes no leaves too (W-203), so its least is 0; comparing takes at least 1.
abbrev pub leaves_checks : ℕ → ℕ → List ℕ → List (Bool × ℕ)
leaves_checks least n leaves =
    (outside 1 max_depth n, 1) ∷ (outside least max_challenges (length leaves), 8) ∷ (not (every (is_leaf n) leaves), 6) ∷ []

unfoldable pub leaves_row : ℕ → ℕ → List ℕ → ℕ
leaves_row least n leaves = first_of (leaves_checks least n leaves)
