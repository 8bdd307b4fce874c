-- Document 01's rows 'Starting an opening' and 'Continuing an opening'.
use Rattle.std.specs.Prelude.{ℕ, ◌+◌, ◌-◌, ◌^◌, Bool, List, [], ◌∷◌, ◌++◌, ltb, leb}
use Rattle.base.specs.Row.{first_of, no_edition, either}
use Rattle.tree.specs.Openings.{opening_size}
use Rattle.tree.specs.Store.{store_size}
use Rattle.run.specs.Rows.{start_checks, impossible}
use Rattle.opening.specs.declared.Opening.{Opening}

-- the nodes that an opening labels anew: those strictly below the leaf's ancestor on level m
abbrev pub nodes_anew : ℕ → ℕ → ℕ
nodes_anew n m = 2 ^ (n - m + 1) - 2

-- 6: position 2^n or more; 7: output short
abbrev pub leaf_checks : ℕ → ℕ → ℕ → List (Bool × ℕ)
leaf_checks n leaf out = (leb (2 ^ n) leaf, 6) ∷ (ltb out (opening_size n), 7) ∷ []

-- 12 (W-206); 1, 2, 3; 6; 7
unfoldable pub open_row : ℕ → ℕ → ℕ → ℕ → ℕ → ℕ → ℕ
open_row edition n m leaf store out = first_of ((no_edition edition, 12) ∷ start_checks n m store ++ leaf_checks n leaf out)

-- 4 (also a leaf of 2^n or more, or an edition that does not exist); 3; 7
unfoldable pub reopen_row : Opening → ℕ → ℕ → ℕ
reopen_row o store out =
    first_of
    ((
      either (impossible o.edition o.depth o.memory o.made (nodes_anew o.depth o.memory)) (leb (2 ^ o.depth) o.leaf),
      4,
    )
    ∷ (ltb store (store_size o.memory), 3)
    ∷ (ltb out (opening_size o.depth), 7)
    ∷ []
    )
