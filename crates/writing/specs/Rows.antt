-- The checks of writing a whole file by budgets. Document 01 has no row of its own for it: starting takes the row 'Starting an
-- opening' (12, 1, 2, 3) and then that of the head (8, 7); continuing takes the row 'Continuing an opening'.
use Rattle.std.specs.Prelude.{ℕ, ◌^◌, Bool, List, [], ◌∷◌, ◌++◌, ltb, leb, eqb}
use Rattle.base.specs.Choice.{both}
use Rattle.base.specs.Limits.{max_challenges}
use Rattle.base.specs.Row.{first_of, outside, no_edition, either}
use Rattle.tree.specs.Store.{store_size}
use Rattle.run.specs.Rows.{start_checks, impossible}
use Rattle.opening.specs.declared.Opening.{Opening}
use Rattle.opening.specs.Rows.{nodes_anew}
use Rattle.file_head.specs.Layout.{file_size}
use Rattle.writing.specs.declared.Writing.{Writing}

-- 8: t not 1..200; 7: less than the whole file fits
abbrev pub file_checks : ℕ → ℕ → ℕ → List (Bool × ℕ)
file_checks n t file = (outside 1 max_challenges t, 8) ∷ (ltb file (file_size n t), 7) ∷ []

-- 12 (W-206); 1, 2, 3; 8; 7
unfoldable pub write_row : ℕ → ℕ → ℕ → ℕ → ℕ → ℕ → ℕ
write_row edition n m t store file = first_of ((no_edition edition, 12) ∷ start_checks n m store ++ file_checks n t file)

-- 4 (also an edition that does not exist, a leaf of 2^n or more, a count not 1..200, an opening's number not 1..t, or an opening done that
-- is not the last, which no start or call leaves); 3; 7
unfoldable pub rewrite_row : Writing → ℕ → ℕ → ℕ
rewrite_row w store file =
    let o : Opening = w.opening in
    first_of
    ((
      either
          (impossible o.edition o.depth o.memory o.made (nodes_anew o.depth o.memory))
          (either (leb (2 ^ o.depth) o.leaf)
          (either (outside 1 max_challenges w.count)
          (either (outside 1 w.count w.number) (both (eqb o.made (nodes_anew o.depth o.memory)) (ltb w.number w.count))))),
      4,
    )
    ∷ (ltb store (store_size o.memory), 3)
    ∷ (ltb file (file_size o.depth w.count), 7)
    ∷ []
    )
