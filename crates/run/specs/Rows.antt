-- Document 01's rows 'Starting a run' and 'Continuing a run'.
use Rattle.std.specs.Prelude.{ℕ, Bool, List, [], ◌∷◌, ltb}
use Rattle.base.specs.Limits.{max_depth}
use Rattle.base.specs.Row.{first_of, outside, memory_over, no_edition, either}
use Rattle.tree.specs.Walk.{nodes_in}
use Rattle.tree.specs.Store.{store_size}
use Rattle.run.specs.declared.Run.{Run}

-- 1: n not 1..40; 2: m over min(n, max_memory); 3: store short. An opening and a file are started with these and more.
abbrev pub start_checks : ℕ → ℕ → ℕ → List (Bool × ℕ)
start_checks n m store = (outside 1 max_depth n, 1) ∷ (memory_over n m, 2) ∷ (ltb store (store_size m), 3) ∷ []

unfoldable pub start_row : ℕ → ℕ → ℕ → ℕ
start_row n m store = first_of (start_checks n m store)

-- an edition that does not exist (W-206), n not 1..40, m over min(n, max_memory), or more labels made than there are to make
abbrev pub impossible : ℕ → ℕ → ℕ → ℕ → ℕ → Bool
impossible edition n m made total =
    either (no_edition edition) (either (outside 1 max_depth n) (either (memory_over n m) (ltb total made)))

-- 4; 3
unfoldable pub continue_row : Run → ℕ → ℕ
continue_row run store =
    first_of
    ((impossible run.edition run.depth run.memory run.made (nodes_in run.depth), 4)
    ∷ (ltb store (store_size run.memory), 3)
    ∷ []
    )
