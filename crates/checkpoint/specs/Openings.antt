-- The openings behind a checkpoint: those that are finished, one after the other. The last may have been cut off by a power failure,
-- so only those are taken that are right, up to the first that is not.
use Rattle.std.specs.Prelude.{ℕ, zero, suc, ◌+◌, ◌-◌, ◌*◌, Bool, List, leb, length, take, drop}
use Rattle.base.specs.Choice.{pick, both}
use Rattle.base.specs.Limits.{max_depth, max_challenges}
use Rattle.base.specs.Row.{outside, either, is_done}
use Rattle.tree.specs.Openings.{opening_size}
use Rattle.file_head.specs.Challenge.{challenge_leaf}
use Rattle.opening_check.specs.OpeningCheck.{right_row}

-- opening i, from 1, of openings that stand one after the other
abbrev pub opening_in : ℕ → List ℕ → ℕ → List ℕ
opening_in n bytes i = take (opening_size n) (drop ((i - 1) * opening_size n) bytes)

-- opening i is there whole, and is right by an edition's order
abbrev pub is_right : ℕ → List ℕ → List ℕ → ℕ → List ℕ → ℕ → Bool
is_right edition statement root n bytes i =
    both (leb (i * opening_size n) (length bytes))
    (is_done (right_row edition statement n (challenge_leaf edition n statement root i) root (opening_in n bytes i)))

-- how many of the openings after the first `done` are right, `left` at most, up to the first that is not
unfoldable pub right_after : ℕ → List ℕ → List ℕ → ℕ → List ℕ → ℕ → ℕ → ℕ
right_after edition statement root n bytes done zero = 0
right_after edition statement root n bytes done (suc left) =
    pick (is_right edition statement root n bytes (done + 1)) (suc (right_after edition statement root n bytes (done + 1) left)) 0

-- how many of t openings are taken; none where n or t is out of range
unfoldable pub openings_taken : ℕ → List ℕ → List ℕ → ℕ → ℕ → List ℕ → ℕ
openings_taken edition statement root n t bytes =
    pick (either (outside 1 max_depth n) (outside 1 max_challenges t)) 0 (right_after edition statement root n bytes 0 t)
