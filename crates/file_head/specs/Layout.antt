-- Document 01, 'File: edition (1, or from W-206 on 2), n, count t, then statement, root, and t openings in challenge order.'
use Rattle.std.specs.Prelude.{ℕ, ◌+◌, ◌-◌, ◌*◌, List, [], ◌∷◌, ◌++◌, ltb, length}
use Rattle.base.specs.Choice.{pick}
use Rattle.base.specs.Bytes.{joined, written}
use Rattle.base.specs.Limits.{max_depth, max_challenges}
use Rattle.base.specs.Row.{first_of, outside, no_edition, is_done}
use Rattle.tree.specs.Openings.{opening_size}
use Rattle.groups.specs.Groups.{groups, number_groups}

-- the three numbers
unfoldable pub head_numbers : ℕ → ℕ → ℕ → List ℕ
head_numbers edition n t = groups number_groups edition ++ groups number_groups n ++ groups number_groups t

-- 'The head is all before the openings.'
unfoldable pub head : ℕ → List ℕ → List ℕ → ℕ → ℕ → List ℕ
head edition statement root n t = head_numbers edition n t ++ statement ++ root

-- its size: an edition takes one byte
abbrev pub head_size : ℕ → ℕ → ℕ
head_size n t = 1 + length (groups number_groups n) + length (groups number_groups t) + 64

-- where opening i begins, from 1, in a file whose openings begin at a place
abbrev pub opening_from : ℕ → ℕ → ℕ → ℕ
opening_from n start i = start + (i - 1) * opening_size n

unfoldable pub file_size : ℕ → ℕ → ℕ
file_size n t = head_size n t + t * opening_size n

-- the file over its openings, each as bytes
unfoldable pub file : ℕ → List ℕ → List ℕ → ℕ → ℕ → List (List ℕ) → List ℕ
file edition statement root n t openings = head edition statement root n t ++ joined openings

-- row 'Writing the file's head': 12 (W-206); 1; 8: t not 1..200; 7: less than the whole file fits
unfoldable pub head_row : ℕ → ℕ → ℕ → ℕ → ℕ
head_row edition n t out =
    first_of ((no_edition edition, 12) ∷ (outside 1 max_depth n, 1) ∷ (outside 1 max_challenges t, 8) ∷ (ltb out (file_size n t), 7) ∷ [])

-- the bytes after the head is written; as they were where it is refused
unfoldable pub head_written : ℕ → List ℕ → List ℕ → ℕ → ℕ → List ℕ → List ℕ
head_written edition statement root n t out =
    pick (is_done (head_row edition n t (length out))) (written out 0 (head edition statement root n t)) out
