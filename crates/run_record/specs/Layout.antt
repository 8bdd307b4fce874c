-- W-201: 'a run written out as bytes and taken up elsewhere: edition, depth, memory level and labels made in seven-bit groups (labels
-- made may take six), then the statement, then the held labels only, in the order made.'
use Rattle.std.specs.Prelude.{ℕ, ◌+◌, ◌*◌, Bool, List, [], ◌∷◌, ◌++◌, ltb, length, take}
use Rattle.base.specs.Choice.{pick}
use Rattle.base.specs.Bytes.{written}
use Rattle.base.specs.Row.{first_of, is_done}
use Rattle.groups.specs.Groups.{groups, number_groups}
use Rattle.tree.specs.Walk.{nodes_in}
use Rattle.tree.specs.Held.{held}
use Rattle.run.specs.declared.Run.{Run}
use Rattle.run.specs.Rows.{impossible}

-- 'labels made may take six'
abbrev pub made_groups : ℕ
made_groups = 6

-- the bytes that the four numbers take at most
abbrev pub numbers_space : ℕ
numbers_space = 3 * number_groups + made_groups

-- the bytes of the labels that are held in a tree of depth n after k labels: the number of these is the tree's own
abbrev pub held_length : ℕ → ℕ → ℕ
held_length n k = 32 * length (held n k)

-- the four numbers
unfoldable pub record_numbers : ℕ → ℕ → ℕ → ℕ → List ℕ
record_numbers edition n m made = groups number_groups edition ++ groups number_groups n ++ groups number_groups m ++ groups made_groups made

-- 'the held labels only, in the order made': they stand so from the first place
abbrev pub held_labels : Run → List ℕ
held_labels run = take (held_length run.depth run.made) run.held

unfoldable pub record_of : Run → List ℕ
record_of run = record_numbers run.edition run.depth run.memory run.made ++ run.statement ++ held_labels run

-- no run has these numbers: what continuing a run refuses with 4
abbrev pub no_such_run : ℕ → ℕ → ℕ → ℕ → Bool
no_such_run edition n m made = impossible edition n m made (nodes_in n)

-- 'Writing a record: 4, then 7 for a short buffer.'
unfoldable pub record_row : Run → ℕ → ℕ
record_row run out =
    first_of ((no_such_run run.edition run.depth run.memory run.made, 4) ∷ (ltb out (length (record_of run)), 7) ∷ [])

-- how many bytes are written: 0 where it is refused
unfoldable pub record_size : Run → ℕ → ℕ
record_size run out = pick (is_done (record_row run out)) (length (record_of run)) 0

-- what the buffer holds afterwards: the record over its front, or what it held
unfoldable pub record_written : Run → List ℕ → List ℕ
record_written run out = pick (is_done (record_row run (length out))) (written out 0 (record_of run)) out
