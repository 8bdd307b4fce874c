-- A checkpoint: what the order was, the store and the run's record, and a SHA-256 over all of it.
use Rattle.std.specs.Prelude.{ℕ, ◌+◌, ◌/◌, ◌%◌, List, [], ◌∷◌, ◌++◌, ltb, length, take}
use Rattle.base.specs.Choice.{pick}
use Rattle.base.specs.Bytes.{written}
use Rattle.base.specs.Limits.{max_challenges}
use Rattle.base.specs.Row.{first_of, outside, is_done}
use Rattle.decimal.specs.Ascii.{ascii}
use Rattle.sha256.specs.Digest.{digest}
use Rattle.tree.specs.Store.{store_size}
use Rattle.run.specs.declared.Run.{Run}
use Rattle.run_record.specs.Layout.{record_of, no_such_run}

-- by which a checkpoint is known
abbrev pub mark : List ℕ
mark = ascii "mastdock run 1\n"

-- the mark, depth, memory level and challenges in a byte each, and the record's length in two, highest first
unfoldable pub order_head : ℕ → ℕ → ℕ → ℕ → List ℕ
order_head n m t size = mark ++ (n ∷ m ∷ t ∷ size / 256 ∷ size % 256 ∷ [])

abbrev pub head_size : ℕ
head_size = 20

-- all that the SHA-256 is over: the head, the store's levels 0 to m, the run's record
unfoldable pub covered : Run → ℕ → List ℕ → List ℕ
covered run t store =
    order_head run.depth run.memory t (length (record_of run)) ++ take (store_size run.memory) store ++ record_of run

unfoldable pub checkpoint_of : Run → ℕ → List ℕ → List ℕ
checkpoint_of run t store = covered run t store ++ digest (covered run t store)

-- its size, by the memory level and the record's length
abbrev pub size_of : ℕ → ℕ → ℕ
size_of m size = head_size + store_size m + size + 32

-- the checks before that of the buffer
unfoldable pub order_row : Run → ℕ → ℕ → ℕ
order_row run t store =
    first_of
    ((no_such_run run.edition run.depth run.memory run.made, 4) ∷ (ltb store (store_size run.memory), 3) ∷ (outside 1 max_challenges t, 8) ∷ [])

-- 4 as when the run is continued; 3: store short; 8: t not 1..200; 7: less than the whole fits
unfoldable pub checkpoint_row : Run → ℕ → ℕ → ℕ → ℕ
checkpoint_row run t store out =
    first_of
    ((no_such_run run.edition run.depth run.memory run.made, 4)
    ∷ (ltb store (store_size run.memory), 3)
    ∷ (outside 1 max_challenges t, 8)
    ∷ (ltb out (size_of run.memory (length (record_of run))), 7)
    ∷ []
    )

-- how many bytes are written: 0 where it is refused
unfoldable pub checkpoint_size : Run → ℕ → ℕ → ℕ → ℕ
checkpoint_size run t store out =
    pick (is_done (checkpoint_row run t store out)) (size_of run.memory (length (record_of run))) 0

-- what the output holds afterwards: the checkpoint over its front, or what it held
unfoldable pub checkpoint_written : Run → ℕ → List ℕ → List ℕ → List ℕ
checkpoint_written run t store out =
    pick (is_done (checkpoint_row run t (length store) (length out))) (written out 0 (checkpoint_of run t store)) out
