-- What a file's head says, to be held against what is wanted.
use Rattle.std.specs.Prelude.{ℕ, ◌+◌, max, Bool, false, List, leb, length}
use Rattle.base.specs.Choice.{both}
use Rattle.base.specs.Lists.{same_bytes}
use Rattle.file_head.specs.Head.{HeadAnswer, numbers, not_read, head_of, head_edition, head_depth, head_count, statement_at}
use Rattle.drawing_text.specs.declared.Found.{Found}

-- the statement behind the numbers is there, and is this one
abbrev pub report_in : List ℕ → List ℕ → HeadAnswer → Bool
report_in bytes statement (not_read r) = false
report_in bytes statement (numbers e n t at) = both (leb (at + 32) (length bytes)) (same_bytes (statement_at bytes at) statement)

unfoldable pub of_report : List ℕ → List ℕ → Bool
of_report bytes statement = report_in bytes statement (head_of bytes)

-- edition, depth and count are each 0 where the head cannot be read
unfoldable pub found_of : List ℕ → List ℕ → Found
found_of bytes statement =
    record {
      edition = head_edition (head_of bytes);
      depth = head_depth (head_of bytes);
      count = head_count (head_of bytes);
      same_report = of_report bytes statement;
    }

-- `--at-least`: the larger of the number asked for and the head's own is wanted
abbrev pub at_least : ℕ → ℕ → ℕ
at_least asked own = max asked own
