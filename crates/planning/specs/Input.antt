-- Document 01, the planning program: what its input says. 'reads depth and leaves in decimal, parted by blanks or line feeds'
use Rattle.std.specs.Prelude.{Bool, not, List, ℕ, ltb, eqb, length}
use Rattle.base.specs.Choice.{every}
use Rattle.base.specs.Limits.{max_input}
use Rattle.base.specs.Row.{either}
use Rattle.decimal.specs.Numbers.{readable, numbers, fits}

-- '17: over 65,536 bytes, any other byte, no number, or a number over 2^64 − 1'
unfoldable pub unreadable : List ℕ → Bool
unreadable bytes =
    either (ltb max_input (length bytes))
    (either (not (every readable bytes)) (either (eqb (length (numbers bytes)) 0) (not (every fits (numbers bytes)))))
