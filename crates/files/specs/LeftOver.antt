-- Which files a killed run left, so that the next one may go on with them.
use Rattle.std.specs.Prelude.{ℕ, Bool, List, eqb, length, take}
use Rattle.base.specs.Choice.{every}
use Rattle.base.specs.Lists.{same_bytes}
use Rattle.base.specs.Row.{either}

-- no byte but zeros, as room on the disk is taken
abbrev pub is_blank : List ℕ → Bool
is_blank bytes = every (λ (b : ℕ). eqb b 0) bytes

-- nothing is in it yet, or it begins as the run's own file does
unfoldable pub left_over : List ℕ → List ℕ → Bool
left_over bytes head = either (is_blank bytes) (same_bytes (take (length head) bytes) head)
