use Rattle.std.proofs.Common.{◌≡◌, ℕ, ◌*◌, ◌<◌, length, get_or}
use Rattle.sha256.specs.Padding.{word_at}
use Rattle.sha256.proofs.parse.gather.Given as goal

abbrev pub invariant-loop-i : goal.invariant-loop-i
invariant-loop-i l = (length l.word-items ≡ 16) × ((k : ℕ) → k < l.i → get_or l.word-items k 0 ≡ word_at l.block (4 * k))
