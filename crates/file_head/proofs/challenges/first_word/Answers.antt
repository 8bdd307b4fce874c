-- `file_head::challenges::first_word` meets its contract: std's number of eight bytes is the definition's.
use mathlib.Core.Path.{ap, ◌∙◌}
use borrow.Author.Rules.{rules}
use Rattle.file_head.proofs.ChallengeLaws.{word-value}
use Rattle.file_head.specs.Challenge.{big_endian_value}
use Rattle.file_head.proofs.challenges.first_word.Goals as goal

pub returns : goal.returns
returns c = c.from_be_bytes.ensures ∙ word-value _ (search rules) ∙ ap big_endian_value c.copy_from_slice.ensures.after
