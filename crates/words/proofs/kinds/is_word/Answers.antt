-- `words::kinds::is_word` meets its contract.
use Rattle.std.proofs.Common.{◌∙◌, nat_eq}
use Rattle.base.proofs.ListsLaws.{same_by-pointwise}
use Rattle.words.proofs.kinds.is_word.Goals as goal

pub returns : goal.returns
returns c = c.eq.ensures ∙ same_by-pointwise nat_eq c.args.word.now c.args.name.now
