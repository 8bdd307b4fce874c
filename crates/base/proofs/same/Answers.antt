-- `base::same` meets its contract: std's comparison is the definition's.
use Rattle.std.proofs.Common.{◌∙◌, nat_eq}
use Rattle.base.proofs.ListsLaws.{same_by-pointwise}
use Rattle.base.proofs.same.Goals as goal

pub returns : goal.returns
returns c = c.eq.ensures ∙ same_by-pointwise nat_eq c.args.a.now c.args.b.now
