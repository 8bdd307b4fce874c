-- `sha256::push::aligned` meets its contract. By the law of bytes from the start of a block.
use mathlib.Core.Path.{sym, ◌∙◌}
use Rattle.sha256.proofs.Blocks.{part-from}
use Rattle.sha256.proofs.Pushing.{pushed_all-cleared}
use borrow.Author.Rules.{rules}
use Rattle.base.proofs.Copying.{written-sets}
use Rattle.sha256.proofs.push.aligned.Goals as goal

pub returns : goal.returns
returns c =
    rw (
      c.absorb.ensures,
      c.put.ensures
          ∙ written-sets _ _ _ (search rules),
      part-from,
    ) (sym (pushed_all-cleared _ _ _ c.requires.0))
