-- `sha256::Hash::within` meets its contract. By the law of bytes that leave the tail short of full.
use Rattle.std.proofs.Common.{◌≡◌, length, sym, ◌∙◌, arith, rules}
use Rattle.sha256.proofs.Pushing.{pushed_all-within}
use Rattle.base.proofs.Copying.{written-sets}
use Rattle.sha256.proofs.Hash.within.Goals as goal

pub returns : goal.returns
returns c =
    let n : length c.args.self.tail ≡ 64 = search rules in
    rw
    (c.put.ensures
    ∙ written-sets _ _ _ (omega arith))
    (sym (pushed_all-within _ _ c.requires.0))
