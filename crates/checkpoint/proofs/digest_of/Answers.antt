-- `checkpoint::digest_of` meets its contract: the bytes are not too many.
use Rattle.std.proofs.Common.{◌∙◌, arith}
use Rattle.file_head.proofs.ChallengeLaws.{done-ok, short-row, short-digest}
use Rattle.checkpoint.proofs.digest_of.Goals as goal

pub unwrap-requires : goal.unwrap-requires
unwrap-requires c = done-ok _ (c.digest.ensures.outcome_value ∙ short-row _ (omega (arith, c.requires)))

pub returns : goal.returns
returns c =
    let hashed = rw c.unwrap.ensures at c.digest.ensures.digest_value in
    hashed.0 ∙ short-digest c.args.bytes.now (omega (arith, c.requires))
