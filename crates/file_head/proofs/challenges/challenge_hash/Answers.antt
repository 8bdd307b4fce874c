-- `file_head::challenges::challenge_hash` meets its contract: the four parts laid in a buffer of 77 bytes are the input.
use mathlib.Core.Path.{◌≡◌, ap, ◌∙◌}
use borrow.Author.Rules.{rules}
use lib.ListN.{length}
use Rattle.file_head.proofs.ChallengeLaws.{done-ok}
use Rattle.sha256.specs.Digest.{digest}
use Rattle.file_head.proofs.ChallengeLaws.{input-laid, short-row, short-digest}
use Rattle.file_head.proofs.challenges.challenge_hash.Goals as goal

pub unwrap-hashed-requires : goal.unwrap-hashed-requires
unwrap-hashed-requires c = done-ok _ (c.digest.ensures.outcome_value ∙ short-row _ (search rules))

pub returns : goal.returns
returns c =
    let sizes : (length c.args.statement ≡ 32) × (length c.args.root ≡ 32) = (search rules, search rules) in
    let a = c.args in
    let laid =
    input-laid a.edition a.depth a.statement a.root a.i _ _ _ _ _ sizes.0 sizes.1 c.big_endian-number.ensures
    c.put.ensures c.put-2.ensures c.put-3.ensures c.put-4.ensures in
    let hashed = rw c.unwrap-hashed.ensures at c.digest.ensures.digest_value in
    hashed.0 ∙ short-digest _ (search rules) ∙ ap digest laid
