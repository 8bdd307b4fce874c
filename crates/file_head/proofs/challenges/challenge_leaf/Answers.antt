-- `file_head::challenges::challenge_leaf` meets its contract: the first n bits of 256 are those of the first 64.
use Rattle.file_head.proofs.ChallengeLaws.{leaf-bits}
use Rattle.file_head.proofs.challenges.challenge_leaf.Goals as goal

pub returns : goal.returns
returns c =
    let a = c.args in
    leaf-bits a.edition a.depth a.statement a.root a.i _ _ c.requires.1 c.challenge_hash-bytes.ensures
    c.first_word.ensures
