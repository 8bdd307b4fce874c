-- `sha256::Hash::closed` meets its contract.
use Rattle.std.proofs.Common.{◌≡◌, length, sym, ap, ◌∙◌, rules}
use Rattle.sha256.specs.Digest.{digest_of}
use Rattle.sha256.proofs.Digests.{pushed-padding}
use Rattle.sha256.proofs.Hash.closed.Goals as goal

pub returns : goal.returns
returns c =
    let whole : length c.args.self.tail ≡ 64 = search rules in
    c.digest_after.ensures ∙ ap digest_of (sym (pushed-padding c.args.self whole))
