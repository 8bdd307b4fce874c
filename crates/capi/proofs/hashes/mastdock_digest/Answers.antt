-- `capi::hashes::mastdock_digest` meets its contract: zeros stand beside a refusal.
use Rattle.capi.proofs.Numbers.{value_or}
use Rattle.capi.proofs.RefusedHashes.{not-digested}
use Rattle.capi.proofs.hashes.mastdock_digest.Goals as goal

pub returns-clause-digest_value : goal.returns-clause-digest_value
returns-clause-digest_value c =
    let e = c.digest-answer.ensures in
    rw c.unwrap_or-hashed.ensures (value_or _ _ _ _ e.outcome_value e.digest_value (not-digested c.args.message.now)).0

pub returns-clause-blocks_value : goal.returns-clause-blocks_value
returns-clause-blocks_value c =
    let e = c.digest-answer.ensures in
    rw c.unwrap_or-hashed.ensures (value_or _ _ _ _ e.outcome_value e.digest_value (not-digested c.args.message.now)).1
