-- `capi::hashes::mastdock_hash_finish` meets its contract: zeros stand beside a refusal, and the hash is the one that was given.
use mathlib.Core.Path.{refl}
use Rattle.capi.proofs.Numbers.{value_or}
use Rattle.capi.proofs.RefusedHashes.{not-finished}
use Rattle.capi.proofs.hashes.mastdock_hash_finish.Goals as goal

pub returns-clause-digest_value : goal.returns-clause-digest_value
returns-clause-digest_value c =
    let e = c.finish-finished.ensures in
    rw c.unwrap_or-hashed.ensures (value_or _ _ _ _ e.outcome_value e.digest_value (not-finished c.args.hash)).0

pub returns-clause-blocks_value : goal.returns-clause-blocks_value
returns-clause-blocks_value c =
    let e = c.finish-finished.ensures in
    rw c.unwrap_or-hashed.ensures (value_or _ _ _ _ e.outcome_value e.digest_value (not-finished c.args.hash)).1

pub returns-clause-hash_value : goal.returns-clause-hash_value
returns-clause-hash_value c = refl

pub returns-clause-state_value : goal.returns-clause-state_value
returns-clause-state_value c = refl
