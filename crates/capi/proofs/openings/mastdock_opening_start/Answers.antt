-- `capi::openings::mastdock_opening_start` meets its contract: the all-zero opening stands beside a refusal.
use Rattle.opening.proofs.RowLaws.{start-refused}
use Rattle.capi.proofs.Numbers.{value_or}
use Rattle.capi.proofs.openings.mastdock_opening_start.Goals as goal

pub returns-clause-opening_value : goal.returns-clause-opening_value
returns-clause-opening_value c =
    let a = c.args in
    let e = c.start-started.ensures in
    rw c.unwrap_or.ensures
    (value_or _ _ _ _ e.outcome_value e.opening_value
    (λ r. (start-refused a.edition a.statement.now a.depth a.memory a.leaf a.store.now a.out.now r).0))
