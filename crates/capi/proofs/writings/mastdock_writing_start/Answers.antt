-- `capi::writings::mastdock_writing_start` meets its contract: the all-zero writing stands beside a refusal.
use Rattle.writing.proofs.RowLaws.{start-refused}
use Rattle.capi.proofs.Numbers.{value_or}
use Rattle.capi.proofs.writings.mastdock_writing_start.Goals as goal

pub returns-clause-writing_value : goal.returns-clause-writing_value
returns-clause-writing_value c =
    let a = c.args in
    let e = c.start-started.ensures in
    rw c.unwrap_or.ensures
    (value_or _ _ _ _ e.outcome_value e.writing_value
    (λ r. (start-refused a.edition a.statement.now a.root.now a.depth a.memory a.count a.store.now a.file.now r).0))
