-- `capi::runs::mastdock_run_start` meets its contract: the all-zero run stands beside a refusal.
use Rattle.run.specs.Steps.{started}
use Rattle.capi.proofs.Numbers.{value_or}
use Rattle.capi.proofs.runs.mastdock_run_start.Goals as goal

pub returns-clause-run_value : goal.returns-clause-run_value
unfolding started
returns-clause-run_value c =
    let e = c.start-started.ensures in
    rw c.unwrap_or.ensures
    (value_or _ _ _ _ e.outcome_value e.run_value (λ r. rw r))
