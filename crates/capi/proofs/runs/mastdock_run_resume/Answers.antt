-- `capi::runs::mastdock_run_resume` meets its contract: the all-zero run stands beside a refusal.
use Rattle.run_record.specs.Reading.{resumed}
use Rattle.capi.proofs.Numbers.{value_or}
use Rattle.capi.proofs.runs.mastdock_run_resume.Goals as goal

pub returns-clause-run_value : goal.returns-clause-run_value
unfolding resumed
returns-clause-run_value c =
    let e = c.read_record-read.ensures in
    rw c.unwrap_or.ensures (value_or _ _ _ _ e.outcome_value e.run_value (λ r. rw r))
