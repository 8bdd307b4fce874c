-- `capi::runs::mastdock_run_advance` meets its contract: a refused call has made no label.
use native.Mathlib.Omega.{arith}
use mathlib.Core.Path.{sym}
use Rattle.machine.proofs.StepLaws.{costs-nothing}
use Rattle.run.specs.Steps.{stamped, run_machine, step_blocks}
use Rattle.run.proofs.RowLaws.{labels-refused}
use Rattle.capi.proofs.Numbers.{value_or}
use Rattle.capi.proofs.runs.mastdock_run_advance.Goals as goal

pub returns-clause-labels_value : goal.returns-clause-labels_value
returns-clause-labels_value c =
    let a = c.args in
    let e = c.advance-advanced.ensures in
    let w =
    value_or _ _ _ _ e.outcome_value e.work_value
    (λ r. let none = labels-refused a.run a.store.now a.budget r in (none, sym (costs-nothing run_machine (stamped a.run a.store.now) a.budget step_blocks (sym none)), omega arith)) in
    rw c.unwrap_or-work.ensures w.0

pub returns-clause-blocks_value : goal.returns-clause-blocks_value
returns-clause-blocks_value c =
    let a = c.args in
    let e = c.advance-advanced.ensures in
    let w =
    value_or _ _ _ _ e.outcome_value e.work_value
    (λ r. let none = labels-refused a.run a.store.now a.budget r in (none, sym (costs-nothing run_machine (stamped a.run a.store.now) a.budget step_blocks (sym none)), omega arith)) in
    rw c.unwrap_or-work.ensures w.1
