-- `capi::openings::mastdock_opening_advance` meets its contract: a refused call has made no label.
use native.Mathlib.Omega.{arith}
use mathlib.Core.Path.{sym}
use Rattle.machine.proofs.StepLaws.{costs-nothing}
use Rattle.opening.specs.Names.{open_of}
use Rattle.opening.specs.Steps.{opening_machine, step_blocks}
use Rattle.opening.proofs.RowLaws.{labels-refused}
use Rattle.capi.proofs.Numbers.{value_or}
use Rattle.capi.proofs.openings.mastdock_opening_advance.Goals as goal

pub returns-clause-labels_value : goal.returns-clause-labels_value
returns-clause-labels_value c =
    let a = c.args in
    let e = c.advance-advanced.ensures in
    let w =
    value_or _ _ _ _ e.outcome_value e.work_value
    (λ r. let none = labels-refused a.opening a.store.now a.out.now a.budget r in (none, sym (costs-nothing (opening_machine a.store.now) (open_of a.opening a.out.now) a.budget (step_blocks a.store.now) (sym none)), omega arith)) in
    rw c.unwrap_or-work.ensures w.0

pub returns-clause-blocks_value : goal.returns-clause-blocks_value
returns-clause-blocks_value c =
    let a = c.args in
    let e = c.advance-advanced.ensures in
    let w =
    value_or _ _ _ _ e.outcome_value e.work_value
    (λ r. let none = labels-refused a.opening a.store.now a.out.now a.budget r in (none, sym (costs-nothing (opening_machine a.store.now) (open_of a.opening a.out.now) a.budget (step_blocks a.store.now) (sym none)), omega arith)) in
    rw c.unwrap_or-work.ensures w.1
