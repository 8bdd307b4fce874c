-- `capi::units::mastdock_unit_advance` meets its contract: a refused call has made no label.
use native.Mathlib.Omega.{arith}
use mathlib.Core.Path.{sym}
use Rattle.machine.proofs.StepLaws.{costs-nothing}
use Rattle.unit.specs.Turns.{carried, unit_machine, turn_blocks}
use Rattle.unit.proofs.CallLaws.{labels-refused}
use Rattle.capi.proofs.Numbers.{value_or}
use Rattle.capi.proofs.units.mastdock_unit_advance.Goals as goal

pub returns-clause-labels_value : goal.returns-clause-labels_value
returns-clause-labels_value c =
    let a = c.args in
    let e = c.advance-advanced.ensures in
    let w =
    value_or _ _ _ _ e.outcome_value e.work_value
    (λ r. let none = labels-refused a.unit a.store.now a.budget r in (none, sym (costs-nothing unit_machine (carried a.unit a.store.now) a.budget turn_blocks (sym none)), omega arith)) in
    rw c.unwrap_or-work.ensures w.0

pub returns-clause-blocks_value : goal.returns-clause-blocks_value
returns-clause-blocks_value c =
    let a = c.args in
    let e = c.advance-advanced.ensures in
    let w =
    value_or _ _ _ _ e.outcome_value e.work_value
    (λ r. let none = labels-refused a.unit a.store.now a.budget r in (none, sym (costs-nothing unit_machine (carried a.unit a.store.now) a.budget turn_blocks (sym none)), omega arith)) in
    rw c.unwrap_or-work.ensures w.1
