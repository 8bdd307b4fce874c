-- `capi::writings::mastdock_writing_advance` meets its contract: a refused call has made no label.
use native.Mathlib.Omega.{arith}
use mathlib.Core.Path.{sym}
use Rattle.machine.proofs.StepLaws.{costs-nothing}
use Rattle.writing.specs.Possible.{written_of}
use Rattle.writing.specs.Steps.{writing_machine, step_blocks}
use Rattle.writing.proofs.RowLaws.{labels-refused}
use Rattle.capi.proofs.Numbers.{value_or}
use Rattle.capi.proofs.writings.mastdock_writing_advance.Goals as goal

pub returns-clause-labels_value : goal.returns-clause-labels_value
returns-clause-labels_value c =
    let a = c.args in
    let e = c.advance-advanced.ensures in
    let w =
    value_or _ _ _ _ e.outcome_value e.work_value
    (λ r. let none = labels-refused a.writing a.store.now a.file.now a.budget r in (none, sym (costs-nothing (writing_machine a.store.now) (written_of a.writing a.file.now) a.budget (step_blocks a.store.now) (sym none)), omega arith)) in
    rw c.unwrap_or-work.ensures w.0

pub returns-clause-blocks_value : goal.returns-clause-blocks_value
returns-clause-blocks_value c =
    let a = c.args in
    let e = c.advance-advanced.ensures in
    let w =
    value_or _ _ _ _ e.outcome_value e.work_value
    (λ r. let none = labels-refused a.writing a.store.now a.file.now a.budget r in (none, sym (costs-nothing (writing_machine a.store.now) (written_of a.writing a.file.now) a.budget (step_blocks a.store.now) (sym none)), omega arith)) in
    rw c.unwrap_or-work.ensures w.1
