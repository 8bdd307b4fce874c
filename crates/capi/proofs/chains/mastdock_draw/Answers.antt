-- `capi::chains::mastdock_draw` meets its contract: the inputs are zero but for a clash.
use mathlib.Core.Path.{refl}
use lib.ListN.{length}
use Rattle.capi.proofs.Clashes.{no-first, no-second}
use Rattle.capi.proofs.chains.mastdock_draw.Goals as goal

pub returns-in-Err-clause-first_value : goal.returns-in-Err-clause-first_value
returns-in-Err-clause-first_value c =
    let a = c.args in
    no-first a.file.now a.statement.now a.depth a.count (length a.list.now) _ c.in-Err.ensures.drawing_value refl

pub returns-in-Err-clause-second_value : goal.returns-in-Err-clause-second_value
returns-in-Err-clause-second_value c =
    let a = c.args in
    no-second a.file.now a.statement.now a.depth a.count (length a.list.now) _ c.in-Err.ensures.drawing_value refl

pub returns-in-Ok-Chain-clause-first_value : goal.returns-in-Ok-Chain-clause-first_value
returns-in-Ok-Chain-clause-first_value c =
    let a = c.args in
    no-first a.file.now a.statement.now a.depth a.count (length a.list.now) _ c.in-Ok-Chain.ensures.drawing_value (rw c.in-Ok-Chain.field-0-is refl)

pub returns-in-Ok-Chain-clause-second_value : goal.returns-in-Ok-Chain-clause-second_value
returns-in-Ok-Chain-clause-second_value c =
    let a = c.args in
    no-second a.file.now a.statement.now a.depth a.count (length a.list.now) _ c.in-Ok-Chain.ensures.drawing_value (rw c.in-Ok-Chain.field-0-is refl)
