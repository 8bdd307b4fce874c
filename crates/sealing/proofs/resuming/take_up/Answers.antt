-- `sealing::resuming::take_up` meets its contract: beside a fault nothing is taken.
use Rattle.std.proofs.Common.{◌≡◌, Err, false, refl, sym, ap, ◌∙◌}
use Rattle.base.specs.Row.{is_done}
use Rattle.checkpoint.specs.Reading.{fault_number}
use Rattle.checkpoint.specs.declared.Fault.{Fault}
use Rattle.checkpoint.specs.declared.Fault.TheVariants.{Foreign, Damaged, Impossible}
use Rattle.sealing.proofs.ResumingLaws.{store_left, file_left}
use Rattle.sealing.proofs.resuming.take_up.Goals as goal

some-fault : (f : Fault) → is_done (fault_number {A = Unit} (Err f)) ≡ false
some-fault Foreign = refl
some-fault Damaged = refl
some-fault Impossible = refl

pub returns-in_err-found-clause-store_after : goal.returns-in_err-found-clause-store_after
returns-in_err-found-clause-store_after c = store_left c.args.bytes.now (ap is_done (sym c.in_err-found.ensures.fault_value) ∙ some-fault c.in_err-found.field-0.0) c.args.store.now

pub returns-in_err-found-clause-file_after : goal.returns-in_err-found-clause-file_after
returns-in_err-found-clause-file_after c = file_left c.args.bytes.now (ap is_done (sym c.in_err-found.ensures.fault_value) ∙ some-fault c.in_err-found.field-0.0) c.args.file.now
