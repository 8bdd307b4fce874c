-- `run_record::reading::read_record` meets its contract: what is known of numbers that were read, and of a length that they require.
use mathlib.Core.Path.{sym, ap, ◌∙◌}
use Rattle.base.specs.Number.{outcome_number}
use Rattle.run_record.proofs.NumbersLaws.{numbers-within}
use Rattle.run_record.proofs.ReadingLaws.{fits}
use Rattle.run_record.proofs.reading.read_record.Goals as goal

pub check-requires : goal.check-requires
check-requires c = numbers-within c.args.bytes.now _ _ _ _ _ (λ j. (c.type_inv.bytes j).fits) (sym c.in_ok-numbers.ensures)

pub run_in-requires : goal.run_in-requires
run_in-requires c =
    let f = fits _ _ _ _ _ _ (sym c.check.ensures ∙ ap outcome_number c.in_ok-check.was) in
    (f.possible.depth, f.possible.made-few, f.size)
