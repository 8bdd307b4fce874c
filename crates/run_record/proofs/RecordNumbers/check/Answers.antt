-- `run_record::RecordNumbers::check` meets its contract: the length that the numbers require fits 64 bits.
use mathlib.Core.Path.{sym, ◌∙◌}
use native.Mathlib.Omega.{arith}
use Rattle.run.proofs.RowLaws.{possible}
use Rattle.run_record.proofs.HeldCounts.{held_fits}
use Rattle.run_record.proofs.RecordNumbers.check.Goals as goal

pub overflow_add-self-2 : goal.overflow_add-self-2
overflow_add-self-2 c =
    let s = c.args.self.now in
    let p = possible s.edition s.depth s.memory s.made (sym c.not_possible.ensures ∙ c.if-not_possible.false) in
    omega (arith, c.requires, c.held_length.ensures, held_fits s.depth s.made p.depth p.made-few)
