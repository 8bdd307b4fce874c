-- `checkpoint::writing::lay_record` meets its contract.
use Rattle.std.proofs.Common.{◌≤◌, length, arith, rules, ◌∙◌}
use Rattle.base.specs.Limits.{max_record}
use Rattle.file_head.proofs.ChallengeLaws.{done-ok}
use Rattle.run_record.specs.Layout.{record_of}
use Rattle.run_record_theory.proofs.Sizes.{record-length}
use Rattle.checkpoint.proofs.WritingLaws.{record-fits, record-laid}
use Rattle.checkpoint.proofs.writing.lay_record.Goals as goal

pub unwrap-requires : goal.unwrap-requires
unwrap-requires c =
    let run = c.args.run in
    let few : length (record_of run) ≤ max_record =
    record-length run (record { statement_size = search rules; places_size = search rules }) c.requires.possible in
    done-ok _ (c.write_record.ensures.outcome_value ∙ record-fits run _ c.requires.possible (omega (arith, few, c.requires.room)))

pub returns : goal.returns
returns c =
    let run = c.args.run in
    let few : length (record_of run) ≤ max_record =
    record-length run (record { statement_size = search rules; places_size = search rules }) c.requires.possible in
    let size = rw c.unwrap.ensures at c.write_record.ensures.size_value in
    let laid = record-laid run _ _ _ c.requires.possible (omega (arith, few, c.requires.room)) size c.write_record.ensures.out_after in
    record { size_value = (laid.0, omega (arith, laid.0, few)); room_after = laid.1 }
