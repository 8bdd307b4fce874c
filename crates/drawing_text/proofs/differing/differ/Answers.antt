-- `drawing_text::differing::differ` meets its contract.
use Rattle.drawing_text.proofs.DifferLaws.{differ-told}
use Rattle.drawing_text.proofs.differing.differ.Goals as goal

pub returns-clause-value : goal.returns-clause-value
returns-clause-value c =
    differ-told _ _ _ c.add_line.ensures.value c.add_line-2.ensures.value
    c.report_line-report.ensures.value c.depth_line-depths.ensures.value c.count_line-counts.ensures.value
