-- `drawing_text::telling::clash_lines` meets its contract.
use Rattle.std.proofs.Common.{rules}
use Rattle.drawing_text.proofs.TellingLaws.{clash-told}
use Rattle.drawing_text.proofs.telling.clash_lines.Goals as goal

pub returns-clause-value : goal.returns-clause-value
returns-clause-value c =
    clash-told c.args.found.now (search rules) (search rules)
    c.add_line.ensures.value c.add_line-2.ensures.value c.clash.ensures.value c.fact_bytes.ensures.value
    c.fact_bytes-2.ensures.value
