-- `drawing_text::facts::known_lines` meets its contract.
use Rattle.drawing_text.proofs.InfoLaws.{known-told}
use Rattle.drawing_text.proofs.facts.known_lines.Goals as goal

pub returns-clause-value : goal.returns-clause-value
returns-clause-value c =
    let head = c.args.head.now in
    known-told c.args.file.now head.edition head.depth head.count head.end _ c.file_length-whole.ensures c.add_line.ensures.value c.numbers_lines.ensures.value
    c.rest_lines.ensures.value
