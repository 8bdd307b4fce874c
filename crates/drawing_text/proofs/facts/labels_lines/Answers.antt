-- `drawing_text::facts::labels_lines` meets its contract.
use Rattle.drawing_text.proofs.InfoLaws.{labels-told}
use Rattle.drawing_text.proofs.facts.labels_lines.Goals as goal

pub returns-clause-value : goal.returns-clause-value
returns-clause-value c =
    labels-told c.args.file.now c.args.at c.requires.1 _ _ c.add_line.ensures.value c.label_at-statement.ensures
    c.label_at-root.ensures c.fact_bytes.ensures.value c.fact_bytes-2.ensures.value
