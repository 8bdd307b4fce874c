-- `drawing_text::facts::rest_lines` meets its contract.
use native.Mathlib.Omega.{arith}
use Rattle.drawing_text.proofs.InfoLaws.{rest-whole, rest-other}
use Rattle.drawing_text.proofs.facts.rest_lines.Goals as goal

pub labels_lines-requires : goal.labels_lines-requires
labels_lines-requires c =
    (c.requires.0, omega (arith, c.requires.1, c.if-file-whole.true))

pub returns-then-file-whole-clause-value : goal.returns-then-file-whole-clause-value
returns-then-file-whole-clause-value c =
    rest-whole c.args.file.now c.args.whole c.args.at c.requires.1 c.if-file-whole.true c.add_line.ensures.value
    c.labels_lines.ensures.value c.fact-size.ensures.value

pub returns-clause-value : goal.returns-clause-value
returns-clause-value c =
    let a = c.args in
    rest-other a.file.now a.whole a.at _ c.if-file-whole.false c.fact-size.ensures.value
