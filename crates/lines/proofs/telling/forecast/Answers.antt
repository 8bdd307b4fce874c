-- `lines::telling::forecast` meets its contract.
use mathlib.Core.Path.{ap, ◌∙◌}
use native.Mathlib.Omega.{arith}
use Rattle.lines.proofs.LineLaws.{first-field, more, more-field, duration-short}
use Rattle.lines.specs.Line.{added}
use Rattle.lines.specs.Texts.{forecast_text}
use Rattle.lines.proofs.telling.forecast.Goals as goal

pub returns-clause-value : goal.returns-clause-value
unfolding forecast_text
returns-clause-value c =
    let deep = more _ 8 (first-field _ _ c.new.ensures.value c.add_field.ensures.value (omega arith)) c.add.ensures.value (omega arith) (omega arith) in
    let timed = more _ 50 deep (c.add_line.ensures.value ∙ ap (added _) c.duration.ensures.value) (duration-short c.args.seconds) (omega arith) in
    let told = more-field _ _ timed c.add_field-2.ensures.value (omega arith) (omega arith) in
    (more _ 17 told c.add-2.ensures.value (omega arith) (omega arith)).out
