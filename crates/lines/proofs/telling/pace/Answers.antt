-- `lines::telling::pace` meets its contract.
use mathlib.Core.Path.{ap, ◌∙◌}
use native.Mathlib.Omega.{arith}
use Rattle.lines.proofs.LineLaws.{first-field, more, duration-short}
use Rattle.lines.specs.Line.{added}
use Rattle.lines.specs.Texts.{pace_text}
use Rattle.lines.proofs.telling.pace.Goals as goal

pub returns-clause-value : goal.returns-clause-value
unfolding pace_text
returns-clause-value c =
    let told = more _ 11 (first-field _ _ c.new.ensures.value c.add_field.ensures.value (omega arith)) c.add.ensures.value (omega arith) (omega arith) in
    let timed = more _ 50 told (c.add_line.ensures.value ∙ ap (added _) c.duration.ensures.value) (duration-short c.args.left) (omega arith) in
    (more _ 5 timed c.add-2.ensures.value (omega arith) (omega arith)).out
