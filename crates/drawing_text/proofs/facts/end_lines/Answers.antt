-- `drawing_text::facts::end_lines` meets its contract.
use Rattle.std.proofs.Common.{arith, refl, ap, ◌∙◌}
use Rattle.base.proofs.Bounds.{number-some}
use Rattle.lines.specs.Texts.{rejected_text}
use Rattle.drawing_text.proofs.InfoLaws.{end_none, end_refused}
use Rattle.drawing_text.proofs.facts.end_lines.Goals as goal

pub returns-in-Ok-clause-value : goal.returns-in-Ok-clause-value
returns-in-Ok-clause-value c = rw c.in-Ok.is (end_none 0 c.args.size _ refl c.new.ensures.value)

pub returns-in-Err-clause-value : goal.returns-in-Err-clause-value
returns-in-Err-clause-value c =
    rw c.in-Err.is (end_refused _ c.args.size (λ e. omega (arith, number-some c.in-Err.why, e)) c.add_line.ensures.value c.plain_refusal.ensures.value
    (c.rejected.ensures.value ∙ ap (λ k. rejected_text k 0) c.number.ensures))
