-- `lines::telling::progress` meets its contract.
use mathlib.Core.Path.{sym, ap, ◌∙◌}
use mathlib.Core.List.{append-nil}
use borrow.Author.Tests.{eq-eqb, ne_eqb}
use native.Mathlib.Omega.{arith}
use Rattle.lines.proofs.LineLaws.{more, share-short, pace-short}
use Rattle.lines.specs.Line.{added}
use Rattle.lines.specs.Texts.{progress_text}
use Rattle.lines.proofs.telling.progress.Goals as goal

pub returns-then-rate-eq0-clause-value : goal.returns-then-rate-eq0-clause-value
unfolding progress_text
returns-then-rate-eq0-clause-value c = rw (eq-eqb _ 0 c.if-rate-eq0.true) (c.share-told.ensures.value ∙ sym (append-nil _))

pub returns-else-rate-eq0-clause-value : goal.returns-else-rate-eq0-clause-value
unfolding progress_text
returns-else-rate-eq0-clause-value c =
    let a = c.args in
    rw (ne_eqb _ 0 c.if-rate-eq0.false)
    (more _ 100 (record { out = c.share-told.ensures.value; size = share-short a.made a.all })
    (c.add_line.ensures.value ∙ ap (added _) c.pace.ensures.value) (pace-short a.rate a.left) (omega arith)).out
