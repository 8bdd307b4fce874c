-- `lines::telling::duration` meets its contract.
use borrow.Author.Tests.{lt-ltb, le-ltb}
use native.Mathlib.Omega.{arith}
use Rattle.lines.proofs.LineLaws.{first, more, numbers_laid}
use Rattle.decimal.proofs.Laying.{decimal-short}
use Rattle.lines.specs.Texts.{duration_text}
use Rattle.lines.proofs.telling.duration.Goals as goal

pub returns-then-seconds-lt-MINUTE-clause-value : goal.returns-then-seconds-lt-MINUTE-clause-value
unfolding duration_text
returns-then-seconds-lt-MINUTE-clause-value c =
    let x = c.args.seconds in
    let number = first _ _ _ 20 c.new-line.ensures.value c.add_number.ensures.value (decimal-short x) (omega arith) in
    rw (lt-ltb x 60 (omega (arith, c.if-seconds-lt-MINUTE.true))) (more _ 2 number c.add.ensures.value (omega arith) (omega arith)).out

pub returns-then-seconds-lt-HOUR-clause-value : goal.returns-then-seconds-lt-HOUR-clause-value
unfolding duration_text
returns-then-seconds-lt-HOUR-clause-value c =
    let x = c.args.seconds in
    rw (le-ltb x 60 (omega (arith, c.if-seconds-lt-MINUTE.false)), lt-ltb x 3600 (omega (arith, c.if-seconds-lt-HOUR.true)))
    (numbers_laid _ _ _ _ c.new-line.ensures.value c.add_number-then-seconds-lt-HOUR.ensures.value c.add_field.ensures.value
    c.add-then-seconds-lt-HOUR.ensures.value (omega arith) (omega arith))

pub returns-then-seconds-lt-DAY-clause-value : goal.returns-then-seconds-lt-DAY-clause-value
unfolding duration_text
returns-then-seconds-lt-DAY-clause-value c =
    let x = c.args.seconds in
    rw (
      le-ltb x 60 (omega (arith, c.if-seconds-lt-MINUTE.false)),
      le-ltb x 3600 (omega (arith, c.if-seconds-lt-HOUR.false)),
      lt-ltb x 86400 (omega (arith, c.if-seconds-lt-DAY.true)),
    )
    (numbers_laid _ _ _ _ c.new-line.ensures.value c.add_number-then-seconds-lt-DAY.ensures.value c.add_field-then-seconds-lt-DAY.ensures.value
    c.add-then-seconds-lt-DAY.ensures.value (omega arith) (omega arith))

pub returns-else-seconds-lt-DAY-clause-value : goal.returns-else-seconds-lt-DAY-clause-value
unfolding duration_text
returns-else-seconds-lt-DAY-clause-value c =
    let x = c.args.seconds in
    rw (
      le-ltb x 60 (omega (arith, c.if-seconds-lt-MINUTE.false)),
      le-ltb x 3600 (omega (arith, c.if-seconds-lt-HOUR.false)),
      le-ltb x 86400 (omega (arith, c.if-seconds-lt-DAY.false)),
    )
    (numbers_laid _ _ _ _ c.new-line.ensures.value c.add_number-else-seconds-lt-DAY.ensures.value c.add_field-else-seconds-lt-DAY.ensures.value
    c.add-else-seconds-lt-DAY.ensures.value (omega arith) (omega arith))
