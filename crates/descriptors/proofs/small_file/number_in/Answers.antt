-- `descriptors::small_file::number_in` meets its contract.
use mathlib.Core.Path.{sym, ◌∙◌}
use Rattle.descriptors.proofs.DecimalLaws.{at-end, digit-on, no-digit, no-room}
use Rattle.descriptors.proofs.small_file.number_in.Goals as goal
use Rattle.descriptors.proofs.small_file.number_in.Goals.{then-not-is_ascii_digit-via-then-not-is_ascii_digit, then-not-is_ascii_digit-via-else-not-is_ascii_digit+then-value-ge-MOST}

pub loop-byte-preserved : goal.loop-byte-preserved
loop-byte-preserved c =
    let l = c.loop-byte in
    rw c.from.ensures
    (digit-on l.value l.byte-index c.args.text.now c.loop-byte-test.true (sym c.if-not-is_ascii_digit.false ∙ c.is_ascii_digit.ensures.value)
    c.if-value-ge-MOST.false ∙ l.invariant)

pub returns-then-not-is_ascii_digit : goal.returns-then-not-is_ascii_digit
returns-then-not-is_ascii_digit c =
    let l = c.loop-byte in
    let text = c.args.text.now in
    elim c.then-not-is_ascii_digit.branch [
      | then-not-is_ascii_digit-via-then-not-is_ascii_digit w ↦ sym
          (no-digit l.value l.byte-index text c.loop-byte-test.true (sym w.if-not-is_ascii_digit.true ∙ c.is_ascii_digit.ensures.value))
          ∙ l.invariant
      | then-not-is_ascii_digit-via-else-not-is_ascii_digit+then-value-ge-MOST w ↦ sym
          (no-room l.value l.byte-index text c.loop-byte-test.true (sym w.if-not-is_ascii_digit.false ∙ c.is_ascii_digit.ensures.value)
          w.if-value-ge-MOST.true)
          ∙ l.invariant
    ]

pub returns : goal.returns
returns c =
    let l = c.loop-byte in sym (at-end l.value l.byte-index c.args.text.now c.loop-byte-test.false) ∙ l.invariant
