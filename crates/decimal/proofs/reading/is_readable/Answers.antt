use Rattle.std.proofs.Common.{unwrap_or, get_or, refl, sym, ◌∙◌}
use Rattle.decimal.proofs.ReadLaws.{all_start, all_end, all-turn, all-stop, next_fits}
use Rattle.decimal.proofs.reading.is_readable.Goals as goal

pub loop-byte-init : goal.loop-byte-init
loop-byte-init c = (refl, all_start _)

pub returns-in_default : goal.returns-in_default
returns-in_default c =
    let l = c.loop-byte in
    sym
    (all-stop c.args.input.now l.byte-index _ (unwrap_or l.number 0) c.loop-byte-test.true refl (sym c.in_default.ensures.readable))
    ∙ l.invariant.1

pub loop-byte-preserved : goal.loop-byte-preserved
loop-byte-preserved c =
    let l = c.loop-byte in
    let bytes = c.args.input.now in
    let step = c.in-Ok.ensures in
    let on = sym step.readable in (
      next_fits (get_or bytes l.byte-index 0) (unwrap_or l.number 0) _ on step.next.1,
      all-turn bytes l.byte-index _ (unwrap_or l.number 0) c.loop-byte-test.true refl _ l.invariant.0 on step.next.1 ∙ l.invariant.1,
    )

pub returns : goal.returns
returns c = let l = c.loop-byte in sym (all_end (unwrap_or l.number 0) _ l.byte-index c.loop-byte-test.false l.invariant.0) ∙ l.invariant.1
