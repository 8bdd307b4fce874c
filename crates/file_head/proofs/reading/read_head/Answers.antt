-- `file_head::read_head` meets its contract: what was read bounds the numbers.
use mathlib.Core.Path.{sym, ◌∙◌}
use Rattle.file_head.proofs.HeadLaws.{head-read, head-within}
use Rattle.file_head.proofs.reading.read_head.Goals as goal

pub invariant_of-result : goal.invariant_of-result
invariant_of-result c =
    let read =
    head-read c.args.bytes.now (sym c.in_ok-edition.ensures) (sym c.beyond.ensures ∙ c.if-beyond.false)
    (sym c.in_ok-depth.ensures) (sym c.beyond-2.ensures ∙ c.if-beyond-2.false)
    (sym c.in_ok-count.ensures) (sym c.beyond-3.ensures ∙ c.if-beyond-3.false) in
    let w = head-within c.args.bytes.now _ _ _ _ (λ j. (c.type_inv.bytes j).fits) (sym read) in
    record { within = (w.exists, w.depth, w.count, w.place) }
