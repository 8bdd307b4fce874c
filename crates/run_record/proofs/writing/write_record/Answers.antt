-- `run_record::writing::write_record` meets its contract: no such run, a short buffer, or the record stands at the front.
use mathlib.Core.Path.{sym, ap, ◌∙◌}
use mathlib.Core.List.{List}
use Prim.Native.Nat.{ℕ, ◌<◌, ◌≤◌}
use native.Mathlib.Omega.{arith}
use borrow.Author.Rules.{rules}
use lib.ListN.{length, take}
use lib.Seq.{length-take-le}
use Rattle.base.specs.Bytes.{written}
use Rattle.run_record.specs.Layout.{record_of}
use Rattle.run_record.proofs.WritingLaws.{sizes, no-such-run, short-buffer, record-put, parts_are}
use Rattle.run_record.proofs.writing.write_record.Goals as goal

pub returns-then-not_possible : goal.returns-then-not_possible
returns-then-not_possible c =
    let done = no-such-run c.args.run c.args.out.now (sym c.not_possible.ensures ∙ c.if-not_possible.true) in
    record { outcome_value = done.row; size_value = done.bytes; out_after = done.output }

pub overflow_add-size-2 : goal.overflow_add-size-2
overflow_add-size-2 c =
    let z =
    sizes c.args.run _ _ (sym c.not_possible.ensures ∙ c.if-not_possible.false) (ap length c.lay_numbers-numbers.ensures)
    c.held_length-labels.ensures (search rules) (search rules) in
    omega (arith, z.numbers-few, z.labels-few)

pub returns-then-out-size : goal.returns-then-out-size
returns-then-out-size c =
    let a = c.args in
    let z =
    sizes c.args.run _ _ (sym c.not_possible.ensures ∙ c.if-not_possible.false) (ap length c.lay_numbers-numbers.ensures)
    c.held_length-labels.ensures (search rules) (search rules) in
    let long : length a.out.now < length (record_of a.run) = omega (arith, z.whole, c.if-out-size.true) in
    let short = short-buffer a.run a.out.now (sym c.not_possible.ensures ∙ c.if-not_possible.false) long in
    record { outcome_value = short.row; size_value = short.bytes; out_after = short.output }

pub shared_ref_as_front-put_parts : goal.shared_ref_as_front-put_parts
shared_ref_as_front-put_parts c =
    (sizes c.args.run _ _ (sym c.not_possible.ensures ∙ c.if-not_possible.false) (ap length c.lay_numbers-numbers.ensures)
    c.held_length-labels.ensures (search rules) (search rules)).labels-few

pub put_parts-requires : goal.put_parts-requires
put_parts-requires c =
    let z =
    sizes c.args.run _ _ (sym c.not_possible.ensures ∙ c.if-not_possible.false) (ap length c.lay_numbers-numbers.ensures)
    c.held_length-labels.ensures (search rules) (search rules) in
    omega (arith, z.whole, length-take-le _ _ z.inside, c.if-out-size.false)

pub returns : goal.returns
returns c =
    let a = c.args in
    let z =
    sizes c.args.run _ _ (sym c.not_possible.ensures ∙ c.if-not_possible.false) (ap length c.lay_numbers-numbers.ensures)
    c.held_length-labels.ensures (search rules) (search rules) in
    let fits : length (record_of a.run) ≤ length a.out.now = omega (arith, z.whole, c.if-out-size.false) in
    let labels = ap (λ (k : ℕ). take k a.run.held) c.held_length-labels.ensures in
    let parts = parts_are a.run _ _ c.lay_numbers-numbers.ensures labels in
    let done =
    record-put a.run a.out.now (sym c.not_possible.ensures ∙ c.if-not_possible.false) _ _ fits z.whole
    (c.put_parts.ensures ∙ ap (λ (l : List ℕ). written a.out.now 0 l) parts) in
    record { outcome_value = done.row; size_value = done.bytes; out_after = done.output }
