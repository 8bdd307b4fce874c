-- `run_record::writing::lay_numbers` meets its contract: the four numbers one behind the other, in their space.
use mathlib.Core.Path.{◌≡◌, sym, ap, ◌∙◌}
use mathlib.Core.List.{List}
use Prim.Native.Nat.{ℕ}
use native.Mathlib.Nat.{zero-add}
use native.Mathlib.Omega.{arith}
use lib.ListN.{length, take}
use lib.Seq.{length-take-le}
use Rattle.run_record.specs.Layout.{record_numbers}
use Rattle.run_record.proofs.WritingLaws.{numbers-size, numbers-few, numbers-put, front-written}
use Rattle.run_record.proofs.writing.lay_numbers.Goals as goal

pub put_number-first-requires : goal.put_number-first-requires
put_number-first-requires c =
    let r = c.args.run.now in
    omega (arith, c.requires.4, numbers-few r.edition r.depth r.memory r.made c.requires.0 c.requires.1 c.requires.2 c.requires.3)

pub put_number-second-requires : goal.put_number-second-requires
put_number-second-requires c =
    let r = c.args.run.now in
    omega (
      arith,
      c.requires.4,
      numbers-few r.edition r.depth r.memory r.made c.requires.0 c.requires.1 c.requires.2 c.requires.3,
      c.put_number-first.ensures.value,
      c.put_number-first.auto.out,
    )

pub put_number-third-requires : goal.put_number-third-requires
put_number-third-requires c =
    let r = c.args.run.now in
    omega (
      arith,
      c.requires.4,
      numbers-few r.edition r.depth r.memory r.made c.requires.0 c.requires.1 c.requires.2 c.requires.3,
      c.put_number-first.ensures.value,
      c.put_number-first.auto.out,
      c.put_number-second.ensures.value,
      c.put_number-second.auto.out,
    )

pub put_number-count-requires : goal.put_number-count-requires
put_number-count-requires c =
    let r = c.args.run.now in
    omega (
      arith,
      c.requires.4,
      numbers-few r.edition r.depth r.memory r.made c.requires.0 c.requires.1 c.requires.2 c.requires.3,
      c.put_number-first.ensures.value,
      c.put_number-first.auto.out,
      c.put_number-second.ensures.value,
      c.put_number-second.auto.out,
      c.put_number-third.ensures.value,
      c.put_number-third.auto.out,
    )

pub slice_bounds-result-end : goal.slice_bounds-result-end
slice_bounds-result-end c =
    let r = c.args.run.now in
    sym
    (length-take-le _ _
    (omega (
      arith,
      c.requires.4,
      numbers-few r.edition r.depth r.memory r.made c.requires.0 c.requires.1 c.requires.2 c.requires.3,
      c.put_number-first.ensures.value,
      c.put_number-first.auto.out,
      c.put_number-second.ensures.value,
      c.put_number-second.auto.out,
      c.put_number-third.ensures.value,
      c.put_number-third.auto.out,
      c.put_number-count.ensures.value,
      c.put_number-count.auto.out,
    )))

pub returns : goal.returns
returns c =
    let r = c.args.run.now in
    let count : c.put_number-count.result ≡ length (record_numbers r.edition r.depth r.memory r.made) =
    omega (
      arith,
      numbers-size r.edition r.depth r.memory r.made c.requires.0 c.requires.1 c.requires.2 c.requires.3,
      c.put_number-first.ensures.value,
      c.put_number-second.ensures.value,
      c.put_number-third.ensures.value,
      c.put_number-count.ensures.value,
    ) in
    let all =
    numbers-put r.edition r.depth r.memory r.made c.requires.0 c.requires.1 c.requires.2 c.requires.3 _ _ _ _ _ _ _ _
    c.put_number-first.ensures.out_after c.put_number-second.ensures.out_after c.put_number-third.ensures.out_after
    c.put_number-count.ensures.out_after (c.put_number-first.ensures.value ∙ zero-add _) c.put_number-second.ensures.value
    c.put_number-third.ensures.value in
    ap (λ (l : List ℕ). take c.put_number-count.result l) all ∙ front-written _ _ _ count
