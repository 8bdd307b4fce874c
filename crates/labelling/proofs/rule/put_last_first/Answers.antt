use mathlib.Core.Path.{◌≡◌, ap, ◌∙◌}
use native.Mathlib.Omega.{arith}
use lib.ListN.{length}
use lib.Seq.{take_all}
use Rattle.base.specs.Bytes.{written}
use Rattle.labelling.proofs.LastFirst.{none-written, one-written, all-written}
use Rattle.labelling.proofs.rule.put_last_first.Goals as goal

pub loop-label-init : goal.loop-label-init
loop-label-init c =
    rw c.into_iter-label-iterator.ensures.into_iter_gives
    (c.rchunks-label-items.ensures.size, rw c.rchunks-label-items.ensures.rest (none-written c.args.dst.now c.args.src.now c.args.at c.requires.0))

pub put-requires : goal.put-requires
put-requires c =
    let s = c.in-Some.ensures.steps in
    omega (arith, s.1.1, s.1.2, c.loop-label.invariant.0, c.loop-label.invariant.1, c.requires.1)

pub overflow_add-to : goal.overflow_add-to
overflow_add-to c =
    let s = c.in-Some.ensures.steps in
    omega (arith, s.1.1, s.1.2, c.loop-label.invariant.0, c.loop-label.invariant.1, c.requires.1)

pub loop-label-preserved : goal.loop-label-preserved
loop-label-preserved c =
    let s = c.in-Some.ensures.steps in
    let w = c.loop-label.invariant.1 in
    let size : length c.in-Some.label.now ≡ 32 = omega (arith, s.1.1, s.1.2, c.loop-label.invariant.0, w.whole) in
    let same : c.label_at-one.result ≡ c.in-Some.label.now = c.label_at-one.ensures ∙ take_all 32 c.in-Some.label.now (omega (arith, size)) in (
      omega (arith, s.0, c.loop-label.invariant.0),
      one-written _ _ _ _ _ _ _ _ _ w s.1.0 size c.requires.0 c.requires.1
          (c.put.ensures ∙ ap (written c.loop-label.dst c.loop-label.to) same) (omega arith),
    )

pub returns : goal.returns
returns c = all-written _ _ _ _ _ _ c.loop-label.invariant.1 (omega (arith, c.in-None.ensures.steps))
