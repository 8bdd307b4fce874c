use mathlib.Core.Path.{◌≡◌, sym, ◌∙◌}
use Prim.Native.Nat.{◌+◌, ◌-◌}
use native.Mathlib.Omega.{arith}
use borrow.Author.Tests.{lt-ltb, le-ltb}
use Rattle.unit.specs.Plans.{lane_at}
use Rattle.unit.proofs.NextLaws.{following-among}
use Rattle.unit.proofs.FirstLaws.{has_labels, first-none, first-here, first-later}
use Rattle.unit.proofs.turns.next_run.Goals as goal

pub loop-init : goal.loop-init
loop-init c =
    let all : c.args.count - 0 ≡ c.args.count = omega arith in
    ((omega arith, omega arith), rw all)

pub returns-then-lanes-i-gt0 : goal.returns-then-lanes-i-gt0
returns-then-lanes-i-gt0 c =
    let l = c.loop in
    let a = c.args in
    sym
    (l.invariant.1
    ∙ first-here (has_labels a.lanes) a.count (a.count - l.counter) l.i c.after-i.result (omega (arith, c.loop-test.true)) c.after-i.ensures
    (lt-ltb 0 (lane_at a.lanes c.after-i.result).left (omega (arith, c.if-lanes-i-gt0.true))))

pub loop-preserved : goal.loop-preserved
loop-preserved c =
    let l = c.loop in
    let a = c.args in
    let (low, high) = following-among a.count l.i (omega (arith, c.loop-test.true)) in
    let one : a.count - l.counter - 1 ≡ a.count - (l.counter + 1) = omega arith in (
      (omega (arith, low, c.after-i.ensures), omega (arith, high, c.after-i.ensures)),
      rw one at
          (l.invariant.1
          ∙ first-later (has_labels a.lanes) a.count (a.count - l.counter) l.i c.after-i.result (omega (arith, c.loop-test.true)) c.after-i.ensures
          (le-ltb 0 (lane_at a.lanes c.after-i.result).left (omega (arith, c.if-lanes-i-gt0.false)))),
    )

pub returns : goal.returns
returns c =
    let l = c.loop in
    let a = c.args in
    let none : a.count - l.counter ≡ 0 = omega (arith, c.loop-test.false) in
    sym (l.invariant.1 ∙ rw none (first-none (has_labels a.lanes) a.count l.i))
