use mathlib.Core.Path.{◌≡◌}
use Prim.Native.Nat.{◌+◌, ◌-◌}
use native.Mathlib.Omega.{arith}
use borrow.Author.Rules.{rules}
use Rattle.tree.specs.Openings.{computed}
use Rattle.opening_check.proofs.OneOpening.{climbed}
use Rattle.opening_check.proofs.way.climb.Goals as goal

pub loop-height-init : goal.loop-height-init
unfolding computed
loop-height-init c = (search rules, c.label_at-label.ensures)

pub loop-height-preserved : goal.loop-height-preserved
loop-height-preserved c =
    let t = c.args.tree.now in
    let l = c.loop-height in
    let up : t.depth - l.height - 1 ≡ t.depth - (l.height + 1) = omega arith in (
      search rules,
      climbed t.edition t.statement c.args.bytes.now t.depth c.args.leaf l.height _ _ l.invariant.1 (rw up at c.label_above-above.ensures),
    )
