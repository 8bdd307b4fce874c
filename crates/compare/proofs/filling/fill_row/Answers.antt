-- `compare::filling::fill_row` meets its contract.
use mathlib.Core.Path.{◌≡◌, refl, ◌∙◌}
use Prim.Native.Nat.{◌+◌, ◌-◌}
use Rattle.tree.specs.Openings.{computed}
use Rattle.opening_check.proofs.OneOpening.{climbed}
use Rattle.compare.proofs.FillingLaws.{row_more}
use borrow.Author.Rules.{rules}
use native.Mathlib.Omega.{arith}
use Rattle.compare.proofs.filling.fill_row.Goals as goal

pub loop-height-init : goal.loop-height-init
unfolding computed
loop-height-init c = (search rules, c.label_at-label.ensures, record { filled = λ h small. absurd (omega arith); kept = refl })

pub loop-height-preserved : goal.loop-height-preserved
loop-height-preserved c =
    let t = c.args.tree.now in
    let bytes = c.args.bytes.now in
    let l = c.loop-height in
    let up : t.depth - l.height - 1 ≡ t.depth - (l.height + 1) = omega arith in (
      search rules,
      climbed t.edition t.statement bytes t.depth c.args.leaf l.height _ _ l.invariant.1 (rw up at c.label_above-above.ensures),
      row_more t.edition t.statement bytes c.args.row.now l.row _ t.depth c.args.leaf
          l.height l.label c.loop-height-test.true c.requires.0 c.requires.1 (l.auto.row ∙ c.requires.2) l.invariant.0 l.invariant.1 l.invariant.2
          c.put_children.ensures,
    )
