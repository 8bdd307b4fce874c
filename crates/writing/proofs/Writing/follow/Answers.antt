use mathlib.Core.Path.{sym, ◌∙◌}
use borrow.Author.Rules.{rules}
use Rattle.writing.proofs.FollowLaws.{following-more, following-done}
use Rattle.writing.proofs.Writing.follow.Goals as goal

pub loop-order-preserved : goal.loop-order-preserved
loop-order-preserved c =
    let so_far = c.loop-order.invariant.0 in
    let test = sym c.may_follow.ensures ∙ c.loop-order-test.true in
    let b = c.begin-self.ensures in (
      rw (so_far.root, so_far.count) (following-more _ _ _ _ _ so_far c.loop-order.invariant.1 test _ _ b.value b.file_after),
      search rules,
    )

pub returns : goal.returns
returns c =
    let (writing, (file, on)) =
    following-done _ _ _ _ _ c.loop-order.invariant.0 (sym c.may_follow.ensures ∙ c.loop-order-test.false) in
    record { writing_after = writing; file_after = file; goes_on = on }
