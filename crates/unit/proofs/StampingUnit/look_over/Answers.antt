use mathlib.Core.Path.{refl, ◌∙◌}
use native.Mathlib.Omega.{arith}
use Rattle.base.proofs.RowLaws.{is-done, is-refused, refused-number}
use Rattle.run.proofs.RowLaws.{handed-on, may-go-on}
use Rattle.run.proofs.StepLaws.{small-nodes}
use Rattle.unit.proofs.PlanLaws.{none_yet, all-looked, stops, one_further}
use Rattle.unit.proofs.StampingUnit.look_over.Goals as goal

pub loop-i-init : goal.loop-i-init
loop-i-init c = none_yet _ _ _ _ refl

pub overflow_sub-store : goal.overflow_sub-store
overflow_sub-store c = c.loop-i.invariant.inside

pub returns-in_err-may_continue-clause-outcome_value : goal.returns-in_err-may_continue-clause-outcome_value
returns-in_err-may_continue-clause-outcome_value c =
    let e = c.may_continue.ensures in
    handed-on _ _ c.from_residual.ensures.1
    ∙ refused-number _ _ _ e c.in_err-may_continue.was
    ∙ stops _ _ _ _ _ _ _ c.loop-i.invariant c.loop-i-test.true (is-refused _ _ _ e c.in_err-may_continue.was)

pub nodes-requires : goal.nodes-requires
nodes-requires c = (may-go-on _ _ (is-done _ _ _ c.may_continue.ensures c.in_ok-may_continue.was)).possible.depth

pub overflow_sub-left : goal.overflow_sub-left
overflow_sub-left c =
    omega (arith, c.nodes.ensures, (may-go-on _ _ (is-done _ _ _ c.may_continue.ensures c.in_ok-may_continue.was)).possible.made-few)

pub overflow_add-all : goal.overflow_add-all
overflow_add-all c =
    omega (
      arith,
      c.requires,
      c.loop-i-test.true,
      c.loop-i.invariant.small,
      c.nodes.ensures,
      small-nodes _ (may-go-on _ _ (is-done _ _ _ c.may_continue.ensures c.in_ok-may_continue.was)).possible.depth,
    )

pub store_size-requires : goal.store_size-requires
store_size-requires c = (may-go-on _ _ (is-done _ _ _ c.may_continue.ensures c.in_ok-may_continue.was)).possible.memory

pub overflow_add-at : goal.overflow_add-at
overflow_add-at c =
    omega (
      arith,
      c.ranges.store,
      c.loop-i.invariant.inside,
      c.store_size.ensures,
      (may-go-on _ _ (is-done _ _ _ c.may_continue.ensures c.in_ok-may_continue.was)).room,
    )

pub loop-i-preserved : goal.loop-i-preserved
loop-i-preserved c =
    one_further _ _ _ _ _ _ _ c.loop-i.invariant c.loop-i-test.true _ _ (is-done _ _ _ c.may_continue.ensures c.in_ok-may_continue.was)
    (omega (arith, c.requires, c.loop-i-test.true)) c.nodes.ensures c.store_size.ensures

pub returns : goal.returns
returns c =
    let (row, planned, whole) = all-looked _ _ _ _ _ _ _ c.loop-i.invariant c.loop-i-test.false in
    record { outcome_value = row; planned = (planned, whole) }
