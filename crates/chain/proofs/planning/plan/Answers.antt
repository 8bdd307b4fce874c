-- `chain::planning::plan` meets its contract: refused by the first three checks or by the list, or the whole plan is written.
use Rattle.std.proofs.lemmas.Result.{err_from_is_err_and}
use Rattle.chain.proofs.Rows.{leaves-refused, leaves-known, sorted-known, list-refused, list_done}
use mathlib.Core.Path.{sym}
use native.Mathlib.Omega.{arith}
use Rattle.chain.proofs.planning.plan.Goals as goal

pub returns-in_err-check_leaves : goal.returns-in_err-check_leaves
returns-in_err-check_leaves c =
    let p = err_from_is_err_and c.from_residual.result c.from_residual.ensures.1 in
    let e = leaves-refused c.args.depth c.args.leaves.now c.args.list.now _ c.in_err-check_leaves.ensures in
    rw (p.1, p.2) (record { outcome_value = e.0; count_value = e.1.0; list_after = e.1.1 })

pub sort_leaves-found-requires : goal.sort_leaves-found-requires
sort_leaves-found-requires c = record { fits = (leaves-known c.args.depth c.args.leaves.now (sym c.in_ok-check_leaves.ensures)).few }

pub count_plan-count-requires : goal.count_plan-count-requires
count_plan-count-requires c = sorted-known _ _ (sym c.in_ok-check_leaves.ensures) _ c.sort_leaves-found.ensures

pub returns-then-list-count : goal.returns-then-list-count
returns-then-list-count c =
    let e =
    list-refused _ _ _ c.args.list.now c.count_plan-count.result (sym c.in_ok-check_leaves.ensures) c.sort_leaves-found.ensures
    c.count_plan-count.ensures c.if-list-count.true in
    record { outcome_value = e.0; count_value = e.1.0; list_after = e.1.1 }

pub write_plan-requires : goal.write_plan-requires
write_plan-requires c =
    (sorted-known _ _ (sym c.in_ok-check_leaves.ensures) _ c.sort_leaves-found.ensures, omega (arith, c.count_plan-count.ensures, c.if-list-count.false))

pub returns : goal.returns
returns c =
    let e =
    list_done _ _ _ c.args.list.now c.count_plan-count.result (sym c.in_ok-check_leaves.ensures) c.sort_leaves-found.ensures
    c.count_plan-count.ensures _ c.if-list-count.false c.write_plan.ensures in
    record { outcome_value = e.0; count_value = e.1.0; list_after = e.1.1 }
