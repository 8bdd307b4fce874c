-- `opening::Opening::advance` meets its contract: an opening that may be continued has room for its labels, and a refused call leaves it and
-- the output.
use mathlib.Core.Path.{sym, ap, ◌∙◌}
use Prim.Native.Nat.{ℕ, ◌-◌, min}
use native.Mathlib.Omega.{arith}
use Rattle.base.proofs.RowLaws.{is-done, is-refused}
use Rattle.opening.proofs.RowLaws.{continue-ready, labels-done, labels-refused, advanced-by, blocks-by, unchanged}
use Rattle.opening.proofs.Opening.advance.Goals as goal

pub returns-in_err-may_continue-clause-opening_after : goal.returns-in_err-may_continue-clause-opening_after
returns-in_err-may_continue-clause-opening_after c =
    let a = c.args in
    (unchanged a.self.now a.store.now a.out.now a.budget
    (labels-refused a.self.now a.store.now a.out.now a.budget (is-refused _ _ _ c.may_continue.ensures c.in_err-may_continue.was))).0

pub returns-in_err-may_continue-clause-out_after : goal.returns-in_err-may_continue-clause-out_after
returns-in_err-may_continue-clause-out_after c =
    let a = c.args in
    (unchanged a.self.now a.store.now a.out.now a.budget
    (labels-refused a.self.now a.store.now a.out.now a.budget (is-refused _ _ _ c.may_continue.ensures c.in_err-may_continue.was))).1

pub nodes_anew-requires : goal.nodes_anew-requires
nodes_anew-requires c =
    let (r, _) = continue-ready _ _ _ (is-done _ _ _ c.may_continue.ensures c.in_ok-may_continue.was) in
    (r.possible.deep, r.possible.above)

pub overflow_sub-nodes_anew : goal.overflow_sub-nodes_anew
overflow_sub-nodes_anew c =
    omega (arith, c.nodes_anew.ensures, (continue-ready _ _ _ (is-done _ _ _ c.may_continue.ensures c.in_ok-may_continue.was)).1)

pub label_many-blocks-requires : goal.label_many-blocks-requires
label_many-blocks-requires c =
    let (r, few) = continue-ready _ _ _ (is-done _ _ _ c.may_continue.ensures c.in_ok-may_continue.was) in
    record {
      possible = (r.possible, omega (arith, c.min-labels.ensures, c.nodes_anew.ensures));
      memory_in_bounds = (r.room, r.out_room);
    }

pub returns : goal.returns
returns c =
    let o = c.args.self.now in
    let s = c.args.store.now in
    let w = c.args.out.now in
    let b = c.args.budget in
    let e = c.label_many-blocks.ensures in
    let done = is-done _ _ _ c.may_continue.ensures c.in_ok-may_continue.was in
    let k = c.min-labels.ensures ∙ ap (λ (x : ℕ). min b (x - o.made)) c.nodes_anew.ensures ∙ labels-done o s w b done in
    let (opening, out) = advanced-by o s w b _ _ _ k e.opening_after e.out_after in
    record {
      outcome_value = sym done;
      work_value = (k, blocks-by o s w b _ _ k e.blocks_value.0, e.blocks_value.1);
      opening_after = opening;
      out_after = out;
    }
