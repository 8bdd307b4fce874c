-- `run::Run::advance` meets its contract: a run that may be continued has room for its labels, and a refused call leaves it and the store.
use mathlib.Core.Path.{sym, ap, ◌∙◌}
use Prim.Native.Nat.{ℕ, ◌-◌, min}
use native.Mathlib.Omega.{arith}
use lib.ListN.{length}
use Rattle.base.proofs.RowLaws.{is-done, is-refused}
use Rattle.run.proofs.RowLaws.{may-go-on, labels-done, labels-refused, advanced-by, blocks-by, unchanged}
use Rattle.run.proofs.Run.advance.Goals as goal

pub returns-in_err-may_continue-clause-run_after : goal.returns-in_err-may_continue-clause-run_after
returns-in_err-may_continue-clause-run_after c =
    let r = c.args.self.now in
    let s = c.args.store.now in
    (unchanged r s c.args.budget
    (labels-refused r s c.args.budget (is-refused _ _ _ c.may_continue.ensures c.in_err-may_continue.was))).0

pub returns-in_err-may_continue-clause-store_after : goal.returns-in_err-may_continue-clause-store_after
returns-in_err-may_continue-clause-store_after c =
    let r = c.args.self.now in
    let s = c.args.store.now in
    (unchanged r s c.args.budget
    (labels-refused r s c.args.budget (is-refused _ _ _ c.may_continue.ensures c.in_err-may_continue.was))).1

pub nodes-requires : goal.nodes-requires
nodes-requires c =
    (may-go-on c.args.self.now (length c.args.store.now) (is-done _ _ _ c.may_continue.ensures c.in_ok-may_continue.was)).possible.depth

pub overflow_sub-nodes : goal.overflow_sub-nodes
overflow_sub-nodes c =
    let w = may-go-on c.args.self.now (length c.args.store.now) (is-done _ _ _ c.may_continue.ensures c.in_ok-may_continue.was) in
    omega (arith, c.nodes.ensures, w.possible.made-few)

pub label_many-blocks-requires : goal.label_many-blocks-requires
label_many-blocks-requires c =
    let w = may-go-on c.args.self.now (length c.args.store.now) (is-done _ _ _ c.may_continue.ensures c.in_ok-may_continue.was) in
    (w.possible.depth, omega (arith, c.min-labels.ensures, c.nodes.ensures, w.possible.made-few), w.room)

pub returns : goal.returns
returns c =
    let r = c.args.self.now in
    let s = c.args.store.now in
    let b = c.args.budget in
    let e = c.label_many-blocks.ensures in
    let done = is-done _ _ _ c.may_continue.ensures c.in_ok-may_continue.was in
    let k = c.min-labels.ensures ∙ ap (λ (x : ℕ). min b (x - r.made)) c.nodes.ensures ∙ labels-done r s b done in
    let (run, store) = advanced-by r s b _ _ _ k e.run_after e.store_after in
    record {
      outcome_value = sym done;
      work_value = (k, blocks-by r s b _ _ k e.blocks_value.0, e.blocks_value.1);
      run_after = run;
      store_after = store;
    }
