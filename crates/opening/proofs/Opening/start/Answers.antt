-- `opening::Opening::start` meets its contract.
use mathlib.Core.Path.{◌≡◌, refl, sym, ◌∙◌}
use mathlib.Core.Bool.{Bool}
use mathlib.Core.List.{List, ◌∷◌, ◌++◌}
use Prim.Native.Nat.{ℕ}
use borrow.Author.Tests.{ltb-false}
use Rattle.base.specs.Row.{no_edition}
use Rattle.tree.specs.Store.{store_size}
use Rattle.base.proofs.RowLaws.{NoneHolds, none-holds, is-done, is-refused}
use Rattle.tree.specs.Openings.{opening_size}
use Rattle.run.specs.Rows.{start_checks}
use Rattle.opening.specs.Rows.{leaf_checks, open_row}
use Rattle.opening.proofs.RowLaws.{Ready, possible, start-done, start-refused}
use Rattle.opening.proofs.Opening.start.Goals as goal

-- what a row of 0 tells
start-ready : (edition n m leaf store out : ℕ) → open_row edition n m leaf store out ≡ 0 → Ready n m leaf store out
unfolding open_row
start-ready edition n m leaf store out e =
    let row : List (Bool × ℕ) = (no_edition edition, 12) ∷ start_checks n m store ++ leaf_checks n leaf out in
    let (_, none) : NoneHolds row = none-holds row refl e in
    record {
      possible = possible n m leaf none.0 none.1.0 none.1.1.1.0;
      room = ltb-false store (store_size m) none.1.1.0;
      out_room = ltb-false out (opening_size n) none.1.1.1.1.0;
    }

pub returns-in_err-may_start-clause-out_after : goal.returns-in_err-may_start-clause-out_after
returns-in_err-may_start-clause-out_after c =
    let a = c.args in
    (start-refused a.tree.edition a.tree.statement a.tree.depth a.memory a.leaf a.store.now a.out.now
    (is-refused _ _ _ c.may_start.ensures c.in_err-may_start.was)).1

pub copy_held-requires : goal.copy_held-requires
copy_held-requires c =
    let r = start-ready _ _ _ _ _ _ (is-done _ _ _ c.may_start.ensures c.in_ok-may_start.was) in
    record { possible = r.possible; memory_in_bounds = (r.room, r.out_room) }

pub returns : goal.returns
returns c =
    let a = c.args in
    let done = is-done _ _ _ c.may_start.ensures c.in_ok-may_start.was in
    let (opening, out) = start-done a.tree.edition a.tree.statement a.tree.depth a.memory a.leaf a.store.now a.out.now done in
    record { outcome_value = sym done; opening_value = opening; out_after = c.copy_held.ensures ∙ out }
