-- `writing::Writing::advance` meets its contract: a writing that may be continued has its labels left, and a refused call leaves it and the
-- file.
use mathlib.Core.Path.{◌≡◌, refl, sym, ap, ◌∙◌}
use mathlib.Core.Bool.{Bool, false}
use mathlib.Core.List.{List, [], ◌∷◌}
use Prim.Native.Nat.{ℕ, min}
use native.Mathlib.Omega.{arith}
use borrow.Author.Tests.{ltb-false}
use lib.Dec.{ltb}
use Rattle.base.proofs.RowLaws.{NoneHolds, none-holds, is-done, is-refused}
use Rattle.tree.specs.Store.{store_size}
use Rattle.file_head.specs.Layout.{file_size}
use Rattle.writing.specs.declared.Writing.{Writing}
use Rattle.writing.specs.Rows.{rewrite_row}
use Rattle.writing.specs.Possible.{Ready, state_outside}
use Rattle.writing.specs.Steps.{may_follow}
use Rattle.writing.proofs.RowLaws.{Bounded, state-bounds, labels-done, labels-refused, advanced-by, blocks-by, unchanged}
use Rattle.writing.proofs.Writing.advance.Goals as goal

rewrite-ready : (w : Writing) (store file : ℕ) → rewrite_row w store file ≡ 0 → Ready w store file × (may_follow w ≡ false)
unfolding rewrite_row
rewrite-ready w store file e =
    let row : List (Bool × ℕ) =
    (state_outside w, 4)
    ∷ (ltb store (store_size w.opening.memory), 3)
    ∷ (ltb file (file_size w.opening.depth w.count), 7)
    ∷ [] in
    let none : NoneHolds row = none-holds row refl e in
    let known : Bounded w = state-bounds w none.0 in (
      record {
        room =
            record {
              exists = known.exists;
              depth = known.depth;
              memory = known.memory;
              store_fits = ltb-false store (store_size w.opening.memory) none.1.0;
              number = known.number;
              count = known.count.1;
              file_fits = ltb-false file (file_size w.opening.depth w.count) none.1.1.0;
            };
        position = known.position;
        few = known.few;
      },
      known.under,
    )

pub returns-in_err-may_continue-clause-writing_after : goal.returns-in_err-may_continue-clause-writing_after
returns-in_err-may_continue-clause-writing_after c =
    let a = c.args in
    (unchanged a.self.now a.store.now a.file.now a.budget
    (labels-refused a.self.now a.store.now a.file.now a.budget (is-refused _ _ _ c.may_continue.ensures c.in_err-may_continue.was))).0

pub returns-in_err-may_continue-clause-file_after : goal.returns-in_err-may_continue-clause-file_after
returns-in_err-may_continue-clause-file_after c =
    let a = c.args in
    (unchanged a.self.now a.store.now a.file.now a.budget
    (labels-refused a.self.now a.store.now a.file.now a.budget (is-refused _ _ _ c.may_continue.ensures c.in_err-may_continue.was))).1

pub labels_left-requires : goal.labels_left-requires
labels_left-requires c =
    let (r, _) = rewrite-ready _ _ _ (is-done _ _ _ c.may_continue.ensures c.in_ok-may_continue.was) in
    record {
      depth_le_max_depth = (r.room.depth.1, omega (arith, r.room.memory));
      made_bound = r.few;
      number_le_count = (r.room.number.1, r.room.count);
    }

pub label_many-blocks-requires : goal.label_many-blocks-requires
label_many-blocks-requires c =
    record {
      ready = rewrite-ready _ _ _ (is-done _ _ _ c.may_continue.ensures c.in_ok-may_continue.was);
      labels_bound = omega (arith, c.min-labels.ensures, c.labels_left.ensures);
    }

pub returns : goal.returns
returns c =
    let w = c.args.self.now in
    let s = c.args.store.now in
    let f = c.args.file.now in
    let b = c.args.budget in
    let e = c.label_many-blocks.ensures in
    let done = is-done _ _ _ c.may_continue.ensures c.in_ok-may_continue.was in
    let k = c.min-labels.ensures ∙ ap (min b) c.labels_left.ensures ∙ labels-done w s f b done in
    let (writing, file) = advanced-by w s f b _ _ _ k e.writing_after e.file_after in
    record {
      outcome_value = sym done;
      work_value = (k, blocks-by w s f b _ _ k e.blocks_value.0, e.blocks_value.1);
      writing_after = writing;
      file_after = file;
    }
