-- `writing::Writing::start` meets its contract: a start that is done has room for its first opening, and a refused one leaves the file.
use mathlib.Core.Path.{◌≡◌, sym, ap, ◌∙◌}
use Prim.Native.Nat.{ℕ, ◌≤◌}
use native.Mathlib.Omega.{arith}
use Rattle.base.specs.Limits.{IsEdition, IsDepth, IsCount}
use Rattle.base.proofs.RowLaws.{is-done, is-refused}
use Rattle.run_theory.specs.Runs.{Startable}
use Rattle.run_theory.proofs.StartLaws.{start-bounds}
use Rattle.file_head.specs.Layout.{file_size}
use Rattle.file_head.proofs.RowLaws.{done-head}
use Rattle.writing.specs.Possible.{Room}
use Rattle.writing.specs.Rows.{write_row}
use Rattle.writing.specs.Steps.{Written}
use Rattle.writing.proofs.RowLaws.{both-done, start-done, start-refused}
use Rattle.writing.proofs.Writing.start.Goals as goal

write-room : (edition n m t store file : ℕ) → write_row edition n m t store file ≡ 0 → Room edition n m t 1 store file
write-room edition n m t store file e =
    let (begun, headed) = both-done edition n m t store file e in
    let head : IsEdition edition × IsDepth n × IsCount t × (file_size n t ≤ file) = done-head edition n t file headed in
    let run : Startable edition n m store = start-bounds edition n m store head.0 begun in
    record {
      exists = head.0;
      depth = head.1;
      memory = run.memory;
      store_fits = run.enough;
      number = (omega arith, head.2.0);
      count = head.2.1;
      file_fits = head.3;
    }

pub returns-in_err-may_start-clause-file_after : goal.returns-in_err-may_start-clause-file_after
returns-in_err-may_start-clause-file_after c =
    let a = c.args in
    (start-refused a.tree.edition a.tree.statement a.root a.tree.depth a.memory a.count a.store.now a.file.now
    (is-refused _ _ _ c.may_start.ensures c.in_err-may_start.was)).1

pub write_first-requires : goal.write_first-requires
write_first-requires c = write-room _ _ _ _ _ _ (is-done _ _ _ c.may_start.ensures c.in_ok-may_start.was)

pub returns : goal.returns
returns c =
    let a = c.args in
    let done = is-done _ _ _ c.may_start.ensures c.in_ok-may_start.was in
    let e = start-done a.tree.edition a.tree.statement a.root a.tree.depth a.memory a.count a.store.now a.file.now done in
    record {
      outcome_value = sym done;
      writing_value = c.write_first.ensures.value ∙ ap (λ (s : Written). s.writing) e;
      file_after = c.write_first.ensures.file_after ∙ ap (λ (s : Written). s.file) e;
    }
