-- `vector_helpers::stamping::Stamping::write_file` meets its contract.
use Rattle.std.proofs.Common.{ℕ, List, take, ap, ◌∙◌}
use Rattle.vector_helpers.specs.Whole.{whole_run, whole_file}
use Rattle.vector_helpers.proofs.stamping.Stamping.write_file.Goals as goal

pub returns : goal.returns
returns c =
    let s = c.args.self in
    let a = c.args in
    let root = c.label_at-root in
    let store = c.run_whole.ensures ∙ ap (λ (space : List ℕ). whole_run s.edition s.statement s.depth s.memory space) c.store_space-store.ensures in
    record {
      value = root.ensures ∙ ap (λ (x : List ℕ). take 32 x) store;
      file_after = c.write_whole.ensures
          ∙ ap (λ (x : List ℕ). whole_file s.edition s.statement root.result s.depth s.memory a.count x a.file.now) store;
    }
