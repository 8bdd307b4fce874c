-- `vector_helpers::stamping::Stamping::write_whole` meets its contract: the writing is begun, or refused.
use Rattle.std.proofs.Common.{◌∙◌}
use Rattle.base.proofs.RowLaws.{is-refused}
use Rattle.vector_helpers.proofs.WholeLaws.{file-whole, file-refused}
use Rattle.vector_helpers.proofs.stamping.Stamping.write_whole.Goals as goal

pub returns-in_default : goal.returns-in_default
returns-in_default c =
    let t = c.tree.result in
    let a = c.args in
    let begun = c.start.ensures in
    let refused = is-refused c.start.result _ c.in_default.field-0 begun.outcome_value c.in_default.is in
    rw c.tree.ensures
    at (begun.file_after ∙ file-refused t.edition t.statement a.root t.depth a.self.memory a.count a.store.now a.file.now refused)

pub returns : goal.returns
returns c =
    let t = c.tree.result in
    let a = c.args in
    rw c.tree.ensures
    at (file-whole t.edition t.statement a.root t.depth a.self.memory a.count a.store.now a.file.now _ _ _
    c.in-Ok.ensures.writing_value c.start.ensures.file_after c.advance.ensures.file_after)
