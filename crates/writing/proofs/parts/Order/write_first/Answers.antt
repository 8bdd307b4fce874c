-- `writing::parts::Order::write_first` meets its contract: the head is not refused, and the first opening can be continued.
use mathlib.Core.Path.{◌∙◌}
use native.Mathlib.Omega.{arith}
use Rattle.file_head.proofs.ChallengeLaws.{done-ok}
use Rattle.file_head.proofs.RowLaws.{head_done}
use Rattle.writing.proofs.BegunLaws.{first-ready, new-written}
use Rattle.writing.proofs.parts.Order.write_first.Goals as goal

pub unwrap-requires : goal.unwrap-requires
unwrap-requires c =
    let s = c.args.self.now in
    let r = c.requires in
    done-ok _
    (c.write_head.ensures.result_value
    ∙ head_done s.tree.edition s.tree.depth s.count _ r.exists r.depth (omega (arith, r.number, r.count)) r.file_fits)

pub follow-requires : goal.follow-requires
follow-requires c =
    let s = c.args.self.now in
    first-ready s.tree.edition s.tree.statement s.root s.tree.depth s.memory s.count c.args.store.now c.args.file.now _ c.requires
    c.write_head.ensures.out_after _ c.begin.new.file c.begin.ensures.value c.begin.ensures.file_after
    (c.begin.auto.file ∙ c.write_head.auto.out)

pub returns : goal.returns
returns c =
    let s = c.args.self.now in
    let (writing, file) =
    new-written s.tree.edition s.tree.statement s.root s.tree.depth s.memory s.count c.args.store.now c.args.file.now _ c.requires
    c.write_head.ensures.out_after _ _ c.begin.ensures.value c.begin.ensures.file_after _ _ c.follow.ensures.writing_after
    c.follow.ensures.file_after in
    record { value = writing; file_after = file }
