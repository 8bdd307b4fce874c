-- `writing::Writing::label_some` meets its contract: labels made at once are those made one at a time.
use mathlib.Core.Path.{sym, ◌∙◌}
use Rattle.writing.specs.Possible.{written_of}
use Rattle.writing.proofs.BlockLaws.{blocks-under}
use Rattle.writing.proofs.FollowLaws.{under-ready, some-labelled}
use Rattle.writing.proofs.Writing.label_some.Goals as goal

pub follow-requires : goal.follow-requires
follow-requires c =
    let a = c.args in
    let p = c.label_part-blocks in
    under-ready a.store.now a.file.now a.self.now c.requires.ready.0 a.labels c.requires.labels_bound _ p.new.file p.ensures.writing_after
    p.auto.file

pub returns : goal.returns
returns c =
    let a = c.args in
    let p = c.label_part-blocks.ensures in
    let f = c.follow.ensures in
    let (writing, (file, on)) =
    some-labelled a.store.now a.file.now a.self.now c.requires.ready.0 a.labels c.requires.ready.1 c.requires.labels_bound _ _ _ _
    p.writing_after p.file_after c.label_part-blocks.auto.file f.writing_after f.file_after f.goes_on in
    let blocks = blocks-under a.store.now (written_of a.self.now a.file.now) _ a.labels c.requires.labels_bound in
    record {
      writing_after = writing;
      file_after = file;
      goes_on = on;
      blocks_value = (p.blocks_value.0 ∙ sym blocks, p.blocks_value.1);
    }
