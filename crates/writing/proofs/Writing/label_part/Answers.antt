-- `writing::Writing::label_part` meets its contract: the call in the part is not refused, and its budget is left.
use mathlib.Core.Path.{refl, ◌∙◌}
use Rattle.file_head.proofs.ChallengeLaws.{done-ok}
use Rattle.writing.proofs.BegunLaws.{labelled-done, labelled-writing, labelled-file, labelled-count, labelled-blocks}
use Rattle.writing.proofs.Writing.label_part.Goals as goal

pub unwrap-work-requires : goal.unwrap-work-requires
unwrap-work-requires c =
    let a = c.args in
    done-ok _ (c.advance.ensures.outcome_value ∙ labelled-done a.self.now a.store.now a.file.now c.requires.ready a.labels c.part_start-from.result c.requires.labels_bound
    c.part_start-from.ensures.value _ refl)

pub returns : goal.returns
returns c =
    let a = c.args in
    let (labels, blocks, few) = rw c.unwrap-work.ensures at c.advance.ensures.work_value in
    record {
      writing_after = labelled-writing a.self.now a.store.now a.file.now c.requires.ready a.labels c.part_start-from.result c.requires.labels_bound
          c.part_start-from.ensures.value _ refl _
          c.advance.ensures.opening_after;
      file_after = labelled-file a.self.now a.store.now a.file.now c.requires.ready a.labels c.part_start-from.result c.requires.labels_bound
          c.part_start-from.ensures.value _ refl _
          c.advance.ensures.out_after c.advance.auto.out;
      blocks_value = (
        blocks ∙ labelled-blocks a.self.now a.store.now a.file.now c.requires.ready a.labels c.part_start-from.result c.requires.labels_bound
            c.part_start-from.ensures.value _ refl,
        rw (labels ∙ labelled-count a.self.now a.store.now a.file.now c.requires.ready a.labels c.part_start-from.result c.requires.labels_bound
            c.part_start-from.ensures.value _ refl) at few,
      );
    }
