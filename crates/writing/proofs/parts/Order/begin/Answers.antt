-- `writing::parts::Order::begin` meets its contract: the start in the part is not refused.
use mathlib.Core.Path.{refl, ◌∙◌}
use Rattle.file_head.proofs.ChallengeLaws.{done-ok}
use Rattle.writing.proofs.BegunLaws.{begun-done, begun-opening, begun-file}
use Rattle.writing.proofs.parts.Order.begin.Goals as goal

pub unwrap-requires : goal.unwrap-requires
unwrap-requires c =
    let a = c.args in
    let s = a.self.now in
    done-ok _
    (c.start.ensures.outcome_value
    ∙ begun-done s.tree.edition s.tree.statement s.root s.tree.depth s.memory s.count a.number a.store.now a.file.now c.requires
    c.challenge_leaf-leaf.result c.part_start-from.result c.challenge_leaf-leaf.ensures c.part_start-from.ensures.value _ refl)

pub returns : goal.returns
returns c =
    let a = c.args in
    let s = a.self.now in
    record {
      value = begun-opening s.tree.edition s.tree.statement s.root s.tree.depth s.memory s.count a.number a.store.now a.file.now c.requires
          c.challenge_leaf-leaf.result c.part_start-from.result c.challenge_leaf-leaf.ensures c.part_start-from.ensures.value _ refl _
          (rw c.unwrap.ensures at c.start.ensures.opening_value);
      file_after = begun-file s.tree.edition s.tree.statement s.root s.tree.depth s.memory s.count a.number a.store.now a.file.now c.requires
          c.challenge_leaf-leaf.result c.part_start-from.result c.challenge_leaf-leaf.ensures c.part_start-from.ensures.value _ refl _
          c.start.ensures.out_after c.start.auto.out;
    }
