-- `labelling::rule::Tree::label_next` meets its contract: the next node lies in the subtree, and each kind of node has its law.
use mathlib.Core.Path.{◌≡◌, ◌∙◌}
use Prim.Native.Nat.{◌+◌, ◌-◌}
use native.Mathlib.Omega.{arith}
use borrow.Author.Rules.{rules}
use Rattle.labelling.proofs.OneStep.{next_level, next-ones, next-few, leaf-label, leaf-held, inner-label, inner-held}
use Rattle.labelling.proofs.BlockLaws.{leaf-blocks, inner-blocks}
use Rattle.labelling.proofs.rule.Tree.label_next.Goals as goal

pub label_leaf-requires : goal.label_leaf-requires
label_leaf-requires c =
    let a = c.args in
    let h = a.self.now.depth - a.top.level in
    let w = c.next_below-node in
    let b = c.requires.depth_bound in
    let inside = next_level h a.top.level a.top.position a.made w.result.level w.result.position b.3 w.ensures in
    let ones_are = next-ones h a.top.level a.top.position a.made w.result.level w.result.position b.3 w.ensures in
    let few = next-few h a.top.level a.top.position a.made w.result.level w.result.position b.3 w.ensures b.2 in
    record {
      level_le_depth = (omega arith, b.1, omega arith, c.requires.front_len.1);
      front_len_bound = omega (arith, c.requires.front_len.0);
    }

pub overflow_sub-node : goal.overflow_sub-node
overflow_sub-node c =
    let a = c.args in
    let w = c.next_below-node in
    omega (
      arith,
      next_level (a.self.now.depth - a.top.level) a.top.level a.top.position a.made w.result.level w.result.position
          c.requires.depth_bound.3 w.ensures,
    )

pub place-at-requires : goal.place-at-requires
place-at-requires c =
    let a = c.args in
    let w = c.next_below-node in
    omega (
      arith,
      next_level (a.self.now.depth - a.top.level) a.top.level a.top.position a.made w.result.level w.result.position
          c.requires.depth_bound.3 w.ensures,
    )

pub label_inner-requires : goal.label_inner-requires
label_inner-requires c =
    let a = c.args in
    let w = c.next_below-node in
    omega (
      arith,
      next_level (a.self.now.depth - a.top.level) a.top.level a.top.position a.made w.result.level w.result.position
          c.requires.depth_bound.3 w.ensures,
      c.place-at.ensures.1,
      c.requires,
    )

pub returns-then-node-self : goal.returns-then-node-self
returns-then-node-self c =
    let a = c.args in
    let t = a.self.now in
    let h = t.depth - a.top.level in
    let w = c.next_below-node in
    let b = c.requires.depth_bound in
    let all : a.top.level + h ≡ t.depth = omega arith in
    let leaf = c.if-node-self.true in
    let front-size = c.requires.front_len.0 in
    record {
      node_value = w.ensures;
      label_value = c.label_leaf.ensures.value
          ∙ leaf-label h a.top.level a.top.position a.made w.result.level w.result.position b.3 w.ensures
          t.edition t.depth t.statement a.front.now a.held.now all leaf front-size;
      held_after = c.label_leaf.ensures.held_after
          ∙ leaf-held h a.top.level a.top.position a.made w.result.level w.result.position b.3 w.ensures
          t.edition t.depth t.statement a.front.now a.held.now all leaf front-size c.label_leaf.result;
      blocks_value = (
        c.label_blocks.ensures.0
            ∙ leaf-blocks h a.top.level a.top.position a.made w.result.level w.result.position b.3 w.ensures b.2
            t.edition t.statement a.front.now a.held.now (search rules) (omega arith) front-size c.requires.front_len.1
            t.depth all leaf _ c.place.ensures.0,
        c.label_blocks.ensures.1,
      );
    }

pub returns-else-node-self : goal.returns-else-node-self
returns-else-node-self c =
    let a = c.args in
    let t = a.self.now in
    let h = t.depth - a.top.level in
    let w = c.next_below-node in
    let b = c.requires.depth_bound in
    let all : a.top.level + h ≡ t.depth = omega arith in
    let inner = c.if-node-self.false in
    let place = c.place-at in
    record {
      node_value = w.ensures;
      label_value = c.label_inner.ensures.value
          ∙ inner-label h a.top.level a.top.position a.made w.result.level w.result.position b.3 w.ensures
          t.edition t.depth t.statement a.front.now a.held.now all inner _ place.ensures.0;
      held_after = c.label_inner.ensures.held_after
          ∙ inner-held h a.top.level a.top.position a.made w.result.level w.result.position b.3 w.ensures
          t.edition t.depth t.statement a.front.now a.held.now all inner _ place.ensures.0 c.label_inner.result;
      blocks_value = (
        c.label_blocks-else-node-self.ensures.0
            ∙ inner-blocks h a.top.level a.top.position a.made w.result.level w.result.position b.3 w.ensures b.2
            t.edition t.statement a.front.now a.held.now (search rules) (omega arith) c.requires.front_len.0 c.requires.front_len.1
            t.depth all inner,
        c.label_blocks-else-node-self.ensures.1,
      );
    }
