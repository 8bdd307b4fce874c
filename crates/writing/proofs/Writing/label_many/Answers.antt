use mathlib.Core.Path.{◌≡◌, refl}
use native.Mathlib.Omega.{arith}
use borrow.Author.Rules.{rules}
use Rattle.writing.proofs.FollowLaws.{chunk-some, labelling-more, labelling-done}
use Rattle.writing.proofs.FollowLaws.{remaining-few, labelling-cost, labelling-counted}
use Rattle.writing.proofs.Writing.label_many.Goals as goal

pub loop-left-init : goal.loop-left-init
loop-left-init c =
    let p = c.requires in
    record {
      labelling = record { ready = p.ready.0; under = p.ready.1; few = p.labels_bound; same = refl };
      size = refl;
      counted = omega arith;
      few = omega arith;
    }

pub nodes_anew-anew-requires : goal.nodes_anew-anew-requires
nodes_anew-anew-requires c =
    let r = c.loop-left.invariant.labelling.ready.room in
    (r.depth.1, omega (arith, r.memory))

pub overflow_sub-anew : goal.overflow_sub-anew
overflow_sub-anew c = omega (arith, c.nodes_anew-anew.ensures, c.loop-left.invariant.labelling.ready.few)

pub label_some-blocks-requires : goal.label_some-blocks-requires
label_some-blocks-requires c =
    let i = c.loop-left.invariant in
    let k = chunk-some _ _ _ _ _ _ _ i.labelling _ _ c.loop-left-test.true c.nodes_anew-anew.ensures c.min-chunk.ensures in
    record { ready = (rw i.size i.labelling.ready, k.0); labels_bound = k.2 }

-- the blocks of this turn are no more than those of its labels can be
pub overflow_add-blocks : goal.overflow_add-blocks
overflow_add-blocks c =
    let i = c.loop-left.invariant in
    let k = chunk-some _ _ _ _ _ _ _ i.labelling _ _ c.loop-left-test.true c.nodes_anew-anew.ensures c.min-chunk.ensures in
    omega (
      arith,
      k.1,
      i.few,
      c.label_some-blocks.ensures.blocks_value.1,
      c.requires.labels_bound,
      remaining-few c.args.self.now _ _ c.requires.ready.0,
    )

pub loop-left-smaller : goal.loop-left-smaller
loop-left-smaller c =
    let i = c.loop-left.invariant in
    let k = chunk-some _ _ _ _ _ _ _ i.labelling _ _ c.loop-left-test.true c.nodes_anew-anew.ensures c.min-chunk.ensures in
    omega (arith, k.0, k.1)

pub loop-left-preserved : goal.loop-left-preserved
loop-left-preserved c =
    let i = c.loop-left.invariant in
    let k = chunk-some _ _ _ _ _ _ _ i.labelling _ _ c.loop-left-test.true c.nodes_anew-anew.ensures c.min-chunk.ensures in
    let e = c.label_some-blocks.ensures in
    record {
      labelling = labelling-more _ _ _ _ _ _ _ i.labelling _ _ _ k.1 e.writing_after e.file_after (rw i.size at e.goes_on);
      size = search rules;
      counted = labelling-cost _ _ _ _ _ _ _ i.labelling _ _ _ _ _ _ k.1 e.writing_after e.file_after e.blocks_value.0 i.counted;
      few = omega (arith, k.1, i.few, e.blocks_value.1);
    }

pub returns : goal.returns
returns c =
    let i = c.loop-left.invariant in
    let none : c.loop-left.left ≡ 0 = omega (arith, c.loop-left-test.false) in
    let (writing, file) = labelling-done _ _ _ _ _ _ _ i.labelling none in
    record {
      writing_after = writing;
      file_after = file;
      blocks_value = (labelling-counted _ _ _ _ _ _ _ i.labelling none _ _ i.counted, omega (arith, i.few));
    }
