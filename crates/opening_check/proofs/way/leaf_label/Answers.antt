use mathlib.Core.Path.{◌∙◌, sym}
use Prim.Native.Nat.{◌*◌}
use native.Mathlib.Omega.{arith}
use lib.Count.{ones, ones-le}
use lib.Seq.{length-take-le}
use Rattle.opening_check.specs.OpeningCheck.{given_by}
use Rattle.opening_check.proofs.OneOpening.{gathered_none, gathered-few, gathered-more, gathered-all, given-labels, leaf-hash}
use Rattle.opening_check.proofs.way.leaf_label.Goals as goal

-- A leaf has at most n parents, and in the end all its labels are gathered.

pub loop-height-init : goal.loop-height-init
loop-height-init c = gathered_none c.args.tree.now.depth c.args.leaf c.requires.1 c.args.bytes.now

pub gather-len-requires : goal.gather-len-requires
gather-len-requires c =
    let l = c.loop-height in
    omega (
      arith,
      l.invariant.whole,
      gathered-few c.args.tree.now.depth c.args.leaf c.requires.1 c.args.bytes.now l.height l.len l.gathered (omega arith) l.invariant,
    )

pub loop-height-preserved : goal.loop-height-preserved
loop-height-preserved c =
    let l = c.loop-height in
    gathered-more c.args.tree.now.depth c.args.leaf c.requires.1 c.args.bytes.now l.height l.len _ l.gathered _ c.loop-height-test.true
    (omega arith) c.requires.0 (omega arith) l.invariant c.gather-len.ensures.gathered_after c.gather-len.ensures.value

pub slice_bounds-gathered-end : goal.slice_bounds-gathered-end
slice_bounds-gathered-end c =
    omega (arith, ones-le c.args.tree.now.depth c.args.leaf c.requires.1, c.loop-height.invariant.whole)

pub slice_bounds-label-end-2 : goal.slice_bounds-label-end-2
slice_bounds-label-end-2 c =
    sym (length-take-le (32 * ones c.args.leaf) c.loop-height.gathered
    (omega (arith, ones-le c.args.tree.now.depth c.args.leaf c.requires.1, c.loop-height.invariant.whole)))

pub label-requires-clause-level_le_depth : goal.label-requires-clause-level_le_depth
label-requires-clause-level_le_depth c = omega (arith, ones-le c.args.tree.now.depth c.args.leaf c.requires.1)

pub label-requires-clause-rest_len : goal.label-requires-clause-rest_len
label-requires-clause-rest_len c =
    omega (
      arith,
      length-take-le (32 * ones c.args.leaf) c.loop-height.gathered
          (omega (arith, ones-le c.args.tree.now.depth c.args.leaf c.requires.1, c.loop-height.invariant.whole)),
    )

pub returns : goal.returns
returns c =
    let t = c.args.tree.now in
    let leaf = c.args.leaf in
    let bytes = c.args.bytes.now in
    let l = c.loop-height in
    c.label.ensures
    ∙ leaf-hash t.depth leaf (given_by bytes) t.edition t.statement _ l.height
    (given-labels t.depth bytes (omega arith)) c.loop-height-test.false
    (rw (gathered-all t.depth leaf c.requires.1 bytes l.height l.len l.gathered c.loop-height-test.false l.invariant) l.invariant.labels)
