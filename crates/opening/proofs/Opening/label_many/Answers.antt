use mathlib.Core.Path.{◌≡◌, ap, ◌∙◌}
use Prim.Native.Nat.{◌≤◌}
use native.Mathlib.Omega.{arith}
use borrow.Author.Rules.{rules}
use lib.ListN.{length}
use lib.Seq.{length-take-le}
use Rattle.opening_places.specs.Possible.{front_size}
use Rattle.opening_places.proofs.AboveLaws.{above-few}
use Rattle.opening.proofs.StepLaws.{anew-small, led-none, led-more, led-all}
use Rattle.opening.proofs.Opening.label_many.Goals as goal

pub as_slice-front-requires : goal.as_slice-front-requires
as_slice-front-requires c =
    let o = c.args.self.now in
    let p = c.requires.possible.0 in
    omega (arith, p.kept, above-few o.depth o.leaf o.memory _ p.above p.inside c.labels_above-above.ensures.len_value)

pub loop-init : goal.loop-init
loop-init c = led-none _ _ _

pub label_one-blocks-requires : goal.label_one-blocks-requires
label_one-blocks-requires c =
    let o = c.args.self.now in
    let p = c.requires.possible.0 in
    let l = c.loop.invariant in
    let above = c.labels_above-above in
    let whole : length above.result.bytes ≡ front_size = search rules in
    let fits : above.result.len ≤ length above.result.bytes =
    omega (arith, p.kept, above-few o.depth o.leaf o.memory _ p.above p.inside above.ensures.len_value) in
    rw (l.depth, l.memory, l.leaf)
    record {
      possible = (p, omega (arith, l.made, c.requires.possible.1));
      front_len = (ap length c.as_slice-front.ensures ∙ length-take-le _ _ fits ∙ above.ensures.len_value, omega arith);
    }

pub overflow_add-blocks : goal.overflow_add-blocks
overflow_add-blocks c =
    omega (
      arith,
      c.requires.possible.1,
      anew-small c.args.self.now.depth c.args.self.now.memory c.requires.possible.0.deep,
      c.loop.invariant.few,
      c.label_one-blocks.ensures.value.1,
    )

pub loop-preserved : goal.loop-preserved
loop-preserved c =
    let o = c.label_one-blocks.ensures in
    led-more _ _ _ _ _ _ c.loop.invariant _ (c.as_slice-front.ensures ∙ c.labels_above-above.ensures.bytes_value) _ _ _
    o.opening_after o.out_after o.value.0 o.value.1

pub returns : goal.returns
returns c =
    let (opening, out, blocks, few) = led-all _ _ _ _ _ _ c.loop.invariant c.args.count (omega arith) in
    record { opening_after = opening; out_after = out; blocks_value = (blocks, few) }
