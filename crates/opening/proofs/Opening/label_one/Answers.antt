-- `opening::Opening::label_one` meets its contract: the next node lies below the ancestor, so it has a place.
use mathlib.Core.Path.{ap}
use Prim.Native.Nat.{◌+◌, ◌-◌, ◌/◌, ◌^◌}
use native.Mathlib.Omega.{arith}
use borrow.Author.Rules.{rules}
use Rattle.tree.specs.Nodes.{node}
use Rattle.labelling.proofs.OneStep.{next_level}
use Rattle.opening_places.specs.Places.{ancestor}
use Rattle.opening.specs.Steps.{opening_of}
use Rattle.opening.proofs.StepLaws.{one-step, anew-few, anew-small, next-below}
use Rattle.opening_places.proofs.PlaceLaws.{way-inside}
use Rattle.opening.proofs.Opening.label_one.Goals as goal

pub label_next-made-requires : goal.label_next-made-requires
label_next-made-requires c =
    let o = c.args.self.now in
    let p = c.requires.possible.0 in
    let few = anew-few o.depth o.memory o.made c.requires.possible.1 in
    record {
      depth_bound = (p.above, p.deep, way-inside o.depth o.leaf o.memory p.above p.inside, omega arith);
      front_len = (c.requires.front_len.0, search rules);
    }

pub put_label-requires : goal.put_label-requires
put_label-requires c =
    let o = c.args.self.now in
    let w = c.label_next-made in
    let p = c.requires.possible.0 in
    let few = anew-few o.depth o.memory o.made c.requires.possible.1 in
    let low =
    next-below (o.depth - o.memory) o.made (ancestor o.depth o.leaf o.memory)
    (node w.result.node.level w.result.node.position) few w.ensures.node_value in
    let high =
    (next_level (o.depth - o.memory) o.memory (o.leaf / 2 ^ (o.depth - o.memory)) o.made w.result.node.level
    w.result.node.position (omega arith) w.ensures.node_value).1 in
    record {
      depth_le_max_depth = (p.deep, omega arith, omega (arith, p.above));
      depth_in_bounds = (c.requires.front_len.1, search rules);
    }

pub overflow_add-self : goal.overflow_add-self
overflow_add-self c =
    omega (
      arith,
      anew-small c.args.self.now.depth c.args.self.now.memory c.requires.possible.0.deep,
      c.requires.possible.1,
    )

pub returns : goal.returns
returns c =
    let o = c.args.self.now in
    let w = c.label_next-made.ensures in
    let (held, out) = one-step _ _ _ _ _ _ _ _ _ _ _ _ w.node_value w.label_value w.held_after c.put_label.ensures in
    record {
      opening_after = ap (opening_of o.edition o.statement o.depth o.memory o.leaf (o.made + 1)) held;
      out_after = out;
      value = w.blocks_value;
    }
