-- `run_record::writing::held_count` meets its contract: finished, before an inner node, and before a leaf.
use mathlib.Core.Path.{◌∙◌}
use Prim.Native.Nat.{◌<◌}
use native.Mathlib.Omega.{arith}
use Rattle.tree.specs.Walk.{nodes_in}
use Rattle.run_record.proofs.HeldCounts.{count-done, count-inner, count-leaf, ones-few}
use Rattle.run_record.proofs.writing.held_count.Goals as goal

pub returns-then-made-nodes : goal.returns-then-made-nodes
returns-then-made-nodes c =
    count-done c.args.depth c.args.made (c.if-made-nodes.true ∙ c.nodes.ensures)

pub next_below-next-requires : goal.next_below-next-requires
next_below-next-requires c = omega (arith, c.requires, c.nodes.ensures, c.if-made-nodes.false)

pub overflow_cast-beside : goal.overflow_cast-beside
overflow_cast-beside c =
    let left : c.args.made < nodes_in c.args.depth = omega (arith, c.requires, c.nodes.ensures, c.if-made-nodes.false) in
    omega (arith, ones-few c.args.depth c.args.made _ _ left c.next_below-next.ensures c.requires.0)

pub overflow_add-result : goal.overflow_add-result
overflow_add-result c =
    let left : c.args.made < nodes_in c.args.depth = omega (arith, c.requires, c.nodes.ensures, c.if-made-nodes.false) in
    omega (arith, ones-few c.args.depth c.args.made _ _ left c.next_below-next.ensures c.requires.0)

pub returns-then-next-depth : goal.returns-then-next-depth
returns-then-next-depth c =
    let left : c.args.made < nodes_in c.args.depth = omega (arith, c.requires, c.nodes.ensures, c.if-made-nodes.false) in
    count-inner c.args.depth c.args.made _ _ left c.next_below-next.ensures c.if-next-depth.true

pub returns-else-next-depth : goal.returns-else-next-depth
returns-else-next-depth c =
    let left : c.args.made < nodes_in c.args.depth = omega (arith, c.requires, c.nodes.ensures, c.if-made-nodes.false) in
    count-leaf c.args.depth c.args.made _ _ left c.next_below-next.ensures c.if-next-depth.false
