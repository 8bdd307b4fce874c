-- `run::labels::keep` meets its contract: a slot of levels 0 to m lies inside the store.
-- 2^l is what is computed, and small
use mathlib.Core.Path.{◌≡◌, ◌∙◌}
use Prim.Native.Nat.{ℕ, ◌*◌, ◌%◌, ◌^◌, ◌≤◌, ◌<◌}
use native.Mathlib.Omega.{arith}
use lib.Pow.{pow_pos, pow_mono}
use Rattle.base.specs.Limits.{max_depth}
use Rattle.tree.specs.Nodes.{node}
use Rattle.tree.proofs.Slots.{slot-inside}
use Rattle.base.proofs.Powers.{shifted_one}
use Rattle.run.proofs.StepLaws.{kept, not-kept}
use Rattle.run.proofs.labels.keep.Goals as goal

small_power : (l : ℕ) → l ≤ max_depth → ((1 * 2 ^ l) % 2 ^ 64 ≡ 2 ^ l) × (0 < 2 ^ l) × (2 ^ l ≤ 2 ^ max_depth)
small_power l below = (shifted_one l below, pow_pos l, pow_mono {i = l} {j = max_depth} below)

pub overflow_sub-at : goal.overflow_sub-at
overflow_sub-at c = omega (arith, small_power c.args.made.now.node.level c.requires.0, c.requires.1)

pub overflow_add-at : goal.overflow_add-at
overflow_add-at c = omega (arith, small_power c.args.made.now.node.level c.requires.0, c.requires.1)

pub overflow_mul-at : goal.overflow_mul-at
overflow_mul-at c = omega (arith, small_power c.args.made.now.node.level c.requires.0, c.requires.1)

pub put-requires : goal.put-requires
put-requires c =
    omega (
      arith,
      small_power c.args.made.now.node.level c.requires.0,
      c.requires.1,
      c.requires.2,
      slot-inside c.args.memory (node c.args.made.now.node.level c.args.made.now.node.position)
          (omega (arith, c.if-made-memory.true), c.requires.1),
    )

pub returns-then-made-memory : goal.returns-then-made-memory
returns-then-made-memory c =
    c.put.ensures
    ∙ kept c.args.memory c.args.store.now c.args.made.now.node.level c.args.made.now.node.position
    c.args.made.now.label c.requires.0 (omega (arith, c.if-made-memory.true))

pub returns-else-made-memory : goal.returns-else-made-memory
returns-else-made-memory c =
    not-kept c.args.memory c.args.store.now c.args.made.now.node.level c.args.made.now.node.position c.args.made.now.label c.if-made-memory.false
