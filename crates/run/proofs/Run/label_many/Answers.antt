use native.Mathlib.Omega.{arith}
use Rattle.run.proofs.StepLaws.{small-nodes, led-none, led-more, led-all}
use Rattle.run.proofs.Run.label_many.Goals as goal

pub loop-init : goal.loop-init
loop-init c = led-none c.args.self.now c.args.store.now

pub label_one-blocks-requires : goal.label_one-blocks-requires
label_one-blocks-requires c =
    let i = c.loop.invariant in
    rw (i.depth, i.memory) (c.requires.0, omega (arith, i.made, c.requires.1), omega (arith, c.requires.2))

pub overflow_add-blocks : goal.overflow_add-blocks
overflow_add-blocks c =
    omega (
      arith,
      c.requires,
      small-nodes c.args.self.now.depth c.requires.0,
      c.loop.invariant.few,
      c.label_one-blocks.ensures.value.1,
    )

pub loop-preserved : goal.loop-preserved
loop-preserved c =
    let o = c.label_one-blocks.ensures in
    led-more _ _ _ _ _ c.loop.invariant _ _ _ o.run_after o.store_after o.value.0 o.value.1

pub returns : goal.returns
returns c =
    let (run, store, blocks, few) = led-all _ _ _ _ _ c.loop.invariant c.args.count (omega arith) in
    record { run_after = run; store_after = store; blocks_value = (blocks, few) }
