-- `sealing::resuming::take_store` meets its contract: the checkpoint's store stands at the front.
use Rattle.std.proofs.Common.{◌∙◌, ◌≤◌, arith}
use lib.ListN.{length-take}
use Rattle.base.specs.Limits.{max_memory, max_store}
use Rattle.tree.proofs.Slots.{store-fits}
use Rattle.sealing.proofs.ResumingLaws.{can-be, store-there, store-taken}
use Rattle.sealing.proofs.resuming.take_store.Goals as goal

pub store_size-requires : goal.store_size-requires
store_size-requires c = omega (arith, (can-be c.args.bytes.now c.requires.0).memory, c.requires.1)

few : (c : goal.After-store_size) → c.store_size.result ≤ max_store
few c =
    let low : c.args.memory ≤ max_memory = omega (arith, (can-be c.args.bytes.now c.requires.0).memory, c.requires.1) in
    omega (arith, c.store_size.ensures, store-fits c.args.memory low)

pub overflow_add-end : goal.overflow_add-end
overflow_add-end c = omega (arith, few c)

pub slice_bounds-put-end : goal.slice_bounds-put-end
slice_bounds-put-end c = omega (arith, store-there c.args.bytes.now c.requires.0 c.args.memory _ c.requires.1 c.store_size.ensures)

pub put-requires : goal.put-requires
put-requires c =
    let low : c.args.memory ≤ max_memory = omega (arith, (can-be c.args.bytes.now c.requires.0).memory, c.requires.1) in
    rw length-take (omega (arith, c.store_size.ensures, store-fits c.args.memory low, c.requires.2))

pub returns : goal.returns
returns c =
    let a = c.args in
    c.put.ensures ∙ store-taken a.bytes.now c.requires.0 a.memory _ c.requires.1 c.store_size.ensures a.store.now _ (omega arith)
