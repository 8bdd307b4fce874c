-- `checkpoint::writing::write_checkpoint` meets its contract.
use Rattle.std.proofs.Common.{arith, sym, ap, ◌∙◌, length}
use Rattle.base.specs.Bytes.{written}
use Rattle.base.specs.Number.{outcome_number}
use Rattle.checkpoint.specs.Layout.{checkpoint_written}
use Rattle.checkpoint.proofs.WritingLaws.{row-done, parts_are}
use Rattle.checkpoint.proofs.writing.write_checkpoint.Goals as goal

pub returns-clause-out_after : goal.returns-clause-out_after
unfolding checkpoint_written
returns-clause-out_after c =
    let a = c.args in
    let few = row-done a.run a.count (length a.store.now) (length a.out.now) (sym c.check_order.ensures ∙ ap outcome_number c.in_ok-check_order.was)
    (omega (arith, c.if-out-size.false, c.lay_record-length.ensures.size_value, c.kept_size-kept.ensures)) in
    rw few (c.put_parts.ensures ∙ ap (written a.out.now 0)
    (parts_are a.run a.count a.store.now _ _ _ _ c.order_head-head.ensures c.kept_size-kept.ensures.0 c.lay_record-length.ensures.size_value.0
    c.lay_record-length.ensures.room_after))
