-- `sealing::resuming::take_openings` meets its contract: those that are right stand in their places.
use Rattle.std.proofs.Common.{arith, ◌∙◌}
use lib.ListN.{length-take}
use Rattle.sealing.proofs.ResumingLaws.{bounded, done-is, counted, file-taken, openings-start, file-fits}
use Rattle.sealing.proofs.resuming.take_openings.Goals as goal

pub slice_bounds-openings_done-count : goal.slice_bounds-openings_done-count
slice_bounds-openings_done-count c = (bounded c.requires.whole c.requires.found).inside

pub slice_bounds-openings_done-start : goal.slice_bounds-openings_done-start
slice_bounds-openings_done-start c = (bounded c.requires.whole c.requires.found).inside

pub openings_done-done-requires : goal.openings_done-done-requires
openings_done-done-requires c = let p = (bounded c.requires.whole c.requires.found).possible in (p.depth, p.made-few)

pub overflow_add-size : goal.overflow_add-size
overflow_add-size c = omega (arith, (bounded c.requires.whole c.requires.found).possible.depth)

pub overflow_mul-size : goal.overflow_mul-size
overflow_mul-size c = omega (arith, (bounded c.requires.whole c.requires.found).possible.depth)

pub overflow_mul-end : goal.overflow_mul-end
overflow_mul-end c = omega (arith, counted c.requires.whole c.requires.found c.openings_done-done.ensures)

pub overflow_add-end : goal.overflow_add-end
overflow_add-end c = omega (arith, counted c.requires.whole c.requires.found c.openings_done-done.ensures)

pub file_size-requires : goal.file_size-requires
file_size-requires c = let b = bounded c.requires.whole c.requires.found in (b.possible.depth, b.few)

pub overflow_mul-at : goal.overflow_mul-at
overflow_mul-at c = omega (arith, counted c.requires.whole c.requires.found c.openings_done-done.ensures)

pub overflow_sub-at : goal.overflow_sub-at
overflow_sub-at c = let f = c.args.found.now in (openings-start f.run.depth f.count _ c.file_size.ensures).0

pub slice_bounds-put-end : goal.slice_bounds-put-end
slice_bounds-put-end c = omega (arith, counted c.requires.whole c.requires.found c.openings_done-done.ensures)

pub put-requires : goal.put-requires
put-requires c =
    let f = c.args.found.now in
    let b = bounded c.requires.whole c.requires.found in
    rw length-take (omega (
      arith,
      (openings-start f.run.depth f.count _ c.file_size.ensures).0,
      (counted c.requires.whole c.requires.found c.openings_done-done.ensures).room,
      c.file_size.ensures,
      file-fits f.run.depth f.count b.possible.depth b.few,
      c.requires.room,
    ))

pub returns : goal.returns
returns c =
    let f = c.args.found.now in
    record {
      value = done-is c.requires.whole c.requires.found c.openings_done-done.ensures;
      file_after = c.put.ensures
          ∙ file-taken c.requires.whole c.requires.found c.openings_done-done.ensures c.args.file.now _
          (openings-start f.run.depth f.count _ c.file_size.ensures).1;
    }
