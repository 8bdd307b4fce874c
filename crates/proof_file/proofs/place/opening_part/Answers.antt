-- `proof_file::opening_part` meets its contract: the part and its place.
use native.Mathlib.Omega.{arith}
use Rattle.file_head.specs.Head.{head_of}
use Rattle.file_head.proofs.HeadLaws.{part-inside, is-part}
use Rattle.proof_file.proofs.place.opening_part.Goals as goal

pub overflow_add-end : goal.overflow_add-end
overflow_add-end c =
    let a = c.args in
    omega (arith, part-inside a.bytes.now a.i (head_of a.bytes.now), c.opening_place-place.ensures)

pub slice_bounds-result-end : goal.slice_bounds-result-end
slice_bounds-result-end c =
    let a = c.args in
    omega (arith, part-inside a.bytes.now a.i (head_of a.bytes.now), c.opening_place-place.ensures)

pub returns : goal.returns
returns c =
    let a = c.args in
    let e = c.opening_place-place.ensures in
    let e = is-part a.bytes.now a.bytes.ref_ptr a.i _ _ e.offset_value e.length_value in
    record {
      result_value = e.0;
      ref_ptr_value = e.1;
    }
