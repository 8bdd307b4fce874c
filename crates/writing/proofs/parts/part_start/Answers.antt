-- `writing::parts::part_start` meets its contract: the openings from number i on end the file.
use native.Mathlib.Omega.{arith}
use Rattle.file_head.specs.Layout.{file_size}
use Rattle.writing.proofs.PartLaws.{part-from, part-fits}
use Rattle.writing.proofs.parts.part_start.Goals as goal

pub overflow_mul-result-2 : goal.overflow_mul-result-2
overflow_mul-result-2 c =
    let a = c.args in
    let r = part-from a.n a.t a.i (omega arith) (omega arith) c.file_size.result c.file_size.ensures in
    omega (arith, r.0)

pub overflow_sub-result-2 : goal.overflow_sub-result-2
overflow_sub-result-2 c =
    let a = c.args in
    (part-from a.n a.t a.i (omega arith) (omega arith) c.file_size.result c.file_size.ensures).0

pub returns : goal.returns
returns c =
    let a = c.args in
    let at = (part-from a.n a.t a.i (omega arith) (omega arith) c.file_size.result c.file_size.ensures).1 in
    record {
      value = at;
      n_bound = rw at (part-fits a.n a.t a.i (omega arith) (omega arith) (file_size a.n a.t) (omega arith));
    }
