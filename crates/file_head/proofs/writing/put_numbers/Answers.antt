-- `file_head::put_numbers` meets its contract: the three numbers one behind the other.
use mathlib.Core.Path.{◌∙◌}
use native.Mathlib.Omega.{arith}
use native.Mathlib.Nat.{zero-add}
use Rattle.file_head.proofs.WritingLaws.{numbers-size, numbers-put}
use Rattle.file_head.proofs.writing.put_numbers.Goals as goal

pub put_number-first-requires : goal.put_number-first-requires
put_number-first-requires c = omega (arith, numbers-size c.args.edition c.args.n c.args.t c.requires.0 c.requires.1 c.requires.2)

pub put_number-second-requires : goal.put_number-second-requires
put_number-second-requires c = omega (arith, numbers-size c.args.edition c.args.n c.args.t c.requires.0 c.requires.1 c.requires.2)

pub put_number-requires : goal.put_number-requires
put_number-requires c = omega (arith, numbers-size c.args.edition c.args.n c.args.t c.requires.0 c.requires.1 c.requires.2)

pub returns : goal.returns
returns c =
    let first = c.put_number-first.ensures in
    let second = c.put_number-second.ensures in
    let third = c.put_number.ensures in
    let a = c.args in
    record {
      value = omega (arith, numbers-size a.edition a.n a.t c.requires.0 c.requires.1 c.requires.2);
      out_after = numbers-put a.edition a.n a.t c.requires.0 c.requires.1 c.requires.2 a.out.now _ _ _ _ _ first.out_after
          second.out_after third.out_after (first.value ∙ zero-add _) second.value;
    }
