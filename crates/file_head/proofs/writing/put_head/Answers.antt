-- `file_head::writing::put_head` meets its contract: numbers, statement and root one behind the other.
use native.Mathlib.Omega.{arith}
use borrow.Author.Rules.{rules}
use Rattle.file_head.proofs.WritingLaws.{head-put, size-numbers}
use Rattle.file_head.proofs.writing.put_head.Goals as goal

pub put_numbers-at-requires : goal.put_numbers-at-requires
put_numbers-at-requires c =
    let a = c.args in
    (c.requires.0, c.requires.1, c.requires.2, omega (arith, c.requires.3, size-numbers a.edition a.n a.t c.requires.0))

-- statement and root fit behind the numbers

pub put-requires : goal.put-requires
put-requires c = omega (arith, size-numbers c.args.edition c.args.n c.args.t c.requires.0)

pub overflow_add-at : goal.overflow_add-at
overflow_add-at c = omega (arith, size-numbers c.args.edition c.args.n c.args.t c.requires.0)

pub put-requires-2 : goal.put-requires-2
put-requires-2 c = omega (arith, size-numbers c.args.edition c.args.n c.args.t c.requires.0)

pub returns : goal.returns
returns c =
    let put-numbers = c.put_numbers-at in
    let a = c.args in
    head-put a.edition a.statement a.root a.n a.t a.out.now _ _ _ _ (search rules) put-numbers.ensures.value
    put-numbers.ensures.out_after c.put.ensures c.put-2.ensures
