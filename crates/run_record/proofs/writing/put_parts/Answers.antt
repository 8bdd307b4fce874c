-- `run_record::writing::put_parts` meets its contract: the three parts one behind the other.
use mathlib.Core.Path.{refl}
use borrow.Author.Rules.{rules}
use Rattle.base.proofs.WrittenLaws.{written-three}
use Rattle.run_record.proofs.writing.put_parts.Goals as goal

pub returns : goal.returns
returns c =
    let a = c.args in
    written-three a.out.now a.numbers.now a.statement a.labels.now _ _ _ _ _ c.put.ensures c.put-2.ensures
    c.put-3.ensures refl (search rules)
