-- `compare::filling::put_children` meets its contract, for a right child and for a left one.
use Rattle.compare.proofs.FillingLaws.{right-put, left-put}
use borrow.Author.Rules.{rules}
use Rattle.compare.proofs.filling.put_children.Goals as goal

pub returns-then-position-eq1 : goal.returns-then-position-eq1
returns-then-position-eq1 c =
    right-put c.args.row.now c.args.at c.args.position c.args.child c.args.beside.now (search rules)
    c.requires.1 c.requires.0 _ _ c.if-position-eq1.true c.put.ensures c.put-then-position-eq1.ensures

pub returns-else-position-eq1 : goal.returns-else-position-eq1
returns-else-position-eq1 c =
    left-put c.args.row.now c.args.at c.args.position c.args.child c.args.beside.now (search rules)
    c.requires.1 c.requires.0 _ _ c.if-position-eq1.false c.put-else-position-eq1.ensures c.put-else-position-eq1-2.ensures
