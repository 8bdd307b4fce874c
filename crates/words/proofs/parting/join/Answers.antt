-- `words::parting::join` meets its contract.
use mathlib.Core.Path.{refl}
use native.Mathlib.Omega.{arith}
use Rattle.words.proofs.WordLaws.{joins-none, joins-one}
use Rattle.words.proofs.parting.join.Goals as goal

pub returns-then-line-at : goal.returns-then-line-at
returns-then-line-at c = let a = c.args in joins-none a.line.now a.word.now a.at (omega arith)

pub returns : goal.returns
returns c =
    let a = c.args in
    joins-one a.line.now a.word.now a.at _ _ _ _
    (omega (arith, c.if-line-at.false, c.if-line-at-2.false))
    c.put.ensures refl refl refl
