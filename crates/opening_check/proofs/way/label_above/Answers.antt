-- `opening_check::label_above` meets its contract, for a right child and for a left one.
use mathlib.Core.Path.{◌∙◌}
use Prim.Native.Nat.{◌-◌}
use borrow.Author.Rules.{rules}
use Rattle.opening_check.proofs.OneOpening.{above-right, above-left}
use Rattle.opening_check.proofs.way.label_above.Goals as goal

pub returns-then-child-eq1 : goal.returns-then-child-eq1
returns-then-child-eq1 c =
    let a = c.args in
    c.label.ensures
    ∙ above-right a.tree.now.edition a.tree.now.depth a.tree.now.statement (a.child.level - 1) a.child.position a.label a.beside.now
    (search rules) c.requires.3 c.if-child-eq1.true

pub returns-else-child-eq1 : goal.returns-else-child-eq1
returns-else-child-eq1 c =
    let a = c.args in
    c.label-else-child-eq1.ensures
    ∙ above-left a.tree.now.edition a.tree.now.depth a.tree.now.statement (a.child.level - 1) a.child.position a.label a.beside.now
    (search rules) c.requires.3 c.if-child-eq1.false
