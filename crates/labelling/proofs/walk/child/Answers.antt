use borrow.Author.Tests.{lt-ltb, le-ltb}
use Rattle.labelling.proofs.walk.child.Goals as goal

pub returns-then-left-half : goal.returns-then-left-half
returns-then-left-half c = simp (lt-ltb _ _ c.if-left-half.true)

pub returns-else-left-half : goal.returns-else-left-half
returns-else-left-half c = simp (le-ltb _ _ c.if-left-half.false)
