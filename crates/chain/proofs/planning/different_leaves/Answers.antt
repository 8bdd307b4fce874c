-- `chain::planning::different_leaves` meets its contract: the sorted leaves are as many as there are different ones.
use Rattle.chain_theory.proofs.Sorting.{length-sorted}
use borrow.Author.Tests.{le-leb}
use mathlib.Core.Path.{ap, ◌∙◌}
use lib.ListN.{length}
use Rattle.chain.proofs.planning.different_leaves.Goals as goal

pub returns : goal.returns
returns c = simp (le-leb _ _ c.if-leaves-gt-MAX_LEAVES.false) (ap length c.sort_leaves-found.ensures ∙ length-sorted _)
