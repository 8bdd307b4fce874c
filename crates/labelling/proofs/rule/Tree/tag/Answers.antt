-- `labelling::rule::Tree::tag` meets its contract.
use mathlib.Core.Path.{refl}
use Rattle.tree.specs.Labels.{tag}
use Rattle.labelling.proofs.rule.Tree.tag.Goals as goal

pub returns : goal.returns
unfolding tag
returns c = refl
