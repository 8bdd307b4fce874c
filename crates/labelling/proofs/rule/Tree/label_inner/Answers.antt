-- `labelling::rule::Tree::label_inner` meets its contract: its two labels are all that is hashed.
use mathlib.Core.Path.{ap, ◌∙◌}
use Prim.Native.Nat.{ℕ, ◌+◌}
use mathlib.Core.List.{List}
use Rattle.base.specs.Bytes.{zeros, written}
use Rattle.tree.specs.Nodes.{node}
use Rattle.tree.specs.Labels.{label_by}
use Rattle.labelling.specs.Rule.{stamp_rule}
use Rattle.labelling.proofs.OneStep.{two-hashed}
use Rattle.labelling.proofs.rule.Tree.label_inner.Goals as goal

pub returns : goal.returns
returns c =
    record {
      value = c.label-label.ensures
          ∙ ap
          (label_by (stamp_rule c.args.self.now.edition c.args.self.now.depth c.args.self.now.statement) (node c.args.inner.level c.args.inner.position))
          (two-hashed c.args.held.now c.args.at);
      held_after = c.put-2.ensures ∙ ap (λ (l : List ℕ). written l (c.args.at + 32) (zeros 32)) c.put.ensures;
    }
