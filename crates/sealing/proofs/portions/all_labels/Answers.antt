-- `sealing::portions::all_labels` meets its contract.
use native.Mathlib.Omega.{arith}
use Rattle.sealing.proofs.CountLaws.{small-anew}
use Rattle.run.proofs.StepLaws.{small-nodes}
use Rattle.sealing.proofs.portions.all_labels.Goals as goal

pub overflow_mul-result : goal.overflow_mul-result
overflow_mul-result c =
    omega (
      arith,
      small-anew c.args.depth c.args.memory c.args.challenges _ c.requires.0 c.requires.2 c.nodes_anew.ensures,
    )

pub overflow_add-result : goal.overflow_add-result
overflow_add-result c =
    omega (
      arith,
      small-anew c.args.depth c.args.memory c.args.challenges _ c.requires.0 c.requires.2 c.nodes_anew.ensures,
      c.nodes.ensures,
      small-nodes c.args.depth c.requires.0,
    )

pub returns : goal.returns
returns c = (
  rw (c.nodes.ensures, c.nodes_anew.ensures),
  omega (
    arith,
    small-anew c.args.depth c.args.memory c.args.challenges _ c.requires.0 c.requires.2 c.nodes_anew.ensures,
    c.nodes.ensures,
    small-nodes c.args.depth c.requires.0,
  ),
)
