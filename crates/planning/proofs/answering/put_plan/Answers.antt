-- `planning::answering::put_plan` meets its contract.
use Rattle.planning.proofs.AnswerLaws.{nodes-wrote, head-room, plan-wrote, few-codes, codes-count, code-positive, the-node}
use Rattle.planning.proofs.Laying.{node-short, nodes-short}
use Rattle.tree.specs.Nodes.{node}
use Rattle.chain_theory.specs.Ways.{chain}
use lib.ListN.{length}
use native.Mathlib.Omega.{arith}
use mathlib.Core.Path.{◌∙◌}
use Rattle.planning.proofs.answering.put_plan.Goals as goal

pub of_code-requires : goal.of_code-requires
of_code-requires c =
    code-positive c.args.depth c.args.leaves.now c.args.codes.now c.requires.1.0 c.loop-code.code-index
    (omega (arith, codes-count c.args.depth c.args.leaves.now c.args.codes.now c.requires.0 c.requires.1.0))

pub put_node-at-requires : goal.put_node-at-requires
put_node-at-requires c =
    omega (
      arith,
      c.loop-code.invariant,
      c.put_head-at.ensures.next,
      c.put_head-at.auto.out,
      head-room c.args.depth c.different_leaves.result (length c.args.codes.now),
      c.requires.1.1,
      few-codes c.args.depth c.args.leaves.now c.args.codes.now c.requires.0 c.requires.1.0,
    )

pub loop-code-preserved : goal.loop-code-preserved
loop-code-preserved c =
    let l = c.loop-code in
    let a = c.args in
    let head = c.put_head-at in
    let spot = c.of_code in
    let put = c.put_node-at in
    let count = codes-count a.depth a.leaves.now a.codes.now c.requires.0 c.requires.1.0 in
    let few = few-codes a.depth a.leaves.now a.codes.now c.requires.0 c.requires.1.0 in
    let short = head-room a.depth c.different_leaves.result (length a.codes.now) in
    let all = nodes-short (chain a.depth a.leaves.now) in
    let the =
    the-node a.depth a.leaves.now a.codes.now c.requires.1.0 l.code-index (omega arith) spot.result.level
    spot.result.position spot.ensures.0 spot.ensures.1 in
    let wrote = nodes-wrote (chain a.depth a.leaves.now) l.code-index (node spot.result.level spot.result.position) l.out
    put.new.out l.at put.result (omega arith) the put.ensures (omega
    (arith, l.invariant.1, l.invariant.2, head.ensures.next, head.auto.out, c.requires.1.1)) in (
      wrote.0 ∙ l.invariant.0,
      wrote.1 ∙ l.invariant.1,
      put.auto.out ∙ l.invariant.2,
      omega (arith, put.ensures.next, l.invariant.3, node-short (node spot.result.level spot.result.position)),
    )

pub returns : goal.returns
returns c =
    let l = c.loop-code in
    let a = c.args in
    plan-wrote a.depth a.leaves.now a.codes.now c.requires.0 c.requires.1.0 a.out.now _ _ _ _ _ l.code-index
    c.different_leaves.ensures c.put_head-at.ensures
    (omega arith) l.invariant.0 l.invariant.1 c.requires.1.1
