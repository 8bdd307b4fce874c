use Rattle.std.proofs.Common.{◌∙◌, arith, rules}
use Rattle.vector_helpers.proofs.WholeLaws.{leaves_none, leaves-more, leaves_all}
use Rattle.vector_helpers.proofs.filled.challenged.Goals as goal

pub loop-i-init : goal.loop-i-init
loop-i-init c = (omega arith, search rules, leaves_none c.args.edition c.args.depth c.args.statement c.args.root)

pub loop-i-preserved : goal.loop-i-preserved
loop-i-preserved c =
    let a = c.args in
    let l = c.loop-i in (
      omega arith,
      search rules,
      leaves-more a.edition a.depth a.statement a.root l.leaves l.i _ (omega arith) l.invariant.2 (c.unwrap_or.ensures ∙ c.challenge.ensures.leaf_value),
    )

pub returns : goal.returns
returns c =
    let a = c.args in
    let l = c.loop-i in
    leaves_all a.edition a.depth a.statement a.root l.leaves l.i (omega arith) l.invariant.1 l.invariant.2
