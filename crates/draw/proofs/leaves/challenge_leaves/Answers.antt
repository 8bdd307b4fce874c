-- `draw::leaves::challenge_leaves` meets its contract.
use mathlib.Core.Path.{◌≡◌, refl}
use Rattle.draw.proofs.LeavesOpened.{leaves_none, leaves-more, leaves_all, zeros-more}
use borrow.Author.Rules.{rules}
use native.Mathlib.Omega.{arith}
use Rattle.draw.proofs.leaves.challenge_leaves.Goals as goal

pub loop-i-init : goal.loop-i-init
loop-i-init c = record {
  wide = search rules;
  written = leaves_none c.args.edition c.args.depth c.args.statement c.args.root c.args.count;
  behind = refl;
}

pub loop-i-preserved : goal.loop-i-preserved
loop-i-preserved c =
    let a = c.args in
    let l = c.loop-i in record {
      wide = search rules;
      written =
          leaves-more a.edition a.depth a.statement a.root a.count l.leaves l.i c.challenge_leaf.result
          (omega arith) (omega (arith, l.invariant.wide, c.requires.3)) c.challenge_leaf.ensures l.invariant.written;
      behind = zeros-more l.leaves l.i c.challenge_leaf.result (omega (arith, c.requires.3)) l.invariant.behind;
    }

pub returns : goal.returns
returns c =
    let a = c.args in
    let l = c.loop-i in
    let all : l.i ≡ a.count = omega arith in record {
      result_value = leaves_all a.edition a.depth a.statement a.root a.count l.leaves l.i all l.invariant.written;
      result_value_2 = rw all at l.invariant.behind;
    }
