-- `base::put` meets its contract.
use mathlib.Core.Path.{refl}
use native.Mathlib.Omega.{arith}
use lib.Seq.{paste-zero}
use Rattle.base.proofs.Copying.{copied-one, copied_all}
use Rattle.base.proofs.put.Goals as goal

pub loop-i-init : goal.loop-i-init
loop-i-init c = paste-zero _ c.args.at c.args.src.now

pub loop-i-preserved : goal.loop-i-preserved
loop-i-preserved c = copied-one _ _ _ _ _ c.loop-i.invariant (omega arith) (omega arith)

pub returns : goal.returns
returns c =
    let a = c.args in
    copied_all _ _ a.at a.src.now c.loop-i.i c.loop-i.invariant (omega arith) (omega arith)
