-- `chain::climbing::width` meets its contract: the shift does not wrap.
use lib.Pow.{pow_mono, shl_exact}
use native.Mathlib.Omega.{arith}
use Rattle.base.specs.Limits.{max_depth}
use Rattle.chain.proofs.climbing.width.Goals as goal

pub returns : goal.returns
returns c =
    let n = c.args.depth in
    let e = shl_exact {a = 1} 1 n 64 (omega arith) (omega arith) in
    (omega (arith, e), omega (arith, e, pow_mono {i = n} {j = max_depth} (omega arith)))
