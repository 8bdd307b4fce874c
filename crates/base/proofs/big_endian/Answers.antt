-- `base::big_endian` meets its contract: std divides at once, the definition by 256 again and again.
use Rattle.std.proofs.Common.{◌∙◌}
use Rattle.std.proofs.Math.Nat.{div-div-eq-div-mul}
use Rattle.base.specs.Bytes.{big_endian}
use Rattle.base.proofs.big_endian.Goals as goal

pub returns : goal.returns
unfolding big_endian
returns c = c.to_be_bytes.ensures ∙ simp div-div-eq-div-mul
