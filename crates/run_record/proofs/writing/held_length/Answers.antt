-- `run_record::writing::held_length` meets its contract: 32 bytes a label.
use mathlib.Core.Path.{ap}
use Prim.Native.Nat.{ℕ, ◌*◌}
use native.Mathlib.Omega.{arith}
use Rattle.run_record.proofs.HeldCounts.{held_fits}
use Rattle.run_record.proofs.writing.held_length.Goals as goal

pub overflow_mul-result : goal.overflow_mul-result
overflow_mul-result c =
    omega (arith, c.held_count.ensures, held_fits c.args.depth c.args.made c.requires.0 c.requires.1)

pub returns : goal.returns
returns c = ap (λ (k : ℕ). 32 * k) c.held_count.ensures
