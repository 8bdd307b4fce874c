-- `writing::Writing::labels_left` meets its contract: the labels of 200 openings fit.
use Prim.Native.Nat.{◌-◌}
use native.Mathlib.Nat.{mul-le-mul_right}
use native.Mathlib.Omega.{arith}
use Rattle.base.specs.Limits.{max_challenges}
use Rattle.opening.proofs.StepLaws.{anew-small}
use Rattle.writing.proofs.Writing.labels_left.Goals as goal

pub overflow_mul-result : goal.overflow_mul-result
overflow_mul-result c =
    let w = c.args.self.now in
    let few = mul-le-mul_right {m = w.count - w.number} {n = max_challenges} c.nodes_anew-anew.result (omega (arith, c.requires)) in
    omega (arith, few, c.nodes_anew-anew.ensures, anew-small w.opening.depth w.opening.memory c.requires.depth_le_max_depth.0)

pub overflow_add-result : goal.overflow_add-result
overflow_add-result c =
    let w = c.args.self.now in
    let few = mul-le-mul_right {m = w.count - w.number} {n = max_challenges} c.nodes_anew-anew.result (omega (arith, c.requires)) in
    omega (arith, few, c.nodes_anew-anew.ensures, anew-small w.opening.depth w.opening.memory c.requires.depth_le_max_depth.0)
