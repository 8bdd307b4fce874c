-- The blocks that a run's calls report are those of the nodes labelled in them, of every run that a call does not refuse.
use mathlib.Core.Path.{◌≡◌, refl, ◌∙◌}
use mathlib.Core.List.{List, []}
use Prim.Native.Nat.{ℕ, ◌+◌, ◌≤◌, ◌<◌, min}
use native.Mathlib.Nat.{zero-add}
use native.Mathlib.Omega.{arith}
use Rattle.base.specs.Limits.{max_depth}
use Rattle.machine.specs.Calls.{total}
use Rattle.tree.specs.Nodes.{Node, root, labelling_order}
use Rattle.tree.specs.Walk.{nodes_in}
use Rattle.tree.proofs.InputLengths.{ones-zero}
use Rattle.labelling.specs.Step.{next_node}
use Rattle.labelling.specs.Blocks.{node_blocks}
use Rattle.labelling.proofs.BlockLaws.{next-blocks}
use Rattle.run.specs.Steps.{Stamped, run_machine, steps, labels_in, step_blocks, blocks_over, blocks_in}
use Rattle.run_theory.proofs.GoesOn.{After, after-steps, goes_on}
use Rattle.run_record_theory.specs.Pausing.{HasArrays, Continuable, remaining_of}
use Rattle.run_record_theory.proofs.TidySteps.{shallow-run, few-made, steps-continuable}
use Rattle.block_theory.specs.Sums.{blocks_sum, next_nodes, reported_blocks}
use Rattle.block_theory.proofs.StepSums.{steps-sum, call-sum, calls-sum}

-- the next label's blocks are its node's
label-blocks :
    (s : Stamped) → HasArrays s.run → s.run.depth ≤ max_depth → s.run.made < nodes_in s.run.depth
    → step_blocks s ≡ node_blocks s.run.depth (next_node s.run.depth root s.run.made)
unfolding step_blocks
label-blocks s arrays shallow few =
    let w : Node = next_node s.run.depth root s.run.made in
    rw (zero-add s.run.depth) at
    (next-blocks s.run.depth 0 0 s.run.made w.level w.position few refl (omega arith) s.run.edition s.run.statement []
    s.run.held arrays.statement_size (omega arith) (omega (arith, ones-zero)) arrays.places_size)

module _ (s : Stamped) (can : Continuable s) where
  abbrev n : ℕ
  n = s.run.depth

  step-blocks : (k : ℕ) → k < remaining_of s → step_blocks (steps k s) ≡ node_blocks n (next_node n root (s.run.made + k))
  step-blocks k few =
      let a : After k s (steps k s) = after-steps s can.goes k (omega arith) in
      let now : Continuable (steps k s) = steps-continuable s can k (omega arith) in
      label-blocks (steps k s) now.arrays (shallow-run (steps k s) now) (rw (a.depth, a.made) (omega arith))
      ∙ rw (a.depth, a.made)

  abbrev next_sum : ℕ → ℕ
  next_sum k = blocks_sum n (next_nodes n s.run.made k)

  pub run-blocks : (k : ℕ) → k ≤ remaining_of s → blocks_over k s ≡ next_sum k
  unfolding labelling_order
  run-blocks = steps-sum run_machine step_blocks s n n root s.run.made (remaining_of s) (omega (arith, few-made s can)) step-blocks

  pub run_call : (budget : ℕ) → blocks_in s budget ≡ next_sum (labels_in s budget)
  run_call = call-sum run_machine step_blocks s (remaining_of s) (goes_on s can.goes) next_sum run-blocks

  pub run-calls : (budgets : List ℕ) → reported_blocks s budgets ≡ next_sum (min (total budgets) (remaining_of s))
  run-calls = calls-sum run_machine step_blocks s (remaining_of s) (goes_on s can.goes) next_sum run-blocks
