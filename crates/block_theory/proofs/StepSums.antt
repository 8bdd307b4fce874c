-- What a machine costs that labels the nodes of a subtree in order, each step its node's blocks: the nodes' blocks added up, over any
-- number of steps, in one call and in any calls.
use mathlib.Core.Path.{◌≡◌, refl, sym, ap, ap₂, ◌∙◌}
use mathlib.Core.List.{List, [], ◌∷◌}
use Prim.Native.Nat.{ℕ, zero, suc, ◌+◌, ◌≤◌, ◌<◌, min}
use native.Mathlib.Omega.{arith}
use lib.ListN.{length, take, drop, get_or, length-drop}
use lib.Seq.{take-suc, get_or-drop}
use Rattle.machine.specs.Machines.{Machine, Goes, steps, done_in, advanced, cost_of, cost_in}
use Rattle.machine.specs.Calls.{total, labels_over}
use Rattle.machine.proofs.CallLaws.{done-after, calls-cost}
use Rattle.tree.specs.Nodes.{Node, root, order_below}
use Rattle.tree.specs.Walk.{nodes_in}
use Rattle.tree.proofs.Order.{order-length}
use Rattle.labelling.specs.Step.{next_node}
use Rattle.labelling.specs.Blocks.{node_blocks}
use Rattle.block_theory.specs.Sums.{blocks_sum}
use Rattle.block_theory.proofs.Sums.{sum-append, sum_one}

-- one node more
sum_more :
    (n : ℕ) (nodes : List Node) (k : ℕ) → k < length nodes
    → blocks_sum n (take (suc k) nodes) ≡ blocks_sum n (take k nodes) + node_blocks n (get_or nodes k root)
sum_more n nodes k few =
    let w : Node = get_or nodes k root in
    rw (take-suc nodes k root few, sum-append n (take k nodes) (w ∷ []), sum_one n w)

module _
    {S : Type 0} (machine : Machine S) (cost : S → ℕ) (s : S) (n h : ℕ) (v : Node) (made all : ℕ) (fits : made + all ≤ nodes_in h)
    (each : (k : ℕ) → k < all → cost (steps machine k s) ≡ node_blocks n (next_node h v (made + k))) where
  next-inside : (k : ℕ) → k < all → k < length (drop made (order_below h v))
  next-inside k few = rw (length-drop made (order_below h v), order-length h v) (omega arith)

  pub steps-sum : (k : ℕ) → k ≤ all → cost_of machine cost k s ≡ blocks_sum n (take k (drop made (order_below h v)))
  unfolding cost_of blocks_sum
  steps-sum zero few = refl
  steps-sum (suc k) few =
      let next : get_or (drop made (order_below h v)) k root ≡ next_node h v (made + k) = get_or-drop made (order_below h v) k root in
      ap₂ (λ (a b : ℕ). a + b) (steps-sum k (omega arith)) (each k few ∙ ap (λ (w : Node). node_blocks n w) (sym next))
      ∙ sym (sum_more n (drop made (order_below h v)) k (next-inside k few))

-- calls, of a machine that goes on for `all` steps
module _
    {S : Type 0} (machine : Machine S) (cost : S → ℕ) (s : S) (all : ℕ) (goes : Goes machine s all) (sum : ℕ → ℕ)
    (is : (k : ℕ) → k ≤ all → cost_of machine cost k s ≡ sum k) where
  done-few : (budget : ℕ) → done_in machine s budget ≤ all
  unfolding steps
  done-few budget = omega (arith, done-after machine s all goes 0 budget (omega arith))

  pub call-sum : (budget : ℕ) → cost_in machine cost s budget ≡ sum (done_in machine s budget)
  unfolding cost_in
  call-sum budget = is (done_in machine s budget) (done-few budget)

  pub calls-sum : (budgets : List ℕ) → labels_over (advanced machine) (cost_in machine cost) s budgets ≡ sum (min (total budgets) all)
  calls-sum budgets = calls-cost machine s all goes cost budgets ∙ is (min (total budgets) all) (omega arith)
