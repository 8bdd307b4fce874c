-- One step on a run and its store, and several.
use mathlib.Core.Path.{◌≡◌, refl, sym, ap, ap₂, subst, ◌∙◌}
use mathlib.Core.List.{List, []}
use Prim.Native.Nat.{ℕ, ◌+◌, ◌-◌, ◌*◌, ◌%◌, ◌^◌, ◌≤◌, ◌<◌}
use native.Mathlib.Nat.{add-zero}
use native.Mathlib.Omega.{arith}
use borrow.Author.Tests.{le-leb, lt-leb}
use lib.Pow.{pow_mono}
use Rattle.base.specs.Limits.{max_depth}
use Rattle.base.specs.Bytes.{written}
use Rattle.machine.proofs.StepLaws as machines
use Rattle.machine.proofs.StepLaws.{step-last}
use Rattle.tree.specs.Nodes.{Node, node, root, InTree, labelling_order}
use Rattle.tree.specs.Walk.{nodes_in}
use Rattle.tree.proofs.Order.{nodes_in-suc, tree-at}
use Rattle.labelling.specs.Step.{next_node, next_label, held_with}
use Rattle.base.proofs.Powers.{shifted_one}
use Rattle.labelling.specs.Blocks.{next_blocks, most_blocks}
use Rattle.run.specs.declared.Run.{Run}
use Rattle.run.specs.Steps.{Stamped, run_of, stamped, stored, stepped, step_blocks, blocks_over, run_machine, steps}

-- the number of nodes, as it is computed
pub nodes-full : (n : ℕ) → n ≤ max_depth → 2 * ((1 * 2 ^ n) % 2 ^ 64) - 1 ≡ nodes_in n
nodes-full n small = omega (arith, shifted_one n small, nodes_in-suc n)

pub small-nodes : (n : ℕ) → n ≤ max_depth → nodes_in n < 2 ^ (max_depth + 2)
small-nodes n small = omega (arith, nodes_in-suc n, pow_mono {i = n} {j = max_depth} small)

pub next-in-tree : (n k l p : ℕ) → k < nodes_in n → node l p ≡ next_node n root k → InTree n (node l p)
unfolding labelling_order
next-in-tree n k l p few is = subst (λ (w : Node). InTree n w) (sym is) (tree-at n k few)

module _ (m : ℕ) (store : List ℕ) (l p : ℕ) (label : List ℕ) where
  pub kept : l ≤ max_depth → l ≤ m → written store (32 * ((1 * 2 ^ l) % 2 ^ 64 - 1 + p)) label ≡ stored m store (node l p) label
  kept small low = rw (shifted_one l small, le-leb l m low)

  pub not-kept : m < l → store ≡ stored m store (node l p) label
  not-kept high = rw (lt-leb l m high)

-- the tree below its root
pub from-root : (n : ℕ) → n - 0 ≡ n
from-root n = omega arith

-- one step, by what was labelled
module _ (run : Run) (store : List ℕ) (h l p : ℕ) (label held' store' : List ℕ) (blocks : ℕ) (whole : h ≡ run.depth)
    (is : node l p ≡ next_node h root run.made) where
  pub one-step :
      label ≡ next_label run.edition run.statement h root [] run.held run.made → held' ≡ held_with h root run.held (node l p) label
      → store' ≡ stored run.memory store (node l p) label
      → (run_of run.edition run.statement run.depth run.memory (run.made + 1) held' ≡ (stepped (stamped run store)).run)
      × (store' ≡ (stepped (stamped run store)).store)
  unfolding stepped
  one-step made-so held-so kept-so =
      let first : node l p ≡ next_node run.depth root run.made = rw whole at is in
      let labels : label ≡ next_label run.edition run.statement run.depth root [] run.held run.made = rw whole at made-so in
      let helds : held' ≡ held_with run.depth root run.held (node l p) label = rw whole at held-so in (
        ap (run_of run.edition run.statement run.depth run.memory (run.made + 1))
            (helds ∙ ap₂ (λ (w : Node) (x : List ℕ). held_with run.depth root run.held w x) first labels),
        kept-so ∙ ap₂ (λ (w : Node) (x : List ℕ). stored run.memory store w x) first labels,
      )

  pub one-cost : blocks ≡ next_blocks run.edition run.statement h root [] run.held run.made → blocks ≡ step_blocks (stamped run store)
  unfolding step_blocks
  one-cost e = rw whole at e

-- k steps from a state led to this run and this store, and cost so many blocks
pub record Led (s : Stamped) (k : ℕ) (run : Run) (store : List ℕ) (blocks : ℕ) : Type 0 where
  pub reached : steps k s ≡ stamped run store
  pub depth : run.depth ≡ s.run.depth
  pub memory : run.memory ≡ s.run.memory
  pub made : run.made ≡ s.run.made + k
  pub spent : blocks ≡ blocks_over k s
  pub few : blocks ≤ most_blocks * k

pub led-none : (run : Run) (store : List ℕ) → Led (stamped run store) 0 run store 0
led-none run store =
    record {
      reached = machines.no_step run_machine (stamped run store);
      depth = refl;
      memory = refl;
      made = sym (add-zero run.made);
      spent = sym (machines.cost-none run_machine step_blocks (stamped run store));
      few = omega arith;
    }

-- what a step leaves as it is
step-keeps : (s : Stamped)
    → ((stepped s).run.depth ≡ s.run.depth) × ((stepped s).run.memory ≡ s.run.memory) × ((stepped s).run.made ≡ s.run.made + 1)
unfolding stepped
step-keeps s = (refl, refl, refl)

module _ (s : Stamped) (k : ℕ) (run : Run) (store : List ℕ) (blocks : ℕ) (led : Led s k run store blocks) where
  one_more : steps (k + 1) s ≡ stepped (steps k s)
  unfolding run_machine
  one_more = step-last run_machine k s

  pub led-more : (run' : Run) (store' : List ℕ) (more : ℕ) → run' ≡ (stepped (stamped run store)).run → store' ≡ (stepped (stamped run store)).store
      → more ≡ step_blocks (stamped run store) → more ≤ most_blocks → Led s (k + 1) run' store' (blocks + more)
  led-more run' store' more at kept cost few =
      let same : stepped (stamped run store) ≡ stamped run' store' = (λ i. stamped (sym at i) (sym kept i)) in
      let k1 = step-keeps (stamped run store) in
      record {
        reached = one_more ∙ ap stepped led.reached ∙ same;
        depth = ap (λ (r : Run). r.depth) at ∙ k1.0 ∙ led.depth;
        memory = ap (λ (r : Run). r.memory) at ∙ k1.1 ∙ led.memory;
        made = ap (λ (r : Run). r.made) at ∙ k1.2 ∙ omega (arith, led.made);
        spent = machines.cost-more run_machine step_blocks k s (stamped run store) blocks more led.reached led.spent cost;
        few = omega (arith, led.few, few);
      }

  pub led-all : (count : ℕ) → k ≡ count
      → (run ≡ (steps count s).run) × (store ≡ (steps count s).store) × (blocks ≡ blocks_over count s) × (blocks ≤ most_blocks * count)
  led-all count e =
      let f : steps count s ≡ stamped run store = rw e at led.reached in
      (ap (λ (t : Stamped). t.run) (sym f), ap (λ (t : Stamped). t.store) (sym f), rw e at led.spent, rw e at led.few)
