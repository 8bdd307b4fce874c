-- Document 01, 'Runs in lent memory', an opening: its start, one step on its state and output, and a call with a budget. The
-- store lent to a call is read and not changed.
use Rattle.std.specs.Prelude.{ℕ, ◌+◌, ◌-◌, List, length}
use Rattle.base.specs.Limits.{held_size}
use Rattle.base.specs.Choice.{pick}
use Rattle.base.specs.Bytes.{zeros}
use Rattle.base.specs.Row.{is_done}
use Rattle.machine.specs.Machines as machines
use Rattle.machine.specs.Machines.{Machine}
use Rattle.tree.specs.Nodes.{Node}
use Rattle.tree.specs.Labels.{Label}
use Rattle.labelling.specs.Step.{next_node, next_label, held_with}
use Rattle.labelling.specs.Blocks.{next_blocks}
use Rattle.opening_places.specs.Places.{ancestor, placed, copied_all, front}
use Rattle.opening.specs.declared.Opening.{Opening}
use Rattle.opening.specs.Rows.{nodes_anew, open_row, reopen_row}

-- an opening by its fields
abbrev pub opening_of : ℕ → List ℕ → ℕ → ℕ → ℕ → ℕ → List ℕ → Opening
opening_of edition statement n m leaf made held =
    record { statement = statement; edition = edition; depth = n; memory = m; leaf = leaf; made = made; held = held }

-- 'count and held labels are those of the nodes it labels anew, 0 and none at the start'
abbrev pub new_opening : ℕ → List ℕ → ℕ → ℕ → ℕ → Opening
new_opening edition statement n m leaf = opening_of edition statement n m leaf 0 (zeros held_size)

-- what stands beside a refused start
abbrev pub no_opening : Opening
no_opening = new_opening 0 (zeros 32) 0 0 0

unfoldable pub started : ℕ → List ℕ → ℕ → ℕ → ℕ → ℕ → ℕ → Opening
started edition statement n m leaf store out =
    pick (is_done (open_row edition n m leaf store out)) (new_opening edition statement n m leaf) no_opening

unfoldable pub started_out : ℕ → ℕ → ℕ → ℕ → List ℕ → List ℕ → List ℕ
started_out edition n m leaf store out =
    pick (is_done (open_row edition n m leaf (length store) (length out))) (copied_all n m leaf store out) out

-- an opening with its output
pub record Open : Type 0 where
  pub opening : Opening
  pub out : List ℕ

-- one step: the next node below the leaf's ancestor on level m is labelled anew
unfoldable pub stepped : List ℕ → Open → Open
stepped store s =
    let o : Opening = s.opening in
    let h : ℕ = o.depth - o.memory in
    let v : Node = ancestor o.depth o.leaf o.memory in
    let w : Node = next_node h v o.made in
    let label : Label = next_label o.edition o.statement h v (front o.depth o.memory o.leaf store) o.held o.made in
    record {
      opening =
          opening_of o.edition o.statement o.depth o.memory o.leaf (o.made + 1) (held_with h v o.held w label);
      out = placed o.depth o.leaf s.out w label;
    }

-- an opening over its store as a machine: the checks of a call, the labels that remain, and one label
unfoldable pub opening_machine : List ℕ → Machine Open
opening_machine store =
    record {
      row = λ s. reopen_row s.opening (length store) (length s.out);
      remaining = λ s. nodes_anew s.opening.depth s.opening.memory - s.opening.made;
      step = stepped store;
    }

abbrev pub steps : List ℕ → ℕ → Open → Open
steps store k s = machines.steps (opening_machine store) k s

-- the smaller of the budget and what remains; a refused call labels none
abbrev pub labels_in : List ℕ → Open → ℕ → ℕ
labels_in store s budget = machines.done_in (opening_machine store) s budget

-- W-207: the blocks of the next label made anew, and those of the labels that a call makes
unfoldable pub next_blocks_of : List ℕ → Opening → ℕ
next_blocks_of store o =
    next_blocks o.edition o.statement (o.depth - o.memory) (ancestor o.depth o.leaf o.memory)
    (front o.depth o.memory o.leaf store) o.held o.made

abbrev pub step_blocks : List ℕ → Open → ℕ
step_blocks store s = next_blocks_of store s.opening

abbrev pub blocks_over : List ℕ → ℕ → Open → ℕ
blocks_over store k s = machines.cost_of (opening_machine store) (step_blocks store) k s

abbrev pub blocks_in : List ℕ → Open → ℕ → ℕ
blocks_in store s budget = machines.cost_in (opening_machine store) (step_blocks store) s budget

-- the opening and its output after a call
abbrev pub advanced : List ℕ → Open → ℕ → Open
advanced store s budget = machines.advanced (opening_machine store) s budget
