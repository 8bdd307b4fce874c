-- Document 01, 'Runs in lent memory': a new run, one step on a run and its store, and a call with a budget.
use Rattle.std.specs.Prelude.{ℕ, ◌+◌, ◌-◌, List, [], leb, length}
use Rattle.base.specs.Limits.{new_edition, held_size}
use Rattle.base.specs.Choice.{pick}
use Rattle.base.specs.Bytes.{zeros, written}
use Rattle.base.specs.Row.{is_done}
use Rattle.machine.specs.Machines as machines
use Rattle.machine.specs.Machines.{Machine}
use Rattle.tree.specs.Nodes.{Node, root}
use Rattle.tree.specs.Walk.{nodes_in}
use Rattle.tree.specs.Labels.{Label}
use Rattle.tree.specs.Store.{slot}
use Rattle.labelling.specs.Step.{next_node, next_label, held_with}
use Rattle.labelling.specs.Blocks.{next_blocks}
use Rattle.run.specs.declared.Run.{Run}
use Rattle.run.specs.Rows.{start_row, continue_row}

-- a run by its fields
abbrev pub run_of : ℕ → List ℕ → ℕ → ℕ → ℕ → List ℕ → Run
run_of edition statement n m made held =
    record { statement = statement; edition = edition; depth = n; memory = m; made = made; held = held }

-- 'A new run has made 0 labels and all its places are zero.'
abbrev pub new_run : ℕ → List ℕ → ℕ → ℕ → Run
new_run edition statement n m = run_of edition statement n m 0 (zeros held_size)

-- what stands beside a refused start
abbrev pub no_run : Run
no_run = new_run 0 (zeros 32) 0 0

-- 'New runs write 2' (W-206)
unfoldable pub started : List ℕ → ℕ → ℕ → ℕ → Run
started statement n m store = pick (is_done (start_row n m store)) (new_run new_edition statement n m) no_run

-- a run with its store
pub record Stamped : Type 0 where
  pub run : Run
  pub store : List ℕ

abbrev pub stamped : Run → List ℕ → Stamped
stamped run store = record { run = run; store = store }

-- 'Stored labels are written as made': those of levels 0 to m
abbrev pub stored : ℕ → List ℕ → Node → Label → List ℕ
stored m store w label = pick (leb w.level m) (written store (slot w) label) store

-- one step: the next node is labelled; 'a run keeps its edition' (W-206)
unfoldable pub stepped : Stamped → Stamped
stepped s =
    let r : Run = s.run in
    let w : Node = next_node r.depth root r.made in
    let label : Label = next_label r.edition r.statement r.depth root [] r.held r.made in
    record {
      run = run_of r.edition r.statement r.depth r.memory (r.made + 1) (held_with r.depth root r.held w label);
      store = stored r.memory s.store w label;
    }

-- the run as a machine: the checks of a call, the labels that remain, and one label
unfoldable pub run_machine : Machine Stamped
run_machine =
    record {
      row = λ s. continue_row s.run (length s.store);
      remaining = λ s. nodes_in s.run.depth - s.run.made;
      step = stepped;
    }

abbrev pub steps : ℕ → Stamped → Stamped
steps k s = machines.steps run_machine k s

-- 'A call with a budget labels exactly the smaller of the budget and what remains'; a refused one labels none.
abbrev pub labels_in : Stamped → ℕ → ℕ
labels_in s budget = machines.done_in run_machine s budget

-- W-207: the blocks of the next label, and 'the sum over exactly the labels they made in that call'
unfoldable pub step_blocks : Stamped → ℕ
step_blocks s = let r : Run = s.run in next_blocks r.edition r.statement r.depth root [] r.held r.made

abbrev pub blocks_over : ℕ → Stamped → ℕ
blocks_over k s = machines.cost_of run_machine step_blocks k s

abbrev pub blocks_in : Stamped → ℕ → ℕ
blocks_in s budget = machines.cost_in run_machine step_blocks s budget

-- the run and its store after a call
abbrev pub advanced : Stamped → ℕ → Stamped
advanced s budget = machines.advanced run_machine s budget
