-- W-208: which runs a unit's labels went to, in the order in which they were made.
use Rattle.std.specs.Prelude.{ℕ, ◌+◌, List, [], ◌∷◌, eqb}
use Rattle.base.specs.Choice.{pick}
use Rattle.machine.specs.Machines.{readings, read_in}
use Rattle.machine.specs.Calls.{after_calls, labels_over, lists_over}
use Rattle.unit.specs.Turns.{Carried, next_run, unit_machine, labels_in, blocks_in, advanced}

-- the runs served by k turns, by the labels of a call, and by those of calls with these budgets, each by its name
abbrev pub served_by : ℕ → Carried → List ℕ
served_by k s = readings unit_machine (λ t. next_run t.unit) k s

abbrev pub served_in : Carried → ℕ → List ℕ
served_in s budget = read_in unit_machine (λ t. next_run t.unit) s budget

abbrev pub served_over : Carried → List ℕ → List ℕ
served_over s budgets = lists_over advanced served_in s budgets

-- how often a name is in a list: the labels that run i got
unfoldable pub times : ℕ → List ℕ → ℕ
times i [] = 0
times i (name ∷ names) = pick (eqb name i) 1 0 + times i names

-- the last of a list of names, or what was named before
unfoldable pub last_named : ℕ → List ℕ → ℕ
last_named before [] = before
last_named before (name ∷ names) = last_named name names

-- the unit and its slice after calls with these budgets, and what they report, added up
abbrev pub called : Carried → List ℕ → Carried
called s budgets = after_calls advanced s budgets

abbrev pub reported : Carried → List ℕ → ℕ
reported s budgets = labels_over advanced labels_in s budgets

abbrev pub reported_blocks : Carried → List ℕ → ℕ
reported_blocks s budgets = labels_over advanced blocks_in s budgets
