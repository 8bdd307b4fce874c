-- W-208: 'A call's budget is spent one label at a time, in turn, beginning after the run named as served last'; 'finished runs are passed
-- over'.
use Rattle.std.specs.Prelude.{ℕ, zero, suc, ◌+◌, ◌-◌, Bool, List, ltb, eqb, length, set}
use Rattle.base.specs.Choice.{pick}
use Rattle.base.specs.Bytes.{written}
use Rattle.base.specs.Row.{is_done}
use Rattle.machine.specs.Machines as machines
use Rattle.machine.specs.Machines.{Machine}
use Rattle.run.specs.declared.Run.{Run}
use Rattle.run.specs.Steps as alone
use Rattle.run.specs.Steps.{Stamped, stamped}
use Rattle.unit.specs.declared.StampingUnit.{StampingUnit}
use Rattle.unit.specs.Runs.{run_at, left_of, unfinished, sum_of, size_of, store_from, part_of}
use Rattle.unit.specs.Rows.{unit_row, place_row}

-- a unit by its fields
abbrev pub unit_of : ℕ → ℕ → List Run → StampingUnit
unit_of count last runs = record { count = count; last = last; runs = runs }

-- a unit with the slice that it is lent
pub record Carried : Type 0 where
  pub unit : StampingUnit
  pub store : List ℕ

abbrev pub carried : StampingUnit → List ℕ → Carried
carried unit store = record { unit = unit; store = store }

-- run i with its part of the slice
abbrev pub own_of : Carried → ℕ → Stamped
own_of s i = stamped (run_at s.unit.runs i) (part_of s.unit.runs s.store i)

-- ---- whose turn it is
-- the run after run i: the first after the last
abbrev pub following : ℕ → ℕ → ℕ
following count i = pick (ltb i count) (i + 1) 1

-- of so many runs after run i, in turn, the first that a test holds of; 0 where there is none
unfoldable pub first_after : (ℕ → Bool) → ℕ → ℕ → ℕ → ℕ
first_after test count zero i = 0
first_after test count (suc more) i =
    let next : ℕ = following count i in
    pick (test next) next (first_after test count more next)

-- the first unfinished run after the one served last, which comes last itself
unfoldable pub next_run : StampingUnit → ℕ
next_run unit = first_after (λ i. unfinished (run_at unit.runs i)) unit.count unit.count unit.last

-- ---- one label
-- run i makes one label in its part of the slice, and is the one served last
unfoldable pub served : ℕ → Carried → Carried
served i s =
    let runs : List Run = s.unit.runs in
    let next : Stamped = alone.stepped (own_of s i) in
    carried
    (unit_of s.unit.count i (set runs (i - 1) next.run))
    (written s.store (store_from runs i) next.store)

-- the run whose turn it is makes a label; nothing changes where all are finished
unfoldable pub turned : Carried → Carried
turned s = let i : ℕ = next_run s.unit in pick (eqb i 0) s (served i s)

-- the unit as a machine: the checks of a call, the labels that remain of all its runs, and one label
unfoldable pub unit_machine : Machine Carried
unit_machine =
    record {
      row = λ s. unit_row s.unit (length s.store);
      remaining = λ s. sum_of left_of s.unit.runs s.unit.count;
      step = turned;
    }

abbrev pub turns : ℕ → Carried → Carried
turns k s = machines.steps unit_machine k s

-- 'The number of labels made is the smaller of the budget and all that remain'; a refused call makes none.
abbrev pub labels_in : Carried → ℕ → ℕ
labels_in s budget = machines.done_in unit_machine s budget

-- W-207: the blocks of the next label, and those of the labels that a call makes
unfoldable pub turn_blocks : Carried → ℕ
turn_blocks s = let i : ℕ = next_run s.unit in pick (eqb i 0) 0 (alone.step_blocks (own_of s i))

abbrev pub blocks_over : ℕ → Carried → ℕ
blocks_over k s = machines.cost_of unit_machine turn_blocks k s

abbrev pub blocks_in : Carried → ℕ → ℕ
blocks_in s budget = machines.cost_in unit_machine turn_blocks s budget

-- the unit and the slice after a call
abbrev pub advanced : Carried → ℕ → Carried
advanced s budget = machines.advanced unit_machine s budget

-- ---- where run i's store lies in a slice of so many bytes: its offset and its length, 0 and 0 where it has none
unfoldable pub place_offset : StampingUnit → ℕ → ℕ → ℕ
place_offset unit i store = pick (is_done (place_row unit i store)) (store_from unit.runs i) 0

unfoldable pub place_length : StampingUnit → ℕ → ℕ → ℕ
place_length unit i store = pick (is_done (place_row unit i store)) (size_of (run_at unit.runs i)) 0
