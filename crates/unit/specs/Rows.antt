-- W-208: 'New: 21, not 1 to 8 runs, or the run named as served last not among them; checked first, then each run in order as when continued'.
use Rattle.std.specs.Prelude.{ℕ, zero, suc, ◌+◌, ◌-◌, List}
use Rattle.base.specs.Choice.{pick}
use Rattle.base.specs.Limits.{max_runs}
use Rattle.base.specs.Row.{outside, either, is_done}
use Rattle.run.specs.declared.Run.{Run}
use Rattle.run.specs.Rows.{continue_row}
use Rattle.unit.specs.declared.StampingUnit.{StampingUnit}
use Rattle.unit.specs.Runs.{run_at, size_of}

-- so many runs, from run i on, over what is left of the slice: 4; 3 of each in order
unfoldable pub runs_row : List Run → ℕ → ℕ → ℕ → ℕ
runs_row runs i zero left = 0
runs_row runs i (suc more) left =
    let run : Run = run_at runs i in
    let row : ℕ = continue_row run left in
    pick (is_done row) (runs_row runs (i + 1) more (left - size_of run)) row

-- 21: not 1 to 8 runs, or the run named not among them; then runs 1 to `end`
unfoldable pub named_row : StampingUnit → ℕ → ℕ → ℕ → ℕ
named_row unit name end store =
    pick
    (either (outside 1 max_runs unit.count) (outside 1 unit.count name))
    21
    (runs_row unit.runs 1 end store)

-- a call, over a slice of so many bytes: the run served last is named, and all runs are checked
abbrev pub unit_row : StampingUnit → ℕ → ℕ
unit_row unit store = named_row unit unit.last unit.count store

-- where run i's store lies: run i is named, and the runs up to it are checked
abbrev pub place_row : StampingUnit → ℕ → ℕ → ℕ
place_row unit i store = named_row unit i i store
