-- What is known of a unit's runs before their labels are made: numbers of each that the code reads in place of the runs.
use Rattle.std.specs.Prelude.{◌≡◌, ℕ, ◌-◌, ◌≤◌, List, get_or}
use Rattle.run.specs.declared.Run.{Run}
use Rattle.unit.specs.declared.checks.Lane.{Lane}
use Rattle.unit.specs.Runs.{run_at, left_of, store_from}

-- what a read outside the array gives, and run i's lane
abbrev pub outside_lane : Lane
outside_lane = record { from = 0; left = 0 }

abbrev pub lane_at : List Lane → ℕ → Lane
lane_at lanes i = get_or lanes (i - 1) outside_lane

-- of each of runs 1 to `end` where its store begins, and the labels that remain of it
pub record Planned (runs : List Run) (end : ℕ) (lanes : List Lane) : Type 0 where
  pub begins : (i : ℕ) → 1 ≤ i → i ≤ end → (lane_at lanes i).from ≡ store_from runs i
  pub remain : (i : ℕ) → 1 ≤ i → i ≤ end → (lane_at lanes i).left ≡ left_of (run_at runs i)
