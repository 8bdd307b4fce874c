-- What one call on a unit gives, by its answer.
use mathlib.Core.Path.{◌≡◌, sym}
use mathlib.Core.Bool.{false}
use mathlib.Core.List.{List}
use Prim.Native.Nat.{ℕ, min}
use lib.ListN.{length}
use Rattle.base.specs.Row.{is_done}
use Rattle.machine.proofs.StepLaws as machines
use Rattle.unit.specs.declared.StampingUnit.{StampingUnit}
use Rattle.unit.specs.Runs.{left_of, sum_of}
use Rattle.unit.specs.Rows.{unit_row}
use Rattle.unit.specs.Turns.{carried, unit_machine, turns, turn_blocks, labels_in, blocks_over, blocks_in, advanced}

module _ (unit : StampingUnit) (store : List ℕ) (budget : ℕ) where
  pub labels-done : unit_row unit (length store) ≡ 0 → min budget (sum_of left_of unit.runs unit.count) ≡ labels_in (carried unit store) budget
  unfolding unit_machine
  labels-done e = sym (machines.done-some unit_machine (carried unit store) budget e)

  pub labels-refused : is_done (unit_row unit (length store)) ≡ false → 0 ≡ labels_in (carried unit store) budget
  unfolding unit_machine
  labels-refused e = sym (machines.done_refused unit_machine (carried unit store) budget e)

  pub advanced-by : (k : ℕ) (unit' : StampingUnit) (store' : List ℕ) → k ≡ labels_in (carried unit store) budget
      → unit' ≡ (turns k (carried unit store)).unit → store' ≡ (turns k (carried unit store)).store
      → (unit' ≡ (advanced (carried unit store) budget).unit) × (store' ≡ (advanced (carried unit store) budget).store)
  advanced-by k unit' store' e a b =
      let f : turns k (carried unit store) ≡ advanced (carried unit store) budget = machines.advanced-by unit_machine (carried unit store) budget k e in
      (rw (← f) a, rw (← f) b)

  pub blocks-by : (k blocks : ℕ) → k ≡ labels_in (carried unit store) budget → blocks ≡ blocks_over k (carried unit store)
      → blocks ≡ blocks_in (carried unit store) budget
  blocks-by = machines.cost-by unit_machine (carried unit store) budget turn_blocks

  pub unchanged : 0 ≡ labels_in (carried unit store) budget
      → (unit ≡ (advanced (carried unit store) budget).unit) × (store ≡ (advanced (carried unit store) budget).store)
  unchanged e = let f = machines.unchanged unit_machine (carried unit store) budget (sym e) in (rw f, rw f)
