-- 'Budget 0 and a finished run change nothing': of every run, reached or not, and of every opening.
use mathlib.Core.Path.{◌≡◌}
use mathlib.Core.Logic.{◌⊎◌}
use mathlib.Core.List.{List}
use Prim.Native.Nat.{ℕ, ◌-◌}
use Rattle.machine.proofs.StepLaws.{done-idle, advanced-idle}
use Rattle.tree.specs.Walk.{nodes_in}
use Rattle.run.specs.Steps as runs
use Rattle.run.specs.Steps.{Stamped, run_machine}
use Rattle.opening.specs.Rows.{nodes_anew}
use Rattle.opening.specs.Steps as openings
use Rattle.opening.specs.Steps.{Open, opening_machine}

module _ (s : Stamped) (budget : ℕ) (idle : (budget ≡ 0) ⊎ (nodes_in s.run.depth - s.run.made ≡ 0)) where
  pub run_none : runs.labels_in s budget ≡ 0
  unfolding run_machine
  run_none = done-idle run_machine s budget idle

  pub run-same : runs.advanced s budget ≡ s
  unfolding run_machine
  run-same = advanced-idle run_machine s budget idle

module _ (store : List ℕ) (s : Open) (budget : ℕ)
    (idle : (budget ≡ 0) ⊎ (nodes_anew s.opening.depth s.opening.memory - s.opening.made ≡ 0)) where
  pub opening-none : openings.labels_in store s budget ≡ 0
  unfolding opening_machine
  opening-none = done-idle (opening_machine store) s budget idle

  pub opening-same : openings.advanced store s budget ≡ s
  unfolding opening_machine
  opening-same = advanced-idle (opening_machine store) s budget idle
