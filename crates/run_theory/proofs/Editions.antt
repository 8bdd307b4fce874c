-- W-206: 'a run keeps its edition', and so does an opening: steps and calls leave it as it is, whatever the state.
use mathlib.Core.Path.{◌≡◌, refl}
use mathlib.Core.List.{List}
use Prim.Native.Nat.{ℕ}
use Rattle.machine.specs.Calls.{after_calls}
use Rattle.machine.proofs.StepLaws.{steps-keep}
use Rattle.machine.proofs.CallLaws.{calls-keep}
use Rattle.run.specs.Steps as runs
use Rattle.run.specs.Steps.{Stamped, run_machine}
use Rattle.opening.specs.Steps as openings
use Rattle.opening.specs.Steps.{Open, opening_machine}
use Rattle.run_theory.specs.Runs.{called}

-- ---- runs
abbrev of_run : Stamped → ℕ
of_run s = s.run.edition

run-step-keeps : (s : Stamped) → of_run (run_machine.step s) ≡ of_run s
unfolding run_machine runs.stepped
run-step-keeps s = refl

pub run-steps-keep-edition : (k : ℕ) (s : Stamped) → (runs.steps k s).run.edition ≡ s.run.edition
run-steps-keep-edition = steps-keep run_machine of_run run-step-keeps

pub run-calls-keep-edition : (budgets : List ℕ) (s : Stamped) → (called s budgets).run.edition ≡ s.run.edition
run-calls-keep-edition = calls-keep run_machine of_run run-step-keeps

-- ---- openings
abbrev of_opening : Open → ℕ
of_opening s = s.opening.edition

module _ (store : List ℕ) where
  opening-step-keeps : (s : Open) → of_opening ((opening_machine store).step s) ≡ of_opening s
  unfolding opening_machine openings.stepped
  opening-step-keeps s = refl

  pub opening-steps-keep-edition : (k : ℕ) (s : Open) → (openings.steps store k s).opening.edition ≡ s.opening.edition
  opening-steps-keep-edition = steps-keep (opening_machine store) of_opening opening-step-keeps

  pub opening-calls-keep-edition :
      (budgets : List ℕ) (s : Open) → (after_calls (openings.advanced store) s budgets).opening.edition ≡ s.opening.edition
  opening-calls-keep-edition = calls-keep (opening_machine store) of_opening opening-step-keeps
