-- Budget 0 and a finished file change nothing, of every file under writing, reached or not.
use mathlib.Core.Path.{◌≡◌}
use mathlib.Core.Logic.{◌⊎◌}
use mathlib.Core.List.{List}
use Prim.Native.Nat.{ℕ}
use Rattle.machine.proofs.StepLaws.{done-idle, advanced-idle}
use Rattle.writing.specs.Steps.{Written, remaining, writing_machine, labels_in, advanced}

module _ (store : List ℕ) (s : Written) (budget : ℕ) (idle : (budget ≡ 0) ⊎ (remaining s.writing ≡ 0)) where
  pub file-none : labels_in store s budget ≡ 0
  unfolding writing_machine
  file-none = done-idle (writing_machine store) s budget idle

  pub file-same : advanced store s budget ≡ s
  unfolding writing_machine
  file-same = advanced-idle (writing_machine store) s budget idle
