-- A run's calls, from wherever it is, whatever bytes it holds.
use mathlib.Core.Path.{◌≡◌, sym, ap, ◌∙◌}
use Prim.Native.Nat.{ℕ, ◌-◌, ◌≤◌}
use mathlib.Core.List.{List}
use lib.ListN.{length}
use Rattle.run.specs.declared.Run.{Run}
use Rattle.run.specs.Rows.{continue_row}
use Rattle.run.specs.Steps.{Stamped, stamped, run_machine, steps, advanced}
use Rattle.run_theory.proofs.GoesOn.{goes_on}
use Rattle.run_record_theory.specs.Pausing.{remaining_of}
use Rattle.sealing.proofs.Spending.{spent-none, spent_all, spend}

module _ (s : Stamped) (left : ℕ) where
  -- no label is made yet
  pub first_run : left ≡ remaining_of s → (s.run ≡ (steps (remaining_of s - left) s).run) × (s.store ≡ (steps (remaining_of s - left) s).store)
  first_run e =
      let same = sym (spent-none run_machine s (remaining_of s) left e) in
      (ap (λ (t : Stamped). t.run) same, ap (λ (t : Stamped). t.store) same)

  module _ (state : Run) (here : List ℕ) (is-run : state ≡ (steps (remaining_of s - left) s).run)
      (is_is_store : here ≡ (steps (remaining_of s - left) s).store) where
    -- after a call
    module _ (goes : continue_row s.run (length s.store) ≡ 0) (few : left ≤ remaining_of s) (budget : ℕ) (enough : budget ≤ left)
        (next : Run) (there : List ℕ) (e : next ≡ (advanced (stamped state here) budget).run)
        (f : there ≡ (advanced (stamped state here) budget).store) where
      after_call : advanced (stamped state here) budget ≡ steps (remaining_of s - (left - budget)) s
      after_call =
          ap (λ (t : Stamped). advanced t budget) (λ i. stamped (is-run i) (is_is_store i))
          ∙ spend run_machine s (remaining_of s) left budget (goes_on s goes) few enough

      pub next-run : (next ≡ (steps (remaining_of s - (left - budget)) s).run) × (there ≡ (steps (remaining_of s - (left - budget)) s).store)
      next-run = (e ∙ ap (λ (t : Stamped). t.run) after_call, f ∙ ap (λ (t : Stamped). t.store) after_call)

    -- none is left
    pub last-run : left ≤ 0 → (state ≡ (steps (remaining_of s) s).run) × (here ≡ (steps (remaining_of s) s).store)
    last-run none =
        let same = spent_all run_machine s (remaining_of s) left none in
        (is-run ∙ ap (λ (t : Stamped). t.run) same, is_is_store ∙ ap (λ (t : Stamped). t.store) same)
