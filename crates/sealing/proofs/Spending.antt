-- Calls that spend what is left: with a budget that is left each makes as many steps.
use mathlib.Core.Path.{◌≡◌, ap, ◌∙◌}
use Prim.Native.Nat.{ℕ, ◌+◌, ◌-◌, ◌≤◌, min}
use native.Mathlib.Omega.{arith}
use Rattle.machine.specs.Machines.{Machine, Goes, steps, advanced}
use Rattle.machine.proofs.StepLaws.{no_step}
use Rattle.machine.proofs.CallLaws.{advanced-after}

module _ {S : Type 0} (machine : Machine S) (s : S) (all left : ℕ) where
  pub spent-none : left ≡ all → steps machine (all - left) s ≡ s
  spent-none e =
      let none : all - left ≡ 0 = omega arith in
      ap (λ (k : ℕ). steps machine k s) none ∙ no_step machine s

  pub spent_all : left ≤ 0 → steps machine (all - left) s ≡ steps machine all s
  spent_all e =
      let whole : all - left ≡ all = omega arith in
      ap (λ (k : ℕ). steps machine k s) whole

  pub spend : (budget : ℕ) → Goes machine s all → left ≤ all → budget ≤ left
      → advanced machine (steps machine (all - left) s) budget ≡ steps machine (all - (left - budget)) s
  spend budget goes few enough =
      let count : all - left + min budget (all - (all - left)) ≡ all - (left - budget) = omega arith in
      advanced-after machine s all goes (all - left) budget (omega arith) ∙ ap (λ (k : ℕ). steps machine k s) count
