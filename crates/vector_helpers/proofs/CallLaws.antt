-- Calls with one budget: one more, and calls that change nothing.
use Rattle.std.proofs.Common.{◌≡◌, false, Result, Ok, Err, IfOk, sym, ℕ, zero, suc, ◌+◌, ◌-◌, ◌%◌, ◌^◌, ◌<◌, ◌≤◌, List, replicate, refl, ap, ◌∙◌, arith}
use Rattle.std.specs.Result.{result_unwrap_or}
use Rattle.machine.specs.Calls.{after_calls, labels_over}
use Rattle.machine.proofs.StepLaws.{unchanged}
use Rattle.base.specs.declared.refusal.Refusal.{Refusal}
use Rattle.base.specs.Number.{outcome_number}
use Rattle.base.specs.Row.{is_done}
use Rattle.base.proofs.RowLaws.{is-refused}
use Rattle.labelling.specs.declared.Work.{Work}
use Rattle.run.specs.Steps.{Stamped, run_machine, labels_in, advanced}
use Rattle.opening.specs.Steps as opens
use Rattle.opening.specs.Steps.{Open, opening_machine}

module _ {S : Type 0} (advance : S → ℕ → S) (labels : S → ℕ → ℕ) (budget : ℕ) where
  pub calls-idle : (s : S) → advance s budget ≡ s → (k : ℕ) → after_calls advance s (replicate k budget) ≡ s
  unfolding after_calls
  calls-idle s same zero = refl
  calls-idle s same (suc k) = ap (λ (t : S). after_calls advance t (replicate k budget)) same ∙ calls-idle s same k

  pub labels-idle : (s : S) → advance s budget ≡ s → labels s budget ≡ 0 → (k : ℕ) → labels_over advance labels s (replicate k budget) ≡ 0
  unfolding labels_over
  labels-idle s same none zero = refl
  labels-idle s same none (suc k) =
      let rest : labels_over advance labels (advance s budget) (replicate k budget) ≡ 0 =
      ap (λ (t : S). labels_over advance labels t (replicate k budget)) same ∙ labels-idle s same none k in
      omega arith

  -- before the first call, at one more and behind the last
  pub calls_first : (s : S) (calls : ℕ) → after_calls advance s (replicate (calls - 0) budget) ≡ after_calls advance s (replicate calls budget)
  calls_first s calls = let e : calls - 0 ≡ calls = omega arith in rw e

  pub calls-next : (s t : S) (calls call : ℕ) → call < calls → t ≡ advance s budget
      → after_calls advance t (replicate (calls - (call + 1)) budget) ≡ after_calls advance s (replicate (calls - call) budget)
  unfolding after_calls
  calls-next s t calls call h next = let e : calls - call ≡ suc (calls - (call + 1)) = omega arith in rw (e, next)

  pub calls-last : (s : S) (calls call : ℕ) → calls ≤ call → after_calls advance s (replicate (calls - call) budget) ≡ s
  unfolding after_calls
  calls-last s calls call h = let e : calls - call ≡ 0 = omega arith in rw e

  pub labels_first : (s : S) (calls : ℕ)
      → labels_over advance labels s (replicate (calls - 0) budget) ≡ labels_over advance labels s (replicate calls budget)
  labels_first s calls = let e : calls - 0 ≡ calls = omega arith in rw e

  pub labels-next : (s t : S) (calls call : ℕ) → call < calls → t ≡ advance s budget
      → labels_over advance labels s (replicate (calls - call) budget)
      ≡ labels s budget + labels_over advance labels t (replicate (calls - (call + 1)) budget)
  unfolding labels_over
  labels-next s t calls call h next = let e : calls - call ≡ suc (calls - (call + 1)) = omega arith in rw (e, next)

  pub labels-last : (s : S) (calls call : ℕ) → calls ≤ call → labels_over advance labels s (replicate (calls - call) budget) ≡ 0
  unfolding labels_over
  labels-last s calls call h = let e : calls - call ≡ 0 = omega arith in rw e

-- the labels of a call, none where it is refused, are those that its machine makes
pub labels-made : (answer : Result Work Refusal) (row labels : ℕ) (Q : Work → Type 0) → ((w : Work) → Q w → w.labels ≡ labels)
    → outcome_number answer ≡ row → IfOk answer Q → (is_done row ≡ false → labels ≡ 0)
    → (result_unwrap_or answer (record { labels = 0; blocks = 0 })).labels ≡ labels
labels-made (Ok w) row labels Q holds done given refused = holds w given
labels-made (Err r) row labels Q holds done given refused = sym (refused (is-refused {A = Work} (Err r) row r done refl))

-- a call that makes no label changes nothing
pub run-idle : (s : Stamped) (budget : ℕ) → labels_in s budget ≡ 0 → advanced s budget ≡ s
run-idle = unchanged run_machine

pub opening-idle : (store : List ℕ) (s : Open) (budget : ℕ) → opens.labels_in store s budget ≡ 0 → opens.advanced store s budget ≡ s
opening-idle store = unchanged (opening_machine store)

-- labels counted in 64 bits: before the first call, and at one call more
pub counted-first : (rest all : ℕ) → rest ≡ all → (0 + rest) % 2 ^ 64 ≡ all % 2 ^ 64
counted-first rest all e = omega arith

pub counted-more : (labels made rest all next : ℕ) → (labels + (made + rest)) % 2 ^ 64 ≡ all % 2 ^ 64 → next ≡ (labels + made) % 2 ^ 64
    → (next + rest) % 2 ^ 64 ≡ all % 2 ^ 64
counted-more labels made rest all next e f = omega arith

pub counted-all : (labels rest all : ℕ) → labels < 2 ^ 64 → rest ≡ 0 → (labels + rest) % 2 ^ 64 ≡ all % 2 ^ 64 → labels ≡ all % 2 ^ 64
counted-all labels rest all small none e = omega arith
