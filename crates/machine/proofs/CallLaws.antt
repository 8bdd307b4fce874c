-- Calls, of every machine. What each step leaves as it is they leave too. From a state on that has `all` steps to make none is refused,
-- and budgets cut in any way make as many steps as one call with their sum, give the same state, cost the same and read the same.
use mathlib.Core.Path.{◌≡◌, refl, sym, ap, ◌∙◌}
use mathlib.Core.List.{List, [], ◌∷◌, ◌++◌, append_assoc, append-nil}
use Prim.Native.Nat.{ℕ, ◌+◌, ◌-◌, ◌≤◌, ◌<◌, min}
use native.Mathlib.Omega.{arith}
use Rattle.machine.specs.Machines.{Machine, Goes, steps, done_in, advanced, cost_of, cost_in, readings, read_in}
use Rattle.machine.specs.Calls.{total, after_calls, labels_over, lists_over}
use Rattle.machine.proofs.StepLaws.{steps-add, call-keeps, cost-add, readings-add, done-some, unchanged}

-- what each step leaves as it is, calls do, from every state
pub calls-keep :
    {S : Type 0} (machine : Machine S) (of : S → ℕ) → ((s : S) → of (machine.step s) ≡ of s)
    → (budgets : List ℕ) (s : S) → of (after_calls (advanced machine) s budgets) ≡ of s
unfolding after_calls
calls-keep machine of kept [] s = refl
calls-keep machine of kept (b ∷ budgets) s =
    calls-keep machine of kept budgets (advanced machine s b) ∙ call-keeps machine of kept s b

module _ {S : Type 0} (machine : Machine S) (s : S) (all : ℕ) (goes : Goes machine s all) where
  -- ---- a call after k steps
  pub done-after : (k budget : ℕ) → k ≤ all → done_in machine (steps machine k s) budget ≡ min budget (all - k)
  done-after k budget few =
      done-some machine (steps machine k s) budget (goes.done k few) ∙ ap (min budget) (goes.left k few)

  pub progress : (k budget : ℕ) → k < all → 1 ≤ budget → 1 ≤ done_in machine (steps machine k s) budget
  progress k budget few some = omega (arith, done-after k budget (omega arith))

  pub advanced-after :
      (k budget : ℕ) → k ≤ all → advanced machine (steps machine k s) budget ≡ steps machine (k + min budget (all - k)) s
  unfolding advanced
  advanced-after k budget few =
      ap (λ j. steps machine j (steps machine k s)) (done-after k budget few)
      ∙ steps-add machine (min budget (all - k)) k s

  pub cost-after :
      (cost : S → ℕ) (k budget : ℕ) → k ≤ all
      → cost_of machine cost k s + cost_in machine cost (steps machine k s) budget ≡ cost_of machine cost (k + min budget (all - k)) s
  unfolding cost_in
  cost-after cost k budget few =
      ap (λ j. cost_of machine cost k s + cost_of machine cost j (steps machine k s)) (done-after k budget few)
      ∙ cost-add machine cost (min budget (all - k)) k s

  -- ---- the end: nothing changes any more
  pub finished-done : (budget : ℕ) → done_in machine (steps machine all s) budget ≡ 0
  finished-done budget = omega (arith, done-after all budget (omega arith))

  pub finished-same : (budget : ℕ) → advanced machine (steps machine all s) budget ≡ steps machine all s
  finished-same budget = unchanged machine (steps machine all s) budget (finished-done budget)

  -- ---- any cut of budgets
  calls-from :
      (bs : List ℕ) (k : ℕ) → k ≤ all
      → after_calls (advanced machine) (steps machine k s) bs ≡ steps machine (min (k + total bs) all) s
  unfolding after_calls total
  calls-from [] k few = ap (λ j. steps machine j s) (omega arith)
  calls-from (b ∷ bs) k few =
      rw (advanced-after k b few) (calls-from bs (k + min b (all - k)) (omega arith) ∙ ap (λ j. steps machine j s) (omega arith))

  report-from :
      (bs : List ℕ) (k : ℕ) → k ≤ all
      → labels_over (advanced machine) (done_in machine) (steps machine k s) bs ≡ min (total bs) (all - k)
  unfolding labels_over total
  report-from [] k few = omega arith
  report-from (b ∷ bs) k few =
      rw (done-after k b few, advanced-after k b few, report-from bs (k + min b (all - k)) (omega arith)) (omega arith)

  cost-from :
      (cost : S → ℕ) (bs : List ℕ) (k : ℕ) → k ≤ all
      → cost_of machine cost k s + labels_over (advanced machine) (cost_in machine cost) (steps machine k s) bs
      ≡ cost_of machine cost (min (k + total bs) all) s
  unfolding labels_over total
  cost-from cost [] k few =
      let e : min (k + 0) all ≡ k = omega arith in
      rw e (omega arith)
  cost-from cost (b ∷ bs) k few =
      let next : ℕ = k + min b (all - k) in
      let e : min (k + (b + total bs)) all ≡ min (next + total bs) all = omega arith in
      rw (e, ← cost-from cost bs next (omega arith), ← cost-after cost k b few, advanced-after k b few) (omega arith)

  read-after :
      (of : S → ℕ) (k budget : ℕ) → k ≤ all
      → readings machine of k s ++ read_in machine of (steps machine k s) budget ≡ readings machine of (k + min budget (all - k)) s
  unfolding read_in
  read-after of k budget few =
      ap (λ j. readings machine of k s ++ readings machine of j (steps machine k s)) (done-after k budget few)
      ∙ readings-add machine of (min budget (all - k)) k s

  read-from :
      (of : S → ℕ) (bs : List ℕ) (k : ℕ) → k ≤ all
      → readings machine of k s ++ lists_over (advanced machine) (read_in machine of) (steps machine k s) bs
      ≡ readings machine of (min (k + total bs) all) s
  unfolding lists_over total
  read-from of [] k few =
      let e : min (k + 0) all ≡ k = omega arith in
      rw e (append-nil (readings machine of k s))
  read-from of (b ∷ bs) k few =
      let next : ℕ = k + min b (all - k) in
      let e : min (k + (b + total bs)) all ≡ min (next + total bs) all = omega arith in
      rw (e, ← read-from of bs next (omega arith), ← read-after of k b few, advanced-after k b few)
      (sym (append_assoc (readings machine of k s) (read_in machine of (steps machine k s) b) _))

  from-none : (bs : List ℕ) → min (0 + total bs) all ≡ min (total bs) all
  from-none bs = omega arith

  -- the state, what the calls report, what they cost, and what is read in them
  pub calls-state : (bs : List ℕ) → after_calls (advanced machine) s bs ≡ steps machine (min (total bs) all) s
  unfolding steps
  calls-state bs = calls-from bs 0 (omega arith) ∙ ap (λ j. steps machine j s) (from-none bs)

  pub calls-report : (bs : List ℕ) → labels_over (advanced machine) (done_in machine) s bs ≡ min (total bs) all
  unfolding steps
  calls-report bs = report-from bs 0 (omega arith) ∙ omega arith

  pub calls-cost :
      (cost : S → ℕ) (bs : List ℕ)
      → labels_over (advanced machine) (cost_in machine cost) s bs ≡ cost_of machine cost (min (total bs) all) s
  unfolding steps cost_of
  calls-cost cost bs = omega (arith, cost-from cost bs 0 (omega arith), ap (λ j. cost_of machine cost j s) (from-none bs))

  pub calls-read :
      (of : S → ℕ) (bs : List ℕ) → lists_over (advanced machine) (read_in machine of) s bs ≡ readings machine of (min (total bs) all) s
  unfolding steps readings
  calls-read of bs = read-from of bs 0 (omega arith) ∙ ap (λ j. readings machine of j s) (from-none bs)

  -- they do what one call with their sum does
  pub calls-one : (bs : List ℕ) → after_calls (advanced machine) s bs ≡ advanced machine s (total bs)
  unfolding steps
  calls-one bs =
      let e : 0 + min (total bs) (all - 0) ≡ min (total bs) all = omega arith in
      calls-state bs ∙ sym (advanced-after 0 (total bs) (omega arith) ∙ ap (λ j. steps machine j s) e)

  -- none is refused, the next makes the smaller of its budget and what remains, and budgets that suffice end
  pub calls-done : (bs : List ℕ) → machine.row (after_calls (advanced machine) s bs) ≡ 0
  calls-done bs = rw (calls-state bs) (goes.done (min (total bs) all) (omega arith))

  pub calls-next :
      (bs : List ℕ) (budget : ℕ) → done_in machine (after_calls (advanced machine) s bs) budget ≡ min budget (all - min (total bs) all)
  calls-next bs budget = rw (calls-state bs) (done-after (min (total bs) all) budget (omega arith))

  pub calls-end : (bs : List ℕ) → all ≤ total bs → after_calls (advanced machine) s bs ≡ steps machine all s
  calls-end bs enough = calls-state bs ∙ ap (λ j. steps machine j s) (omega arith)
