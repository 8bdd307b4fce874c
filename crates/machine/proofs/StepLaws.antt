-- Steps one after the other, what they cost, and what one call does, for every machine and every state of it.
use mathlib.Core.Path.{◌≡◌, refl, sym, ap, ◌∙◌}
use mathlib.Core.Logic.{◌⊎◌, ⊎_elim}
use mathlib.Core.Bool.{Bool, true, false}
use mathlib.Core.List.{[], ◌∷◌, ◌++◌, append_assoc, append-nil}
use Prim.Native.Nat.{ℕ, zero, suc, ◌+◌, ◌≤◌, ◌<◌, min}
use native.Mathlib.Nat.{add-zero, add-suc}
use native.Mathlib.Numerals.{add-one}
use native.Mathlib.Omega.{arith}
use lib.ListN.{length, length-append}
use Rattle.base.specs.Choice.{pick}
use Rattle.base.specs.Row.{is_done}
use Rattle.machine.specs.Machines.{Machine, steps, done_in, advanced, cost_of, cost_in, readings}

module _ {S : Type 0} (machine : Machine S) where
  pub no_step : (s : S) → steps machine 0 s ≡ s
  unfolding steps
  no_step s = refl

  pub step-last : (k : ℕ) (s : S) → steps machine (k + 1) s ≡ machine.step (steps machine k s)
  unfolding steps
  step-last k s = rw (add-one k)

  -- k steps and then j more
  pub steps-add : (j k : ℕ) (s : S) → steps machine j (steps machine k s) ≡ steps machine (k + j) s
  unfolding steps
  steps-add zero k s = rw (add-zero k)
  steps-add (suc j) k s = rw (add-suc k j) (ap machine.step (steps-add j k s))

  -- steps that follow a sequence of states
  pub steps-reach :
      (at : ℕ → S) (all : ℕ) (s : S) → s ≡ at 0 → ((k : ℕ) → k < all → machine.step (at k) ≡ at (k + 1))
      → (k : ℕ) → k ≤ all → steps machine k s ≡ at k
  unfolding steps
  steps-reach at all s begins moves zero few = begins
  steps-reach at all s begins moves (suc k) few =
      ap machine.step (steps-reach at all s begins moves k (omega arith)) ∙ moves k few ∙ rw (add-one k)

  -- ---- what each step leaves as it is, steps and a call do
  module _ (of : S → ℕ) (kept : (s : S) → of (machine.step s) ≡ of s) where
    pub steps-keep : (k : ℕ) (s : S) → of (steps machine k s) ≡ of s
    unfolding steps
    steps-keep zero s = refl
    steps-keep (suc k) s = kept (steps machine k s) ∙ steps-keep k s

    pub call-keeps : (s : S) (budget : ℕ) → of (advanced machine s budget) ≡ of s
    unfolding advanced
    call-keeps s budget = steps-keep (done_in machine s budget) s

  -- ---- costs
  module _ (cost : S → ℕ) where
    pub cost-none : (s : S) → cost_of machine cost 0 s ≡ 0
    unfolding cost_of
    cost-none s = refl

    pub cost-last : (k : ℕ) (s : S) → cost_of machine cost (k + 1) s ≡ cost_of machine cost k s + cost (steps machine k s)
    unfolding cost_of
    cost-last k s = rw (add-one k)

    -- the same of a loop that adds up what each step costs
    pub cost-more :
        (k : ℕ) (s t : S) (spent more : ℕ) → steps machine k s ≡ t → spent ≡ cost_of machine cost k s → more ≡ cost t
        → spent + more ≡ cost_of machine cost (k + 1) s
    cost-more k s t spent more at e f = omega (arith, cost-last k s, e, f, ap cost at)

    pub cost-add :
        (j k : ℕ) (s : S) → cost_of machine cost k s + cost_of machine cost j (steps machine k s) ≡ cost_of machine cost (k + j) s
    unfolding cost_of
    cost-add zero k s = rw (add-zero k, add-zero (cost_of machine cost k s))
    cost-add (suc j) k s = rw (add-suc k j, ← cost-add j k s, steps-add j k s) (omega arith)

  -- ---- readings
  module _ (of : S → ℕ) where
    pub readings-add :
        (j k : ℕ) (s : S) → readings machine of k s ++ readings machine of j (steps machine k s) ≡ readings machine of (k + j) s
    unfolding readings
    readings-add zero k s = rw (add-zero k) (append-nil (readings machine of k s))
    readings-add (suc j) k s =
        rw (add-suc k j)
        (sym (append_assoc (readings machine of k s) (readings machine of j (steps machine k s)) (of (steps machine j (steps machine k s)) ∷ []))
        ∙ ap (λ l. l ++ of (steps machine j (steps machine k s)) ∷ []) (readings-add j k s)
        ∙ ap (λ t. readings machine of (k + j) s ++ of t ∷ []) (steps-add j k s))

    pub readings-length : (k : ℕ) (s : S) → length (readings machine of k s) ≡ k
    unfolding readings
    readings-length zero s = refl
    readings-length (suc k) s = rw (length-append, readings-length k s) (omega arith)

  -- where each step costs 1, the number of steps
  pub cost-one : (k : ℕ) (s : S) → cost_of machine (λ _. 1) k s ≡ k
  unfolding cost_of
  cost-one zero s = refl
  cost-one (suc k) s = omega (arith, cost-one k s)

  -- ---- one call
  module _ (s : S) (budget : ℕ) where
    pub done-some : machine.row s ≡ 0 → done_in machine s budget ≡ min budget (machine.remaining s)
    unfolding done_in
    done-some e = rw e

    pub done_refused : is_done (machine.row s) ≡ false → done_in machine s budget ≡ 0
    unfolding done_in
    done_refused e = rw e

    -- 'Budget 0 and a finished run change nothing': no step is made
    pub done-idle : (budget ≡ 0) ⊎ (machine.remaining s ≡ 0) → done_in machine s budget ≡ 0
    unfolding done_in
    done-idle idle = go (is_done (machine.row s))
      where
        go : (t : Bool) → pick t (min budget (machine.remaining s)) 0 ≡ 0
        go true = ⊎_elim (λ (e : budget ≡ 0). omega arith) (λ (e : machine.remaining s ≡ 0). omega arith) idle
        go false = refl

    -- a call that makes no step changes nothing and costs nothing
    pub unchanged : done_in machine s budget ≡ 0 → advanced machine s budget ≡ s
    unfolding advanced steps
    unchanged e = ap (λ j. steps machine j s) e

    pub costs-nothing : (cost : S → ℕ) → done_in machine s budget ≡ 0 → cost_in machine cost s budget ≡ 0
    unfolding cost_in cost_of
    costs-nothing cost e = ap (λ j. cost_of machine cost j s) e

    pub advanced-idle : (budget ≡ 0) ⊎ (machine.remaining s ≡ 0) → advanced machine s budget ≡ s
    advanced-idle idle = unchanged (done-idle idle)

    pub cost-idle : (cost : S → ℕ) → (budget ≡ 0) ⊎ (machine.remaining s ≡ 0) → cost_in machine cost s budget ≡ 0
    cost-idle cost idle = costs-nothing cost (done-idle idle)

    pub advanced-refused : is_done (machine.row s) ≡ false → advanced machine s budget ≡ s
    advanced-refused e = unchanged (done_refused e)

    pub cost-refused : (cost : S → ℕ) → is_done (machine.row s) ≡ false → cost_in machine cost s budget ≡ 0
    cost-refused cost e = costs-nothing cost (done_refused e)

    -- a call that makes k steps
    pub advanced-by : (k : ℕ) → k ≡ done_in machine s budget → steps machine k s ≡ advanced machine s budget
    unfolding advanced
    advanced-by k e = rw e

    pub cost-by : (cost : S → ℕ) (k spent : ℕ) → k ≡ done_in machine s budget → spent ≡ cost_of machine cost k s → spent ≡ cost_in machine cost s budget
    unfolding cost_in
    cost-by cost k spent e f = rw (← e) f
