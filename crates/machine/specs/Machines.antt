-- Document 01, 'Runs in lent memory': work that is done a step at a time, in calls with budgets. A run, an opening, the
-- writing of a file and a unit of several runs (W-208) are such machines.
use Rattle.std.specs.Prelude.{◌≡◌, ℕ, zero, suc, ◌+◌, ◌-◌, ◌≤◌, min, List, [], ◌∷◌, ◌++◌}
use Rattle.base.specs.Choice.{pick}
use Rattle.base.specs.Row.{is_done}

-- the number that a call's row of checks gives a state, the steps that remain, and one step
pub record Machine (S : Type 0) : Type 0 where
  pub row : S → ℕ
  pub remaining : S → ℕ
  pub step : S → S

unfoldable pub steps : {S : Type 0} → Machine S → ℕ → S → S
steps machine zero s = s
steps machine (suc k) s = machine.step (steps machine k s)

-- 'A call with a budget labels exactly the smaller of the budget and what remains'; a refused one does nothing.
unfoldable pub done_in : {S : Type 0} → Machine S → S → ℕ → ℕ
done_in machine s budget = pick (is_done (machine.row s)) (min budget (machine.remaining s)) 0

-- the state after a call
unfoldable pub advanced : {S : Type 0} → Machine S → S → ℕ → S
advanced machine s budget = steps machine (done_in machine s budget) s

-- what k steps cost, by what a step costs at each state: one machine takes any number of costs
unfoldable pub cost_of : {S : Type 0} → Machine S → (S → ℕ) → ℕ → S → ℕ
cost_of machine cost zero s = 0
cost_of machine cost (suc k) s = cost_of machine cost k s + cost (steps machine k s)

-- what a call costs
unfoldable pub cost_in : {S : Type 0} → Machine S → (S → ℕ) → S → ℕ → ℕ
cost_in machine cost s budget = cost_of machine cost (done_in machine s budget) s

-- a number read from each state that one of k steps is made from, in their order, and so of the steps of a call
unfoldable pub readings : {S : Type 0} → Machine S → (S → ℕ) → ℕ → S → List ℕ
readings machine of zero s = []
readings machine of (suc k) s = readings machine of k s ++ of (steps machine k s) ∷ []

unfoldable pub read_in : {S : Type 0} → Machine S → (S → ℕ) → S → ℕ → List ℕ
read_in machine of s budget = readings machine of (done_in machine s budget) s

-- From this state on `all` steps can be made: none of their calls is refused, and what remains falls by one with each.
pub record Goes {S : Type 0} (machine : Machine S) (s : S) (all : ℕ) : Type 0 where
  pub done : (k : ℕ) → k ≤ all → machine.row (steps machine k s) ≡ 0
  pub left : (k : ℕ) → k ≤ all → machine.remaining (steps machine k s) ≡ all - k
