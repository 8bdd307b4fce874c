-- Turns taken in order by so many parties, named from 1. For how a unit's labels are shared out only two things matter: who was served
-- last, and who may be served.
use Rattle.std.specs.Prelude.{◌≡◌, ℕ, zero, suc, ◌+◌, ◌≤◌, ◌<◌, Bool, true, false, eqb}
use Rattle.base.specs.Choice.{pick}
use Rattle.unit.specs.Turns.{first_after}

-- `last k` was served last before turn k + 1, `going k i` says whether i may be served then; there are `all` turns
pub record TakesTurns (count all : ℕ) (last : ℕ → ℕ) (going : ℕ → ℕ → Bool) : Type 0 where
  pub begins : (1 ≤ last 0) × (last 0 ≤ count)
  pub next : (k : ℕ) → k < all → last (k + 1) ≡ first_after (going k) count count (last k)
  pub found : (k : ℕ) → k < all → 1 ≤ last (k + 1)
  pub others : (k i : ℕ) → k < all → (1 ≤ i) × (i ≤ count) → (i ≡ last (k + 1) → ⊥) → going (k + 1) i ≡ going k i
  pub stays : (k i : ℕ) → k < all → (1 ≤ i) × (i ≤ count) → going (k + 1) i ≡ true → going k i ≡ true
  pub ends : (i : ℕ) → (1 ≤ i) × (i ≤ count) → going all i ≡ false

-- how many of the first k turns i got
unfoldable pub taken : (ℕ → ℕ) → ℕ → ℕ → ℕ
taken last i zero = 0
taken last i (suc k) = taken last i k + pick (eqb (last (suc k)) i) 1 0
