-- Codes written one after the other, and climbs of them.
use mathlib.Core.Path.{◌≡◌, sym, ◌∙◌}
use Prim.Native.Nat.{ℕ, zero, suc, ◌+◌, ◌/◌, ◌≤◌, ◌<◌}
use native.Mathlib.Omega.{arith}
use mathlib.Core.Bool.{Bool, true, false}
use lib.Dec.{eqb}
use Rattle.base.specs.Choice.{pick}
use mathlib.Core.Logic.{◌⊎◌, inl, inr}
use mathlib.Core.List.{List, [], ◌∷◌, ◌++◌}
use lib.ListN.{length, set, drop, length-set}
use Rattle.base.specs.Bytes.{written}
use Rattle.base.proofs.WrittenLaws.{written_none, written_one}
use Rattle.chain_theory.specs.Planning.{climb, next_code, plan_from}
use Rattle.chain_theory.proofs.Plan.{climb-met}
use Rattle.chain_theory.proofs.Turns.{climb-out, plan_from-turn, next-leaf}

-- a climb ends at its other code, or where no code may come any more
pub climb-ended : (left from other : ℕ) → (left ≡ 0) ⊎ (from ≡ other) → climb left from other ≡ []
climb-ended left from other (inl e) = rw e (climb-out from other)
climb-ended left from other (inr e) = climb-met left from other e

-- a list with the codes `left` still to be written from a place on, so that it holds the whole plan
pub record Writing (before list : List ℕ) (at : ℕ) (left whole : List ℕ) : Type 0 where
  pub wanted : written list at left ≡ written before 0 whole
  pub room : at + length left ≡ length whole
  pub long : length list ≡ length before

pub written-step : (before list : List ℕ) (at x : ℕ) (left whole : List ℕ) → length whole ≤ length before
    → Writing before list at (x ∷ left) whole → Writing before (set list at x) (at + 1) left whole
written-step before list at x left whole fits w =
    record {
      wanted = sym (written_one list at x left (omega (arith, w.room, w.long))) ∙ w.wanted;
      room = omega (arith, w.room);
      long = length-set list at x ∙ w.long;
    }

pub written-all : (before list : List ℕ) (at : ℕ) (whole : List ℕ) → Writing before list at [] whole → list ≡ written before 0 whole
written-all before list at whole w = sym (written_none list at) ∙ w.wanted

pub plan-turn : (n : ℕ) (xs : List ℕ) (i code next : ℕ) → i < length xs → code ≡ next_code n (drop i xs) → next ≡ next_code n (drop (i + 1) xs)
    → plan_from n (drop i xs) ≡ climb (n + 1) code next ++ plan_from n (drop (i + 1) xs)
plan-turn n xs i code next h e f = rw (e, f, next-leaf n xs i h) (plan_from-turn n xs i h)

-- a climb writes no more codes than it may
pub climb-few : (left from other : ℕ) → length (climb left from other) ≤ left
unfolding climb
climb-few zero from other = omega arith
climb-few (suc left) from other = few (eqb from other) (climb-few left (from / 2) (other / 2))
  where
    few : (b : Bool) → length (climb left (from / 2) (other / 2)) ≤ left → length (pick b [] (from ∷ climb left (from / 2) (other / 2))) ≤ suc left
    few true h = omega arith
    few false h = omega arith
