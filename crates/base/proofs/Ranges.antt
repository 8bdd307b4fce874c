-- The tests of rows: a number outside a range, and in it; a memory level over its limit.
use mathlib.Core.Path.{◌≡◌, refl, sym}
use mathlib.Core.Bool.{Bool, true, false}
use Prim.Native.Nat.{ℕ, ◌≤◌, ◌<◌, min}
use native.Mathlib.Omega.{arith}
use borrow.Author.Tests.{le-leb, lt-leb, leb-true, ltb-true, ltb-false, lt-ltb, le-ltb, not-false}
use lib.Dec.{ltb, leb}
use Rattle.base.specs.Choice.{both}
use Rattle.base.specs.Limits.{max_depth, max_memory}
use Rattle.base.proofs.ChoiceLaws.{both_false, both_first, both-second}
use Rattle.base.specs.Row.{outside, memory_over, either}

module _ (low high x : ℕ) where
  pub below-range : x < low → outside low high x ≡ true
  below-range h = rw (lt-leb low x h)

  pub above-range : high < x → outside low high x ≡ true
  above-range h = rw (lt-leb x high h, both_false (leb low x))

  pub in-range : low ≤ x → x ≤ high → outside low high x ≡ false
  in-range l h = rw (le-leb low x l, le-leb x high h)

  pub within : (low ≤ x) × (x ≤ high) → outside low high x ≡ false
  within h = in-range h.0 h.1

  pub range-of : outside low high x ≡ false → (low ≤ x) × (x ≤ high)
  range-of e =
      let t : both (leb low x) (leb x high) ≡ true = not-false (both (leb low x) (leb x high)) e in
      (leb-true low x (both_first (leb low x) (leb x high) t), leb-true x high (both-second (leb low x) (leb x high) t))

-- a depth that is allowed
pub depth-some : (n : ℕ) → outside 1 max_depth n ≡ false → 1 ≤ n
depth-some n e = (range-of 1 max_depth n e).0

pub depth-inside : (n : ℕ) → outside 1 max_depth n ≡ false → n ≤ max_depth
depth-inside n e = (range-of 1 max_depth n e).1

-- m over min(n, max_memory)
pub over-depth : (n m : ℕ) → n < m → true ≡ memory_over n m
over-depth n m h = sym (lt-ltb (min n max_memory) m (omega arith))

pub over-memory : (n m : ℕ) → m ≤ n → ltb max_memory m ≡ memory_over n m
over-memory n m h = by (ltb max_memory m) refl
  where
    by : (t : Bool) → ltb max_memory m ≡ t → t ≡ memory_over n m
    by true e = sym (lt-ltb (min n max_memory) m (omega (arith, ltb-true max_memory m e)))
    by false e = sym (le-ltb (min n max_memory) m (omega (arith, ltb-false max_memory m e)))

pub memory-below : (n m : ℕ) → memory_over n m ≡ false → m ≤ n
memory-below n m e = omega (arith, ltb-false (min n max_memory) m e)

pub memory-inside : (n m : ℕ) → memory_over n m ≡ false → m ≤ max_memory
memory-inside n m e = omega (arith, ltb-false (min n max_memory) m e)

-- neither holds
pub neither : (a b : Bool) → either a b ≡ false → (a ≡ false) × (b ≡ false)
neither true b e = (e, cc)
neither false b e = (refl, e)
