-- A number in turn: refused, bad, or followed by the next.
use mathlib.Core.Path.{◌≡◌, refl}
use mathlib.Core.Bool.{Bool, true, false}
use Prim.Native.Nat.{ℕ, ◌≤◌}
use native.Mathlib.Omega.{arith}
use Rattle.groups.specs.Reading.{Answer, value, refused, checked}

module _ {A : Type 0} (refuse : ℕ → A) (number : Answer) (bad : ℕ → Bool) (refusal : ℕ) (next : ℕ → ℕ → A) where
  pub checked_refused : (r : ℕ) → number ≡ refused r → refuse r ≡ checked refuse number bad refusal next
  checked_refused r e = rw e

  pub checked-bad : (x end : ℕ) → number ≡ value x end → bad x ≡ true → refuse refusal ≡ checked refuse number bad refusal next
  checked-bad x end e b = rw (e, b)

  pub checked-next : (x end : ℕ) → number ≡ value x end → bad x ≡ false → next x end ≡ checked refuse number bad refusal next
  checked-next x end e b = rw (e, b)

-- An answer, whatever it is, came by one of the three ways.
module _ {A G : Type 0} (refuse : ℕ → A) (bad : ℕ → Bool) (refusal : ℕ) (next : ℕ → ℕ → A) (answer : A) where
  pub checked-by : (number : Answer) → checked refuse number bad refusal next ≡ answer
      → ((r : ℕ) → number ≡ refused r → refuse r ≡ answer → G)
      → (refuse refusal ≡ answer → G)
      → ((x end : ℕ) → number ≡ value x end → bad x ≡ false → next x end ≡ answer → G)
      → G
  checked-by (refused r) e not-read is-bad goes_on = not-read r refl e
  checked-by (value x end) e not-read is-bad goes_on = cases (bad x) refl
    where
      cases : (b : Bool) → bad x ≡ b → G
      cases true b = is-bad (rw b at e)
      cases false b = goes_on x end refl b (rw b at e)

-- a number that was not refused, where the answer is no refusal
pub record Passed {A : Type 0} (number : Answer) (bad : ℕ → Bool) (next : ℕ → ℕ → A) (answer : A) : Type 0 where
  pub x : ℕ
  pub end : ℕ
  pub read : number ≡ value x end
  pub good : bad x ≡ false
  pub after : next x end ≡ answer

pub passed : {A : Type 0} (refuse : ℕ → A) (number : Answer) (bad : ℕ → Bool) (refusal : ℕ) (next : ℕ → ℕ → A) (answer : A)
    → ((r : ℕ) → refuse r ≡ answer → ⊥) → checked refuse number bad refusal next ≡ answer → Passed number bad next answer
passed refuse number bad refusal next answer never e =
    checked-by refuse bad refusal next answer number e (λ r read f. absurd (never r f)) (λ f. absurd (never refusal f))
    (λ x end read good after. record { x = x; end = end; read = read; good = good; after = after })

-- a refusal has a number that is not 0, where those of the numbers read have
module _ {A : Type 0} (refuse : ℕ → A) (same : (k r : ℕ) → refuse k ≡ refuse r → k ≡ r) where
  pub refused-some : (number : Answer) (bad : ℕ → Bool) (refusal : ℕ) (next : ℕ → ℕ → A) (r : ℕ)
      → ((k : ℕ) → number ≡ refused k → 1 ≤ k) → 1 ≤ refusal → ((x end : ℕ) → next x end ≡ refuse r → 1 ≤ r)
      → checked refuse number bad refusal next ≡ refuse r → 1 ≤ r
  refused-some number bad refusal next r some given rest e =
      checked-by refuse bad refusal next (refuse r) number e (λ k read f. omega (arith, some k read, same k r f))
      (λ f. omega (arith, given, same refusal r f)) (λ x end read good after. rest x end after)
