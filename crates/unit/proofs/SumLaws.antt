-- Numbers for each of 1 to k, added up.
use mathlib.Core.Path.{◌≡◌, refl, ap}
use mathlib.Core.Logic.{◌⊎◌, inl, inr}
use Prim.Native.Nat.{ℕ, zero, suc, ◌+◌, ◌-◌, ◌≤◌, ◌<◌}
use native.Mathlib.Numerals.{add-one}
use native.Mathlib.Omega.{arith}
use Rattle.base.proofs.ChoiceLaws.{lt-or-le}
use Rattle.unit.specs.Runs.{sum_to}

module _ (of : ℕ → ℕ) where
  pub sum-empty : sum_to of 0 ≡ 0
  unfolding sum_to
  sum-empty = refl

  pub sum-last : (k : ℕ) → sum_to of (k + 1) ≡ sum_to of k + of (k + 1)
  unfolding sum_to
  sum-last k = rw (add-one k)

  -- with run i: what stands before run i + 1
  pub sum-next : (i : ℕ) → 1 ≤ i → sum_to of i ≡ sum_to of (i - 1) + of i
  sum-next i some = let e : i - 1 + 1 ≡ i = omega arith in rw e at (sum-last (i - 1))

  -- more numbers give no smaller sum
  sum_more : (j k : ℕ) → sum_to of j ≤ sum_to of (j + k)
  unfolding sum_to
  sum_more j zero = let e : j + zero ≡ j = omega arith in rw e (omega arith)
  sum_more j (suc k) = let e : j + suc k ≡ suc (j + k) = omega arith in rw e (omega (arith, sum_more j k))

  pub sum-grows : (j k : ℕ) → j ≤ k → sum_to of j ≤ sum_to of k
  sum-grows j k few = let e : j + (k - j) ≡ k = omega arith in rw e at (sum_more j (k - j))

  -- a number is at most the sum
  pub term_fits : (k i : ℕ) → 1 ≤ i → i ≤ k → of i ≤ sum_to of k
  term_fits k i some few = omega (arith, sum-grows i k few, sum-next i some)

  -- no number, no sum; and a sum has a number that is not 0
  pub none-sum : (k : ℕ) → ((i : ℕ) → 1 ≤ i → i ≤ k → of i ≡ 0) → sum_to of k ≡ 0
  unfolding sum_to
  none-sum zero none = refl
  none-sum (suc k) none =
      omega (arith, none-sum k (λ i some few. none i some (omega arith)), none (suc k) (omega arith) (omega arith))

  pub some-term :
      (k : ℕ) → 0 < sum_to of k → (P : Type 0) → ((i : ℕ) → 1 ≤ i → i ≤ k → 0 < of i → P) → P
  unfolding sum_to
  some-term zero some P found = absurd (omega arith)
  some-term (suc k) some P found = cases (lt-or-le 0 (sum_to of k)) (λ more. some-term k more P (λ i a b. found i a (omega arith)))
    where
      cases : (0 < sum_to of k) ⊎ (sum_to of k ≤ 0) → (0 < sum_to of k → P) → P
      cases (inl more) before = before more
      cases (inr less) before = found (suc k) (omega arith) (omega arith) (omega arith)

module _ (of of' : ℕ → ℕ) where
  pub sum_to-same : (k : ℕ) → ((i : ℕ) → 1 ≤ i → i ≤ k → of i ≡ of' i) → sum_to of k ≡ sum_to of' k
  unfolding sum_to
  sum_to-same zero same = refl
  sum_to-same (suc k) same =
      omega (arith, sum_to-same k (λ i some few. same i some (omega arith)), same (suc k) (omega arith) (omega arith))

  -- numbers that differ at i alone
  pub sum-change :
      (k i : ℕ) → 1 ≤ i → i ≤ k → ((j : ℕ) → 1 ≤ j → j ≤ k → (j ≡ i → ⊥) → of j ≡ of' j) → sum_to of k + of' i ≡ sum_to of' k + of i
  unfolding sum_to
  sum-change zero i some few same = absurd (omega arith)
  sum-change (suc k) i some few same =
      cases (lt-or-le k i) (λ less. sum-change k i some less (λ j a b differ. same j a (omega arith) differ))
    where
      cases : (k < i) ⊎ (i ≤ k) → (i ≤ k → sum_to of k + of' i ≡ sum_to of' k + of i)
          → sum_to of k + of (suc k) + of' i ≡ sum_to of' k + of' (suc k) + of i
      cases (inl last) before =
          let e : i ≡ suc k = omega arith in
          omega (
            arith,
            sum_to-same k (λ j a b. same j a (omega arith) (λ (f : j ≡ i). omega arith)),
            ap of e,
            ap of' e,
          )
      cases (inr less) before = omega (arith, before less, same (suc k) (omega arith) (omega arith) (λ (f : suc k ≡ i). omega arith))

  -- the same where the second is one less there
  pub sum_to-less :
      (k i : ℕ) → 1 ≤ i → i ≤ k → of i ≡ of' i + 1 → ((j : ℕ) → 1 ≤ j → j ≤ k → (j ≡ i → ⊥) → of j ≡ of' j)
      → sum_to of k ≡ sum_to of' k + 1
  sum_to-less k i some few less same = omega (arith, sum-change k i some few same)
