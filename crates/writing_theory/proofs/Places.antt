-- Where k labels lead: which opening is under way, with how many labels made.
use mathlib.Core.Path.{◌≡◌}
use mathlib.Core.Logic.{⊎_elim}
use Prim.Native.Nat.{ℕ, suc, ◌+◌, ◌-◌, ◌*◌, ◌/◌, ◌≤◌, ◌<◌, min}
use native.Mathlib.Nat.{add-mul, mul-zero, suc-mul, mul-le-mul_right, div-mul-le_self, lt-div-mul-add}
use native.Mathlib.Omega.{arith}
use borrow.Author.Tests.{eq-eqb, ne_eqb}
use Rattle.base.proofs.ChoiceLaws.{lt-or-le}
use Rattle.opening.specs.Rows.{nodes_anew}
use Rattle.writing_theory.specs.Filed.{labels_anew, openings_done}

-- q openings are done, and of the next not all labels are made, unless it is the last
pub record Place (n m t k q : ℕ) : Type 0 where
  pub inside : q < t
  pub begun : q * nodes_anew n m ≤ k
  pub under : k - q * nodes_anew n m < nodes_anew n m + (q + 2 - t)

module _ (n m t : ℕ) (some : 1 ≤ t) where
  -- all labels: those before the last opening, and its own
  pub last-size : labels_anew n m t ≡ (t - 1) * nodes_anew n m + nodes_anew n m
  last-size = let e : suc (t - 1) ≡ t = omega arith in rw e at (suc-mul (t - 1) (nodes_anew n m))

  place-last : (k : ℕ) → k ≡ labels_anew n m t → Place n m t k (t - 1)
  place-last k all = record { inside = omega arith; begun = omega (arith, last-size); under = omega (arith, last-size) }

  place-before : (k : ℕ) → 0 < nodes_anew n m → k / nodes_anew n m < t → Place n m t k (k / nodes_anew n m)
  place-before k more few =
      record {
        inside = few;
        begun = div-mul-le_self k (nodes_anew n m);
        under = omega (arith, lt-div-mul-add {a = k} {b = nodes_anew n m} more);
      }

  place-some : (k : ℕ) → k ≤ labels_anew n m t → 0 < nodes_anew n m → Place n m t k (min (k / nodes_anew n m) (t - 1))
  place-some k small more =
      ⊎_elim
      (λ before.
      let e : min (k / nodes_anew n m) (t - 1) ≡ k / nodes_anew n m = omega arith in
      rw e (place-before k more before))
      (λ past.
      let e : min (k / nodes_anew n m) (t - 1) ≡ t - 1 = omega arith in
      rw e
      (place-last k
      (omega (arith, mul-le-mul_right {m = t} {n = k / nodes_anew n m} (nodes_anew n m) past, div-mul-le_self k (nodes_anew n m)))))
      (lt-or-le (k / nodes_anew n m) t)

  pub place_found : (k : ℕ) → k ≤ labels_anew n m t → Place n m t k (openings_done n m t k)
  unfolding openings_done
  place_found k small =
      ⊎_elim
      (λ more. rw (ne_eqb (nodes_anew n m) 0 (omega arith)) (place-some k small more))
      (λ none.
      let empty : nodes_anew n m ≡ 0 = omega arith in
      let all : labels_anew n m t ≡ 0 = rw empty (mul-zero t) in
      rw (eq-eqb (nodes_anew n m) 0 empty) (place-last k (omega arith)))
      (lt-or-le 0 (nodes_anew n m))

-- the labels behind a place
pub behind-place :
    (t q r anew : ℕ) → q < t → r ≤ anew → (t - (q + 1)) * anew + (anew - r) ≡ t * anew - (q * anew + r)
behind-place t q r anew few small =
    let rest : ℕ = t - (q + 1) in
    let e : rest + (q + 1) ≡ t = omega arith in
    let all : t * anew ≡ rest * anew + (q + 1) * anew = rw e at (add-mul rest (q + 1) anew) in
    omega (arith, add-mul q 1 anew)
