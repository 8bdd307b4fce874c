-- The first pair: turns of the loops that look for it, where it lies, and that it depends on its test within the range alone.
use mathlib.Core.Path.{◌≡◌, refl}
use Prim.Native.Nat.{ℕ, zero, suc, ◌+◌, ◌-◌, ◌≤◌, ◌<◌}
use native.Mathlib.Omega.{arith}
use mathlib.Core.Bool.{Bool, true, false}
use Rattle.base.specs.Choice.{pick}
use Rattle.compare.specs.declared.Pair.{Pair}
use Rattle.std.specs.Prelude.{Option, Some, None, IfSome}
use Rattle.compare.specs.FirstPair.{disagree_at_level, levels_from, or_else, seconds_from, firsts_from, first_pair, Lies}

-- ---- turns
module _ (d : ℕ → ℕ → ℕ → Bool) where
  module _ (i j : ℕ) where
    pub level-found : (n l : ℕ) → l < n → d i j l ≡ true → levels_from d i j l (n - l) ≡ disagree_at_level i j l
    unfolding levels_from
    level-found n l h e = let more : n - l ≡ suc (n - (l + 1)) = omega arith in rw (more, e)

    pub level-passed : (n l : ℕ) → l < n → d i j l ≡ false → levels_from d i j l (n - l) ≡ levels_from d i j (l + 1) (n - (l + 1))
    unfolding levels_from
    level-passed n l h e = let more : n - l ≡ suc (n - (l + 1)) = omega arith in rw (more, e)

    pub levels-none : (l left : ℕ) → ((k : ℕ) → l ≤ k → k < l + left → d i j k ≡ false) → levels_from d i j l left ≡ None
    unfolding levels_from
    levels-none l zero none = refl
    levels-none l (suc left) none =
        rw (none l (omega arith) (omega arith)) (levels-none (l + 1) left (λ k a b. none k (omega arith) (omega arith)))

    pub levels-ended : (n l : ℕ) → n ≤ l → levels_from d i j l (n - l) ≡ None
    unfolding levels_from
    levels-ended n l h = let none : n - l ≡ 0 = omega arith in rw none

  module _ (n i : ℕ) where
    pub second-found : (t j : ℕ) (p : Option Pair) → j ≤ t → levels_from d i j 0 n ≡ p
        → seconds_from d n i j (t + 1 - j) ≡ or_else p (seconds_from d n i (j + 1) (t + 1 - (j + 1)))
    unfolding seconds_from
    second-found t j p h e = let more : t + 1 - j ≡ suc (t + 1 - (j + 1)) = omega arith in rw (more, e)

    pub seconds-ended : (t j : ℕ) → t < j → seconds_from d n i j (t + 1 - j) ≡ None
    unfolding seconds_from
    seconds-ended t j h = let none : t + 1 - j ≡ 0 = omega arith in rw none

  module _ (n : ℕ) where
    pub first_found : (t i : ℕ) (p : Option Pair) → i ≤ t → seconds_from d n i (i + 1) (t - i) ≡ p
        → firsts_from d n i (t + 1 - i) ≡ or_else p (firsts_from d n (i + 1) (t + 1 - (i + 1)))
    unfolding firsts_from
    first_found t i p h e =
        let more : t + 1 - i ≡ suc (t - i) = omega arith in
        let left : t + 1 - (i + 1) ≡ t - i = omega arith in
        rw (more, left, e)

    pub firsts-ended : (t i : ℕ) → t < i → firsts_from d n i (t + 1 - i) ≡ None
    unfolding firsts_from
    firsts-ended t i h = let none : t + 1 - i ≡ 0 = omega arith in rw none

    pub firsts-all : (t : ℕ) → first_pair d n t ≡ firsts_from d n 1 (t + 1 - 1)
    unfolding first_pair
    firsts-all t = let all : t + 1 - 1 ≡ t = omega arith in rw all

-- ---- where it lies
weaker : (o : Option Pair) (P Q : Pair → Type 0) → ((p : Pair) → P p → Q p) → IfSome o P → IfSome o Q
weaker None P Q f h = tt
weaker (Some p) P Q f h = f p h

or_by : (o next : Option Pair) (P : Pair → Type 0) → IfSome o P → IfSome next P → IfSome (or_else o next) P
or_by None next P f g = g
or_by (Some p) next P f g = f

module _ (d : ℕ → ℕ → ℕ → Bool) where
  levels-lie : (i j l left : ℕ) → IfSome (levels_from d i j l left) (λ p. (p.first ≡ i) × (p.second ≡ j) × (p.level < l + left))
  unfolding levels_from
  levels-lie i j l zero = tt
  levels-lie i j l (suc left) =
      by (d i j l)
      (weaker (levels_from d i j (l + 1) left) (λ p. (p.first ≡ i) × (p.second ≡ j) × (p.level < l + 1 + left))
      (λ p. (p.first ≡ i) × (p.second ≡ j) × (p.level < l + suc left)) (λ p r. (r.0, r.1, omega (arith, r.2))) (levels-lie i j (l + 1) left))
    where
      by : (v : Bool) → IfSome (levels_from d i j (l + 1) left) (λ p. (p.first ≡ i) × (p.second ≡ j) × (p.level < l + suc left))
          → IfSome (pick v (disagree_at_level i j l) (levels_from d i j (l + 1) left)) (λ p. (p.first ≡ i) × (p.second ≡ j) × (p.level < l + suc left))
      by true rest = (refl, refl, omega arith)
      by false rest = rest

  seconds-lie : (n i j left : ℕ) → IfSome (seconds_from d n i j left) (λ p. (p.first ≡ i) × (j ≤ p.second) × (p.second < j + left) × (p.level < n))
  unfolding seconds_from
  seconds-lie n i j zero = tt
  seconds-lie n i j (suc left) =
      or_by (levels_from d i j 0 n) (seconds_from d n i (j + 1) left) (λ p. (p.first ≡ i) × (j ≤ p.second) × (p.second < j + suc left) × (p.level < n))
      (weaker (levels_from d i j 0 n) (λ p. (p.first ≡ i) × (p.second ≡ j) × (p.level < 0 + n))
      (λ p. (p.first ≡ i) × (j ≤ p.second) × (p.second < j + suc left) × (p.level < n))
      (λ p r. (r.0, omega (arith, r.1), omega (arith, r.1), omega (arith, r.2))) (levels-lie i j 0 n))
      (weaker (seconds_from d n i (j + 1) left) (λ p. (p.first ≡ i) × (j + 1 ≤ p.second) × (p.second < j + 1 + left) × (p.level < n))
      (λ p. (p.first ≡ i) × (j ≤ p.second) × (p.second < j + suc left) × (p.level < n))
      (λ p r. (r.0, omega (arith, r.1), omega (arith, r.2), r.3)) (seconds-lie n i (j + 1) left))

  firsts-lie : (n i left : ℕ) → IfSome (firsts_from d n i left) (λ p. (i ≤ p.first) × (p.first < p.second) × (p.second < i + left) × (p.level < n))
  unfolding firsts_from
  firsts-lie n i zero = tt
  firsts-lie n i (suc left) =
      or_by (seconds_from d n i (i + 1) left) (firsts_from d n (i + 1) left)
      (λ p. (i ≤ p.first) × (p.first < p.second) × (p.second < i + suc left) × (p.level < n))
      (weaker (seconds_from d n i (i + 1) left) (λ p. (p.first ≡ i) × (i + 1 ≤ p.second) × (p.second < i + 1 + left) × (p.level < n))
      (λ p. (i ≤ p.first) × (p.first < p.second) × (p.second < i + suc left) × (p.level < n))
      (λ p r. (omega (arith, r.0), omega (arith, r.0, r.1), omega (arith, r.2), r.3)) (seconds-lie n i (i + 1) left))
      (weaker (firsts_from d n (i + 1) left) (λ p. (i + 1 ≤ p.first) × (p.first < p.second) × (p.second < i + 1 + left) × (p.level < n))
      (λ p. (i ≤ p.first) × (p.first < p.second) × (p.second < i + suc left) × (p.level < n))
      (λ p r. (omega (arith, r.0), r.1, omega (arith, r.2), r.3)) (firsts-lie n (i + 1) left))

  pub pair-lies : (n t : ℕ) → IfSome (first_pair d n t) (Lies n t)
  unfolding first_pair
  pair-lies n t =
      weaker (firsts_from d n 1 t) (λ p. (1 ≤ p.first) × (p.first < p.second) × (p.second < 1 + t) × (p.level < n)) (Lies n t)
      (λ p r. record { first = r.0; order = r.1; second = omega (arith, r.2); level = r.3 }) (firsts-lie n 1 t)

-- ---- tests that are the same within the range
module _ (d e : ℕ → ℕ → ℕ → Bool) (n t : ℕ) (same : (i j l : ℕ) → 1 ≤ i → i < j → j ≤ t → l < n → d i j l ≡ e i j l) where
  levels-same : (i j l left : ℕ) → 1 ≤ i → i < j → j ≤ t → l + left ≤ n → levels_from d i j l left ≡ levels_from e i j l left
  unfolding levels_from
  levels-same i j l zero a b c h = refl
  levels-same i j l (suc left) a b c h =
      rw (same i j l a b c (omega arith), levels-same i j (l + 1) left a b c (omega arith))

  seconds-same : (i j left : ℕ) → 1 ≤ i → i < j → j + left ≤ t + 1 → seconds_from d n i j left ≡ seconds_from e n i j left
  unfolding seconds_from
  seconds-same i j zero a b h = refl
  seconds-same i j (suc left) a b h =
      rw (levels-same i j 0 n a b (omega arith) (omega arith), seconds-same i (j + 1) left a (omega arith) (omega arith))

  firsts_same : (i left : ℕ) → 1 ≤ i → i + left ≤ t + 1 → firsts_from d n i left ≡ firsts_from e n i left
  unfolding firsts_from
  firsts_same i zero a h = refl
  firsts_same i (suc left) a h =
      rw (seconds-same i (i + 1) left a (omega arith) (omega arith), firsts_same (i + 1) left (omega arith) (omega arith))

  pub pair_same : first_pair d n t ≡ first_pair e n t
  unfolding first_pair
  pair_same = firsts_same 1 t (omega arith) (omega arith)
