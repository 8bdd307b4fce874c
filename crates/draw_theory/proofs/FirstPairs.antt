-- The search for the first pair: it finds none just when no pair disagrees at any of n levels, else the first and smallest.
use mathlib.Core.Path.{◌≡◌, refl, ap}
use mathlib.Core.Logic.{⊎_elim}
use Prim.Native.Nat.{ℕ, zero, suc, ◌+◌, ◌≤◌, ◌<◌}
use native.Mathlib.Omega.{arith}
use mathlib.Core.Bool.{Bool, true, false}
use Rattle.base.specs.Choice.{pick}
use Rattle.base.proofs.ChoiceLaws.{lt-or-le}
use Rattle.compare.specs.declared.Pair.{Pair}
use Rattle.std.specs.Prelude.{Option, None}
use Rattle.compare.specs.FirstPair.{disagree_at_level, levels_from, or_else, seconds_from, firsts_from, first_pair}

module _ (disagree : ℕ → ℕ → ℕ → Bool) where
  -- ---- levels
  -- no disagreement of a pair on the levels from one up to before another
  abbrev NoneBetween : ℕ → ℕ → ℕ → ℕ → Type 0
  NoneBetween i j from to = (k : ℕ) → from ≤ k → k < to → disagree i j k ≡ false

  data Levels (i j l left : ℕ) : Option Pair → Type 0 where
    no_level : NoneBetween i j l (l + left) → Levels i j l left None
    at_level : (k : ℕ) → k < l + left → disagree i j k ≡ true → NoneBetween i j l k → Levels i j l left (disagree_at_level i j k)

  between_more : (i j l to : ℕ) → disagree i j l ≡ false → NoneBetween i j (l + 1) to → NoneBetween i j l to
  between_more i j l to e rest k low high =
      ⊎_elim (λ after. rest k (omega arith) high) (λ here. let same : k ≡ l = omega arith in rw same e) (lt-or-le l k)

  levels-later : (i j l left : ℕ) {p : Option Pair} → disagree i j l ≡ false → Levels i j (l + 1) left p → Levels i j l (suc left) p
  levels-later i j l left e (no_level rest) = no_level (λ k low high. between_more i j l (l + 1 + left) e rest k low (omega arith))
  levels-later i j l left e (at_level k high d before) = at_level k (omega arith) d (between_more i j l k e before)

  levels-here : (i j l left : ℕ) → disagree i j l ≡ true → Levels i j l (suc left) (disagree_at_level i j l)
  levels-here i j l left d = at_level l (omega arith) d (λ k low high. absurd (omega arith))

  levels-step :
      (i j l left : ℕ) (b : Bool) → disagree i j l ≡ b → (p : Option Pair) → Levels i j (l + 1) left p
      → Levels i j l (suc left) (pick b (disagree_at_level i j l) p)
  levels-step i j l left true d p rest = levels-here i j l left d
  levels-step i j l left false d p rest = levels-later i j l left d rest

  levels : (i j l left : ℕ) → Levels i j l left (levels_from disagree i j l left)
  unfolding levels_from
  levels i j l zero = no_level (λ k low high. absurd (omega arith))
  levels i j l (suc left) = levels-step i j l left (disagree i j l) refl (levels_from disagree i j (l + 1) left) (levels i j (l + 1) left)

  module _ (n : ℕ) where
    -- ---- the second of a pair
    -- two openings agree on all n levels
    abbrev Agreeing : ℕ → ℕ → Type 0
    Agreeing i j = (k : ℕ) → k < n → disagree i j k ≡ false

    data Seconds (i j left : ℕ) : Option Pair → Type 0 where
      no_second : ((b : ℕ) → j ≤ b → b < j + left → Agreeing i b) → Seconds i j left None
      at_second :
          (b k : ℕ) → j ≤ b → b < j + left → k < n → disagree i b k ≡ true → NoneBetween i b 0 k → ((c : ℕ) → j ≤ c → c < b → Agreeing i c) →
          Seconds i j left (disagree_at_level i b k)

    seconds-more : (i j to : ℕ) → Agreeing i j → ((b : ℕ) → j + 1 ≤ b → b < to → Agreeing i b) → (b : ℕ) → j ≤ b → b < to → Agreeing i b
    seconds-more i j to e rest b low high =
        ⊎_elim (λ after. rest b (omega arith) high) (λ here. let same : b ≡ j = omega arith in rw same e) (lt-or-le j b)

    seconds-later : (i j left : ℕ) {p : Option Pair} → Agreeing i j → Seconds i (j + 1) left p → Seconds i j (suc left) p
    seconds-later i j left e (no_second rest) = no_second (λ b low high. seconds-more i j (j + 1 + left) e rest b low (omega arith))
    seconds-later i j left e (at_second b k low high small d before rest) =
        at_second b k (omega arith) (omega arith) small d before (seconds-more i j b e rest)

    seconds-step :
        (i j left : ℕ) {p : Option Pair} (q : Option Pair) → Levels i j 0 n p → Seconds i (j + 1) left q → Seconds i j (suc left) (or_else p q)
    seconds-step i j left q (no_level agree) rest = seconds-later i j left (λ k small. agree k (omega arith) (omega arith)) rest
    seconds-step i j left q (at_level k high d before) rest =
        at_second j k (omega arith) (omega arith) (omega arith) d before (λ c low high. absurd (omega arith))

    seconds : (i j left : ℕ) → Seconds i j left (seconds_from disagree n i j left)
    unfolding seconds_from
    seconds i j zero = no_second (λ b low high. absurd (omega arith))
    seconds i j (suc left) = seconds-step i j left (seconds_from disagree n i (j + 1) left) (levels i j 0 n) (seconds i (j + 1) left)

    -- ---- the first of a pair
    data Firsts (i left : ℕ) : Option Pair → Type 0 where
      no_first : ((a b : ℕ) → i ≤ a → a < b → b < i + left → Agreeing a b) → Firsts i left None
      at_first :
          (a b k : ℕ) → i ≤ a → a < b → b < i + left → k < n → disagree a b k ≡ true → NoneBetween a b 0 k →
          ((c : ℕ) → a < c → c < b → Agreeing a c) →
          ((x c : ℕ) → i ≤ x → x < a → x < c → c < i + left → Agreeing x c) →
          Firsts i left (disagree_at_level a b k)

    firsts_more :
        (i to end : ℕ) → ((b : ℕ) → i + 1 ≤ b → b < end → Agreeing i b) →
        ((a b : ℕ) → i + 1 ≤ a → a < to → a < b → b < end → Agreeing a b) →
        (a b : ℕ) → i ≤ a → a < to → a < b → b < end → Agreeing a b
    firsts_more i to end here rest a b low under order high =
        ⊎_elim (λ after. rest a b (omega arith) under order high) (λ first. let same : a ≡ i =
        omega arith in rw same (here b (omega arith) high)) (lt-or-le i a)

    firsts-later :
        (i left : ℕ) {p : Option Pair} → ((b : ℕ) → i + 1 ≤ b → b < i + 1 + left → Agreeing i b) → Firsts (i + 1) left p → Firsts i (suc left) p
    firsts-later i left here (no_first rest) =
        no_first
        (λ a b low order high.
        firsts_more i b (i + 1 + left) here (λ a' b' low' under' order' high'. rest a' b' low' order' high') a b low order order (omega arith))
    firsts-later i left here (at_first a b k low order high small d before later rest) =
        at_first a b k (omega arith) order (omega arith) small d before later
        (λ x c low' under order' high'. firsts_more i a (i + 1 + left) here rest x c low' under order' (omega arith))

    firsts-step : (i left : ℕ) {p : Option Pair} (q : Option Pair) → Seconds i (i + 1) left p → Firsts (i + 1) left q → Firsts i (suc left) (or_else p q)
    firsts-step i left q (no_second here) rest = firsts-later i left here rest
    firsts-step i left q (at_second b k low high small d before earlier) rest =
        at_first i b k (omega arith) (omega arith) (omega arith) small d before
        (λ c low' high'. earlier c (omega arith) high')
        (λ x c low' under order high'. absurd (omega arith))

    firsts : (i left : ℕ) → Firsts i left (firsts_from disagree n i left)
    unfolding firsts_from
    firsts i zero = no_first (λ a b low order high. absurd (omega arith))
    firsts i (suc left) = firsts-step i left (firsts_from disagree n (i + 1) left) (seconds i (i + 1) left) (firsts (i + 1) left)

    -- ---- the pairs of t openings
    pub record First (t i j l : ℕ) : Type 0 where
      pub positive : 1 ≤ i
      pub ordered : i < j
      pub small : j ≤ t
      pub inner : l < n
      pub disagrees : disagree i j l ≡ true
      pub smallest_level : (k : ℕ) → k < l → disagree i j k ≡ false
      pub then_by_j : (b k : ℕ) → i < b → b < j → k < n → disagree i b k ≡ false
      pub first_by_i : (a b k : ℕ) → 1 ≤ a → a < i → a < b → b ≤ t → k < n → disagree a b k ≡ false

    none_found : (t : ℕ) {p : Option Pair} → Firsts 1 t p → p ≡ None → (i j l : ℕ) → 1 ≤ i → i < j → j ≤ t → l < n → disagree i j l ≡ false
    none_found t (no_first f) e i j l low order high small = f i j low order (omega arith) l small
    none_found t (at_first a b k low order high small d before later rest) e i j l low' order' high' small' =
        absurd (let no : ◌≡◌ {A = ℕ} 0 1 = cc in omega arith)

    found_first : (t i j l : ℕ) {p : Option Pair} → Firsts 1 t p → p ≡ disagree_at_level i j l → First t i j l
    found_first t i j l (no_first f) e = absurd (let no : ◌≡◌ {A = ℕ} 0 1 = cc in omega arith)
    found_first t i j l (at_first a b k low order high small d before later rest) e =
        let pairs : ◌≡◌ {A = Pair} (record { first = a; second = b; level = k }) (record { first = i; second = j; level = l }) = cc in
        same_first a b k (ap (λ (p : Pair). p.first) pairs) (ap (λ (p : Pair). p.second) pairs) (ap (λ (p : Pair). p.level) pairs)
        (record {
          positive = low;
          ordered = order;
          small = omega arith;
          inner = small;
          disagrees = d;
          smallest_level = λ k less. before k (omega arith) less;
          then_by_j = λ b k after less under. later b after less k under;
          first_by_i = λ a b k low' less order' high' under. rest a b low' less order' (omega arith) k under;
        })
      where
        same_first : (a b k : ℕ) → a ≡ i → b ≡ j → k ≡ l → First t a b k → First t i j l
        same_first a b k p q r first = rw (p, q, r) at first

    pub pair-agrees : (t : ℕ) → first_pair disagree n t ≡ None → (i j l : ℕ) → 1 ≤ i → i < j → j ≤ t → l < n → disagree i j l ≡ false
    unfolding first_pair
    pair-agrees t e = none_found t (firsts 1 t) e

    pub pair-first : (t i j l : ℕ) → first_pair disagree n t ≡ disagree_at_level i j l → First t i j l
    unfolding first_pair
    pair-first t i j l e = found_first t i j l (firsts 1 t) e
