-- The number at a place, for any number of groups: 10 and 11 just when their conditions on the bytes hold.
use mathlib.Core.Path.{◌≡◌, refl}
use mathlib.Core.Bool.{Bool, true, false}
use mathlib.Core.Logic.{◌⊎◌, inl, inr, ⊎_elim}
use mathlib.Core.List.{List}
use Prim.Native.Nat.{ℕ, zero, suc, ◌+◌, ◌*◌, ◌%◌, ◌^◌, ◌≤◌, ◌<◌, min}
use native.Mathlib.Nat.{pow-le-pow_right, zero-add}
use native.Mathlib.Numerals.{add-one}
use native.Mathlib.Omega.{arith}
use borrow.Author.Tests.{lt-ltb, le-ltb, eq-eqb, ne_eqb, le-leb, lt-leb}
use lib.Dec.{ltb, eqb}
use lib.ListN.{length}
use Rattle.base.specs.Choice.{both}
use Rattle.groups.specs.Reading.{ended, read_from, read_at}
use Rattle.demands.specs.Rows.{IsFirst, byte_at, GoOn, NumberEnds, NotLast, NotShortest, reading_number}
use Rattle.demands.specs.Demand1.{answer_number, ReadingNumber}
use Rattle.groups.proofs.Steps.{read_none, read-end, read-last, read_more, small, added-below}
use Rattle.base.proofs.ChoiceLaws.{lt-or-le}

-- `NotShortest` from group i on
abbrev NotShortestFrom : List ℕ → ℕ → ℕ → ℕ → Type 0
NotShortestFrom bytes at i most =
    GoOn bytes at most ⊎ ((j : ℕ) × (j < most) × GoOn bytes at j × (at + j < length bytes) × NotLast (i + j) (byte_at bytes (at + j)))

-- the answer is the number of the first condition that holds
abbrev First : List ℕ → ℕ → ℕ → ℕ → ℕ → Type 0
First bytes at i most answer =
    (NumberEnds bytes at most × (answer ≡ 10))
    ⊎ ((NumberEnds bytes at most → ⊥) × ((NotShortestFrom bytes at i most × (answer ≡ 11)) ⊎ ((NotShortestFrom bytes at i most → ⊥) × (answer ≡ 0))))

-- one byte with its top bit set, and those after it
module _ (bytes : List ℕ) (at i : ℕ) (top : 128 ≤ byte_at bytes at) where
  go-more : (k : ℕ) → GoOn bytes (at + 1) k → GoOn bytes at (suc k)
  go-more k g zero h = let e : at + 0 ≡ at = omega arith in rw e top
  go-more k g (suc j) h = let e : at + suc j ≡ at + 1 + j = omega arith in rw e (g j (omega arith))

  go-less : (k : ℕ) → GoOn bytes at (suc k) → GoOn bytes (at + 1) k
  go-less k g j h = let e : at + suc j ≡ at + 1 + j = omega arith in rw e at (g (suc j) (omega arith))

  end_more : (left : ℕ) → NumberEnds bytes (at + 1) left → NumberEnds bytes at (suc left)
  end_more left (j, h, g, e) = (suc j, omega arith, go-more j g, omega arith)

  end-less : (left : ℕ) → at < length bytes → NumberEnds bytes at (suc left) → NumberEnds bytes (at + 1) left
  end-less left here (zero, h, g, e) = absurd (omega arith)
  end-less left here (suc j, h, g, e) = (j, omega arith, go-less j g, omega arith)

  bad_more : (left : ℕ) → NotShortestFrom bytes (at + 1) (i + 1) left → NotShortestFrom bytes at i (suc left)
  bad_more left (inl g) = inl (go-more left g)
  bad_more left (inr (j, h, g, within, l)) =
      let e : at + 1 + j ≡ at + suc j = omega arith in
      let f : i + 1 + j ≡ i + suc j = omega arith in
      inr (suc j, omega arith, go-more j g, omega arith, rw (e, f) at l)

  bad-less : (left : ℕ) → NotShortestFrom bytes at i (suc left) → NotShortestFrom bytes (at + 1) (i + 1) left
  bad-less left (inl g) = inl (go-less left g)
  bad-less left (inr (zero, h, g, within, l)) =
      let e : at + 0 ≡ at = omega arith in
      let low : byte_at bytes (at + 0) < 128 = l.0 in
      absurd (omega (arith, rw e at low))
  bad-less left (inr (suc j, h, g, within, l)) =
      let e : at + suc j ≡ at + 1 + j = omega arith in
      let f : i + suc j ≡ i + 1 + j = omega arith in
      inr (j, omega arith, go-less j g, omega arith, rw (e, f) at l)

  first_more : (left answer : ℕ) → at < length bytes → First bytes (at + 1) (i + 1) left answer → First bytes at i (suc left) answer
  first_more left answer here (inl (e, a)) = inl (end_more left e, a)
  first_more left answer here (inr (goes, inl (b, a))) = inr (λ e. goes (end-less left here e), inl (bad_more left b, a))
  first_more left answer here (inr (goes, inr (none, a))) =
      inr (λ e. goes (end-less left here e), inr (λ b. none (bad-less left b), a))

-- a single byte may be 0
single : (t : Bool) → both t false ≡ false
single true = refl
single false = refl

-- no byte is allowed, and the bytes end
first-none : (bytes : List ℕ) (at i : ℕ) → First bytes at i 0 11
first-none bytes at i = inr (λ (e : NumberEnds bytes at 0). absurd (omega (arith, e.1)), inl (inl (λ j h. absurd (omega arith)), refl))

first-end : (bytes : List ℕ) (at i left : ℕ) → length bytes ≤ at → First bytes at i (suc left) 10
first-end bytes at i left past = inl ((0, omega arith, (λ j h. absurd (omega arith)), omega arith), refl)

-- the last byte
module _ (bytes : List ℕ) (at i left : ℕ) (here : at < length bytes) (low : byte_at bytes at < 128) where
  stops : (k : ℕ) → GoOn bytes at (suc k) → ⊥
  stops k g = let e : at + 0 ≡ at = omega arith in omega (arith, rw e at (g 0 (omega arith)))

  not-ended : NumberEnds bytes at (suc left) → ⊥
  not-ended (zero, h, g, e) = omega arith
  not-ended (suc j, h, g, e) = stops j g

  only-last : NotShortestFrom bytes at i (suc left) → NotLast i (byte_at bytes at)
  only-last (inl g) = absurd (stops left g)
  only-last (inr (zero, h, g, within, l)) =
      let e : at + 0 ≡ at = omega arith in
      let f : i + 0 ≡ i = omega arith in
      rw (e, f) at l
  only-last (inr (suc j, h, g, within, l)) = absurd (stops j g)

  last-bad : NotLast i (byte_at bytes at) → NotShortestFrom bytes at i (suc left)
  last-bad l =
      let e : at + 0 ≡ at = omega arith in
      let f : i + 0 ≡ i = omega arith in
      inr (0, omega arith, (λ j h. absurd (omega arith)), omega arith, rw (e, f) l)

  first-bad : NotLast i (byte_at bytes at) → First bytes at i (suc left) 11
  first-bad l = inr (not-ended, inl (last-bad l, refl))

  first_good : (NotLast i (byte_at bytes at) → ⊥) → First bytes at i (suc left) 0
  first_good good = inr (not-ended, inr (λ b. good (only-last b), refl))

  module _ (sum end : ℕ) (nine : i ≤ 9) (sum_is_lem : sum < 128 ^ i) where
    total : ℕ
    total = sum + byte_at bytes at % 128 * 128 ^ i

    few : i < 9 → total < 2 ^ 64
    unfolding total
    few h =
        omega (
          arith,
          added-below (byte_at bytes at) sum (128 ^ i) sum_is_lem,
          pow-le-pow_right {n = 128} (omega arith) {i = i} {j = 8} (omega arith),
        )

    in-tenth : 9 ≤ i → total ≡ sum + byte_at bytes at * 2 ^ 63
    unfolding total
    in-tenth h = let e : i ≡ 9 = omega arith in rw (e, small (byte_at bytes at) low)

    tenth-sum : 9 ≤ i → sum < 2 ^ 63
    tenth-sum h = let e : i ≡ 9 = omega arith in rw e at sum_is_lem

    number : ℕ
    number = answer_number (ended (byte_at bytes at) i total end)

    is_read : both (eqb (byte_at bytes at) 0) (ltb 0 i) ≡ false → total < 2 ^ 64 → number ≡ 0
    unfolding number ended
    is_read several fits = rw (several, lt-leb (2 ^ 64) total fits)

    is-long : 9 ≤ i → 1 < byte_at bytes at → number ≡ 11
    unfolding number ended
    is-long h two =
        rw (ne_eqb (byte_at bytes at) 0 (omega arith), le-leb (2 ^ 64) total (omega (arith, in-tenth h)))

    is_zero : byte_at bytes at ≡ 0 → 0 < i → number ≡ 11
    unfolding number ended
    is_zero z h = rw (eq-eqb (byte_at bytes at) 0 z, lt-ltb 0 i h)

    -- the last byte is 0, and it is not
    last-zero : byte_at bytes at ≡ 0 → First bytes at i (suc left) number
    last-zero z =
        ⊎_elim
        (λ (none : i < 1). rw (is_read (rw (le-ltb 0 i (omega arith)) (single (eqb (byte_at bytes at) 0))) (few (omega arith)))
        (first_good (λ l. ⊎_elim (λ (b : (0 < i) × (byte_at bytes at ≡ 0)). omega (arith, b.0)) (λ (b : (9 ≤ i) ×
        (1 < byte_at bytes at)). omega (arith, b.0)) l.1)))
        (λ some. rw (is_zero z some) (first-bad (low, inl (some, z))))
        (lt-or-le i 1)

    last_some : 0 < byte_at bytes at → First bytes at i (suc left) number
    last_some some =
        let several : both (eqb (byte_at bytes at) 0) (ltb 0 i) ≡ false = rw (ne_eqb (byte_at bytes at) 0 (omega arith)) in
        ⊎_elim
        (λ before. rw (is_read several (few before))
        (first_good (λ l. ⊎_elim (λ (b : (0 < i) × (byte_at bytes at ≡ 0)). omega (arith, b.1)) (λ (b : (9 ≤ i) ×
        (1 < byte_at bytes at)). omega (arith, b.0)) l.1)))
        (λ tenth.
        ⊎_elim
        (λ one. rw (is_read several (omega (arith, in-tenth tenth, tenth-sum tenth)))
        (first_good (λ l. ⊎_elim (λ (b : (0 < i) × (byte_at bytes at ≡ 0)). omega (arith, b.1)) (λ (b : (9 ≤ i) ×
        (1 < byte_at bytes at)). omega (arith, b.1)) l.1)))
        (λ two. rw (is-long tenth two) (first-bad (low, inr (tenth, two))))
        (lt-or-le (byte_at bytes at) 2))
        (lt-or-le i 9)

    first-last : First bytes at i (suc left) number
    first-last = ⊎_elim (λ none. last-zero (omega arith)) (λ some. last_some some) (lt-or-le (byte_at bytes at) 1)

first_of : (bytes : List ℕ) (left at i low : ℕ) → i + left ≤ 10 → low < 128 ^ i
    → First bytes at i left (answer_number (read_from bytes at i low left))
unfolding number total
first_of bytes zero at i low ten small_low = rw (read_none bytes at i low 0 refl) (first-none bytes at i)
first_of bytes (suc left) at i low ten small_low =
    ⊎_elim
    (λ here.
    ⊎_elim
    (λ h. rw (read-last bytes at i low (suc left) left (byte_at bytes at) (128 ^ i) refl here refl refl h)
    (first-last bytes at i left here h low (at + 1) (omega arith) small_low))
    (λ h. rw (read_more bytes at i low (suc left) left (byte_at bytes at) (128 ^ i) refl here refl refl h)
    (first_more bytes at i h left _ here
    (first_of bytes left (at + 1) (i + 1) (low + byte_at bytes at % 128 * 128 ^ i) (omega arith)
    (rw (add-one i) (omega (arith, added-below (byte_at bytes at) low (128 ^ i) small_low))))))
    (lt-or-le (byte_at bytes at) 128))
    (λ past. rw (read-end bytes at i low (suc left) left refl past) (first-end bytes at i left past))
    (lt-or-le at (length bytes))

-- from the first group on
whole : (bytes : List ℕ) (at most : ℕ) → NotShortestFrom bytes at 0 most → NotShortest bytes at most
whole bytes at most (inl g) = inl g
whole bytes at most (inr (j, h, g, within, l)) = inr (j, h, g, within, rw (zero-add j) at l)

from-whole : (bytes : List ℕ) (at most : ℕ) → NotShortest bytes at most → NotShortestFrom bytes at 0 most
from-whole bytes at most (inl g) = inl g
from-whole bytes at most (inr (j, h, g, within, l)) = inr (j, h, g, within, rw (zero-add j) l)

is-first-read : (bytes : List ℕ) (at most answer : ℕ) → First bytes at 0 most answer → IsFirst (reading_number bytes at most) answer
is-first-read bytes at most answer (inl e) = inl e
is-first-read bytes at most answer (inr (goes, inl (b, a))) = inr (goes, inl (whole bytes at most b, a))
is-first-read bytes at most answer (inr (goes, inr (none, a))) = inr (goes, inr (λ b. none (from-whole bytes at most b), a))

pub reading-number : (bytes : List ℕ) (at most : ℕ) → ReadingNumber bytes at most
unfolding read_at
reading-number bytes at most =
    record { answer = is-first-read bytes at (min most 10) _ (first_of bytes (min most 10) at 0 0 (omega arith) (omega arith)) }
