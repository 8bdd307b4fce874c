-- Turns taken in order: who may go on is served soon, between two turns of one the others get one each at the most, and while nobody stops
-- all get the same number, or one more.
use mathlib.Core.Path.{◌≡◌, refl, sym, ap, subst, ◌∙◌}
use mathlib.Core.Logic.{◌⊎◌, inl, inr}
use mathlib.Core.Bool.{Bool, true, false}
use Prim.Native.Nat.{ℕ, zero, suc, ◌+◌, ◌-◌, ◌≤◌, ◌<◌}
use native.Mathlib.Nat.{add-zero}
use native.Mathlib.Numerals.{add-one}
use native.Mathlib.Omega.{arith}
use lib.Dec.{ltb, eqb}
use borrow.Author.Tests.{lt-ltb, le-ltb, eqb-true, eqb-false}
use Rattle.base.specs.Choice.{pick}
use Rattle.base.proofs.ChoiceLaws.{true-false, lt-or-le}
use Rattle.unit.proofs.NextLaws.{apart, apart-less, apart-back, apart-among, apart-same, apart-turned, first_holds, first-nearest}
use Rattle.unit_theory.specs.Schedules.{TakesTurns, taken}

-- ---- how far two have come in a round: 1 for one that is still to be served in it
abbrev ahead : ℕ → ℕ → ℕ
ahead x z = pick (ltb x z) 1 0

ahead-yes : (x z : ℕ) → x < z → ahead x z ≡ 1
ahead-yes x z less = rw (lt-ltb x z less)

ahead-no : (x z : ℕ) → z ≤ x → ahead x z ≡ 0
ahead-no x z back = rw (le-ltb x z back)

ahead-most : (x z : ℕ) → ahead x z ≤ 1
ahead-most x z = go (ltb x z)
  where
    go : (t : Bool) → pick t 1 0 ≤ 1
    go true = omega arith
    go false = omega arith

-- the place goes on from x to y in the same round: z, which is not nearer, is ahead of both or of neither
goes_on : (count x y z t round : ℕ) → x < y → (y ≡ z → ⊥) → apart count x y ≤ apart count x z → t + ahead x z ≡ round → t + ahead y z ≡ round
goes_on count x y z t round less other near e = go (lt-or-le x z)
  where
    go : (x < z) ⊎ (z ≤ x) → t + ahead y z ≡ round
    go (inl up) =
        let later : y < z = omega (arith, other, near, up, less, apart-less count x y less, apart-less count x z up) in
        omega (arith, e, ahead-yes x z up, ahead-yes y z later)
    go (inr back) = omega (arith, e, ahead-no x z back, ahead-no y z (omega arith))

-- from x to y a new round begins: z had its turn in the old one, and is ahead in the new one
begins-anew :
    (count x y z t round : ℕ) → y ≤ x → x ≤ count → 1 ≤ y → z ≤ count → (y ≡ z → ⊥) → apart count x y ≤ apart count x z → t + ahead x z ≡ round
    → t + ahead y z ≡ round + 1
begins-anew count x y z t round less few some most other near e = go (lt-or-le x z)
  where
    go : (x < z) ⊎ (z ≤ x) → t + ahead y z ≡ round + 1
    go (inl up) = absurd (omega (arith, near, most, some, few, apart-back count x y less, apart-less count x z up))
    go (inr back) =
        let later : y < z = omega (arith, other, near, few, apart-back count x y less, apart-back count x z back) in
        omega (arith, e, ahead-no x z back, ahead-yes y z later)

module _ {count all : ℕ} {last : ℕ → ℕ} {going : ℕ → ℕ → Bool} (turns : TakesTurns count all last going) where
  some : 1 ≤ count
  some = omega (arith, turns.begins)

  -- ---- one turn: it goes to the nearest that may be served
  served : (k : ℕ) → k < all → (going k (last (k + 1)) ≡ true) × ((1 ≤ last (k + 1)) × (last (k + 1) ≤ count))
  served k few = first_holds (going k) count some count (last k) (last (k + 1)) (sym (turns.next k few)) (turns.found k few)

  pub served-going : (k : ℕ) → k < all → going k (last (k + 1)) ≡ true
  served-going k few = (served k few).0

  pub among : (k : ℕ) → k ≤ all → (1 ≤ last k) × (last k ≤ count)
  among zero few = turns.begins
  among (suc k) few = subst (λ j. (1 ≤ last j) × (last j ≤ count)) (add-one k) (served k (omega arith)).1

  pub nearest :
      (k i : ℕ) → k < all → (1 ≤ i) × (i ≤ count) → going k i ≡ true → apart count (last k) (last (k + 1)) ≤ apart count (last k) i
  nearest k i few of_i goes = go (lt-or-le (apart count (last k) i) (apart count (last k) (last (k + 1))))
    where
      go :
          (apart count (last k) i < apart count (last k) (last (k + 1))) ⊎ (apart count (last k) (last (k + 1)) ≤ apart count (last k) i)
          → apart count (last k) (last (k + 1)) ≤ apart count (last k) i
      go (inl less) =
          absurd
          (true-false (going k i) goes
          (first-nearest (going k) count some (last k) (last (k + 1)) (among k (omega arith)) (sym (turns.next k few))
          (turns.found k few) i of_i less))
      go (inr le) = le

  -- who goes later goes now
  pub stays-back : (k j i : ℕ) → k + j ≤ all → (1 ≤ i) × (i ≤ count) → going (k + j) i ≡ true → going k i ≡ true
  stays-back k zero i few of_i goes = ap (λ m. going m i) (sym (add-zero k)) ∙ goes
  stays-back k (suc j) i few of_i goes =
      let e : k + suc j ≡ k + j + 1 = omega arith in
      stays-back k j i (omega arith) of_i (turns.stays (k + j) i (omega arith) of_i (ap (λ m. going m i) (sym e) ∙ goes))

  -- while one may be served the turns are not over
  not-over : (k i : ℕ) → k ≤ all → (1 ≤ i) × (i ≤ count) → going k i ≡ true → k < all
  not-over k i few of_i goes = go (lt-or-le k all)
    where
      go : (k < all) ⊎ (all ≤ k) → k < all
      go (inl less) = less
      go (inr le) =
          let e : k ≡ all = omega arith in
          absurd (true-false (going k i) goes (ap (λ m. going m i) e ∙ turns.ends i of_i))

  -- ---- soon: at most count - 1 others are served before i
  abbrev Soon : ℕ → ℕ → ℕ → Type 0
  Soon within k i = (j : ℕ) × (j < within) × (k + j < all) × (last (k + j + 1) ≡ i)

  later : (d k i : ℕ) → Soon d (k + 1) i → Soon (suc d) k i
  later d k i (j, few, most, e) =
      (j + 1, omega (arith, few), omega (arith, most), ap last (omega arith) ∙ e)

  -- where another is served, the distance falls
  nearer :
      (d k i : ℕ) → k < all → (1 ≤ i) × (i ≤ count) → going k i ≡ true → (last (k + 1) ≡ i → ⊥)
      → apart count (last k) i ≤ suc d → apart count (last (k + 1)) i ≤ d
  nearer d k i few of_i goes other near =
      let from = among k (omega arith) in
      let next = (served k few).1 in
      let le = nearest k i few of_i goes in
      let differ : apart count (last k) (last (k + 1)) ≡ apart count (last k) i → ⊥ =
      λ (e : apart count (last k) (last (k + 1)) ≡ apart count (last k) i). other (apart-same count (last k) (last (k + 1)) i from.1 next of_i e) in
      let less : apart count (last k) (last (k + 1)) < apart count (last k) i = omega (arith, le, differ) in
      omega (
        arith,
        near,
        less,
        apart-turned count (last k) (last (k + 1)) i from next of_i,
        apart-less count (apart count (last k) (last (k + 1))) (apart count (last k) i) less,
        (apart-among count (last k) (last (k + 1)) from.1 next).0,
      )

  soon-within :
      (d k i : ℕ) → k ≤ all → (1 ≤ i) × (i ≤ count) → going k i ≡ true → apart count (last k) i ≤ d → Soon d k i
  soon-within zero k i few of_i goes near = absurd (omega (arith, near, (apart-among count (last k) i (among k few).1 of_i).0))
  soon-within (suc d) k i few of_i goes near =
      go (eqb (last (k + 1)) i) refl (λ a b. soon-within d (k + 1) i (omega (arith, not-over k i few of_i goes)) of_i a b)
    where
      less : k < all
      less = not-over k i few of_i goes

      go :
          (t : Bool) → eqb (last (k + 1)) i ≡ t → (going (k + 1) i ≡ true → apart count (last (k + 1)) i ≤ d → Soon d (k + 1) i)
          → Soon (suc d) k i
      go true e rest =
          (0, omega arith, omega (arith, less), ap (λ m. last (m + 1)) (add-zero k) ∙ eqb-true (last (k + 1)) i e)
      go false e rest =
          let other : last (k + 1) ≡ i → ⊥ = eqb-false (last (k + 1)) i e in
          let other' : i ≡ last (k + 1) → ⊥ = λ (f : i ≡ last (k + 1)). other (sym f) in
          later d k i (rest (turns.others k i less of_i other' ∙ goes) (nearer d k i less of_i goes other near))

  pub soon :
      (k i : ℕ) → k ≤ all → (1 ≤ i) × (i ≤ count) → going k i ≡ true
      → (j : ℕ) × (j < count) × (k + j < all) × (last (k + j + 1) ≡ i)
  soon k i few of_i goes = soon-within count k i few of_i goes (apart-among count (last k) i (among k few).1 of_i).1

  -- ---- between two turns of one
  pub between :
      (a b : ℕ) → a < b → b < all → last (a + 1) ≡ last (b + 1) → ((c : ℕ) → a < c → c < b → last (c + 1) ≡ last (a + 1) → ⊥)
      → b - a - 1 < count
  between a b less few same none = go (soon (a + 1) i (omega arith) of_i goes)
    where
      i : ℕ
      i = last (b + 1)

      of_i : (1 ≤ i) × (i ≤ count)
      of_i = (served b few).1

      goes : going (a + 1) i ≡ true
      goes =
          let e : a + 1 + (b - a - 1) ≡ b = omega arith in
          stays-back (a + 1) (b - a - 1) i (omega (arith, e, few)) of_i (ap (λ m. going m i) e ∙ served-going b few)

      go : (j : ℕ) × (j < count) × (a + 1 + j < all) × (last (a + 1 + j + 1) ≡ i) → b - a - 1 < count
      go (j, near, most, e) = cases (lt-or-le (a + 1 + j) b)
        where
          cases : (a + 1 + j < b) ⊎ (b ≤ a + 1 + j) → b - a - 1 < count
          cases (inl before) = absurd (none (a + 1 + j) (omega arith) before (e ∙ sym same))
          cases (inr behind) = omega (arith, near, behind, less)

  -- who has stopped is passed over
  pub passed :
      (k i : ℕ) → (1 ≤ i) × (i ≤ count) → going k i ≡ false → (j : ℕ) → k ≤ j → j < all → last (j + 1) ≡ i → ⊥
  passed k i of_i stopped j from few e =
      let f : k + (j - k) ≡ j = omega arith in
      let goes : going j i ≡ true = ap (going j) (sym e) ∙ served-going j few in
      true-false (going k i) (stays-back k (j - k) i (omega (arith, f, few)) of_i (ap (λ m. going m i) f ∙ goes)) stopped

  -- ---- fair: after k turns all of them have their turn of the round behind them or ahead
  abbrev place : ℕ → ℕ
  place i = apart count (last 0) i

  abbrev Even : ℕ → ℕ → Type 0
  Even k round = (i : ℕ) → (1 ≤ i) × (i ≤ count) → going 0 i ≡ true → taken last i k + ahead (place (last k)) (place i) ≡ round

  abbrev NoneStops : ℕ → Type 0
  NoneStops k = (i : ℕ) → (1 ≤ i) × (i ≤ count) → going 0 i ≡ true → going k i ≡ true

  place-among : (i : ℕ) → (1 ≤ i) × (i ≤ count) → (1 ≤ place i) × (place i ≤ count)
  place-among i of_i = apart-among count (last 0) i turns.begins.1 of_i

  places-near :
      (k i : ℕ) → k < all → (1 ≤ i) × (i ≤ count) → going k i ≡ true
      → apart count (place (last k)) (place (last (suc k))) ≤ apart count (place (last k)) (place i)
  places-near k i few of_i goes =
      let next = among (suc k) (omega arith) in
      let from = among k (omega arith) in
      omega (
        arith,
        subst (λ m. apart count (last k) (last m) ≤ apart count (last k) i) (add-one k) (nearest k i few of_i goes),
        apart-turned count (last 0) (last k) i turns.begins from of_i,
        apart-turned count (last 0) (last k) (last (suc k)) turns.begins from next,
      )

  others-place : (k i : ℕ) → k < all → (1 ≤ i) × (i ≤ count) → eqb (last (suc k)) i ≡ false → place (last (suc k)) ≡ place i → ⊥
  others-place k i few of_i e f =
      eqb-false (last (suc k)) i e (apart-same count (last 0) (last (suc k)) i turns.begins.1 (among (suc k) (omega arith)) of_i f)

  -- a turn in the same round, and one that begins a round
  same-round :
      (k i round : ℕ) → k < all → (1 ≤ i) × (i ≤ count) → going k i ≡ true → place (last k) < place (last (suc k))
      → taken last i k + ahead (place (last k)) (place i) ≡ round → taken last i (suc k) + ahead (place (last (suc k))) (place i) ≡ round
  unfolding taken
  same-round k i round few of_i goes less h = go (eqb (last (suc k)) i) refl
    where
      go : (t : Bool) → eqb (last (suc k)) i ≡ t → taken last i k + pick t 1 0 + ahead (place (last (suc k))) (place i) ≡ round
      go true e =
          let f : place (last (suc k)) ≡ place i = ap place (eqb-true (last (suc k)) i e) in
          omega (
            arith,
            h,
            ahead-yes (place (last k)) (place i) (omega (arith, less, f)),
            ahead-no (place (last (suc k))) (place i) (omega (arith, f)),
          )
      go false e =
          omega (
            arith,
            goes_on count (place (last k)) (place (last (suc k))) (place i) (taken last i k) round less (others-place k i few of_i e)
                (places-near k i few of_i goes) h,
          )

  next-round :
      (k i round : ℕ) → k < all → (1 ≤ i) × (i ≤ count) → going k i ≡ true → place (last (suc k)) ≤ place (last k)
      → taken last i k + ahead (place (last k)) (place i) ≡ round → taken last i (suc k) + ahead (place (last (suc k))) (place i) ≡ round + 1
  unfolding taken
  next-round k i round few of_i goes back h = go (eqb (last (suc k)) i) refl
    where
      go : (t : Bool) → eqb (last (suc k)) i ≡ t → taken last i k + pick t 1 0 + ahead (place (last (suc k))) (place i) ≡ round + 1
      go true e =
          let f : place (last (suc k)) ≡ place i = ap place (eqb-true (last (suc k)) i e) in
          omega (
            arith,
            h,
            ahead-no (place (last k)) (place i) (omega (arith, back, f)),
            ahead-no (place (last (suc k))) (place i) (omega (arith, f)),
          )
      go false e =
          omega (
            arith,
            begins-anew count (place (last k)) (place (last (suc k))) (place i) (taken last i k) round back
                (place-among (last k) (among k (omega arith))).1 (place-among (last (suc k)) (among (suc k) (omega arith))).0
                (place-among i of_i).1 (others-place k i few of_i e) (places-near k i few of_i goes) h,
          )

  even-next : (k : ℕ) → k < all → NoneStops k → (round : ℕ) × Even k round → (round : ℕ) × Even (suc k) round
  even-next k few none (round, even) = go (lt-or-le (place (last k)) (place (last (suc k))))
    where
      go :
          (place (last k) < place (last (suc k))) ⊎ (place (last (suc k)) ≤ place (last k))
          → (round : ℕ) × Even (suc k) round
      go (inl less) = (round, λ i of_i goes. same-round k i round few of_i (none i of_i goes) less (even i of_i goes))
      go (inr back) = (round + 1, λ i of_i goes. next-round k i round few of_i (none i of_i goes) back (even i of_i goes))

  even-first : Even 0 0
  unfolding taken
  even-first i of_i goes =
      omega (
        arith,
        ahead-no (place (last 0)) (place i)
            (omega (arith, place-among i of_i, turns.begins, apart-back count (last 0) (last 0) (omega arith))),
      )

  even-after : (k : ℕ) → k ≤ all → NoneStops k → (round : ℕ) × Even k round
  even-after zero few none = (0, even-first)
  even-after (suc k) few none = even-next k few before (even-after k (omega arith) before)
    where
      before : NoneStops k
      before i of_i goes = turns.stays k i few of_i (ap (λ m. going m i) (add-one k) ∙ none i of_i goes)

  pub fair :
      (k : ℕ) → k ≤ all → ((i : ℕ) → (1 ≤ i) × (i ≤ count) → going 0 i ≡ true → going k i ≡ true)
      → (i j : ℕ) → (1 ≤ i) × (i ≤ count) → (1 ≤ j) × (j ≤ count) → going 0 i ≡ true → going 0 j ≡ true
      → taken last i k ≤ taken last j k + 1
  fair k few none i j of_i of_j goes_i goes_j = go (even-after k few none)
    where
      go : (round : ℕ) × Even k round → taken last i k ≤ taken last j k + 1
      go (round, even) = omega (arith, even i of_i goes_i, even j of_j goes_j, ahead-most (place (last k)) (place j))
