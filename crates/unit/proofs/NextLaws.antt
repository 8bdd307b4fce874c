-- Whose turn it is: the run after another in the circle, and the first after it that a test holds of.
use mathlib.Core.Path.{◌≡◌, refl, sym, ap, ◌∙◌}
use mathlib.Core.Logic.{◌⊎◌, inl, inr}
use mathlib.Core.Bool.{Bool, true, false}
use Prim.Native.Nat.{ℕ, zero, suc, ◌+◌, ◌-◌, ◌≤◌, ◌<◌}
use native.Mathlib.Omega.{arith}
use lib.Dec.{ltb, eqb}
use borrow.Author.Tests.{lt-ltb, le-ltb, eqb-true, eqb-false}
use Rattle.base.specs.Choice.{pick}
use Rattle.base.proofs.ChoiceLaws.{true-false, lt-or-le}
use Rattle.unit.specs.Turns.{following, first_after}

-- ---- the next in the circle
pub following-less : (count i : ℕ) → i < count → following count i ≡ i + 1
following-less count i less = rw (lt-ltb i count less)

pub following-first : (count i : ℕ) → count ≤ i → following count i ≡ 1
following-first count i over = rw (le-ltb i count over)

pub following-among : (count i : ℕ) → 1 ≤ count → (1 ≤ following count i) × (following count i ≤ count)
following-among count i some = go (lt-or-le i count)
  where
    go : (i < count) ⊎ (count ≤ i) → (1 ≤ following count i) × (following count i ≤ count)
    go (inl less) = rw (following-less count i less) (omega arith, omega arith)
    go (inr over) = rw (following-first count i over) (omega arith, some)

-- how many steps of `following` lead from one to another: 1 to count, from itself to itself count
abbrev pub apart : ℕ → ℕ → ℕ → ℕ
apart count from to = pick (ltb from to) (to - from) (to + count - from)

pub apart-less : (count from to : ℕ) → from < to → apart count from to ≡ to - from
apart-less count from to less = rw (lt-ltb from to less)

pub apart-back : (count from to : ℕ) → to ≤ from → apart count from to ≡ to + count - from
apart-back count from to back = rw (le-ltb from to back)

-- both ways of it at once
pub apart-is :
    (count from to : ℕ) → from ≤ count
    → ((from < to) × (apart count from to + from ≡ to)) ⊎ ((to ≤ from) × (apart count from to + from ≡ to + count))
apart-is count from to few = go (lt-or-le from to)
  where
    go :
        (from < to) ⊎ (to ≤ from)
        → ((from < to) × (apart count from to + from ≡ to)) ⊎ ((to ≤ from) × (apart count from to + from ≡ to + count))
    go (inl less) = inl (less, omega (arith, apart-less count from to less))
    go (inr back) = inr (back, omega (arith, apart-back count from to back))

pub apart-among : (count from to : ℕ) → from ≤ count → (1 ≤ to) × (to ≤ count) → (1 ≤ apart count from to) × (apart count from to ≤ count)
apart-among count from to few among = go (apart-is count from to few)
  where
    go :
        ((from < to) × (apart count from to + from ≡ to)) ⊎ ((to ≤ from) × (apart count from to + from ≡ to + count))
        → (1 ≤ apart count from to) × (apart count from to ≤ count)
    go (inl e) = (omega (arith, e.0, e.1, among.1), omega (arith, e.1, among.1))
    go (inr e) = (omega (arith, e.1, among.0), omega (arith, e.0, e.1))

pub apart-following : (count i : ℕ) → (1 ≤ i) × (i ≤ count) → apart count i (following count i) ≡ 1
apart-following count i among = go (lt-or-le i count)
  where
    go : (i < count) ⊎ (count ≤ i) → apart count i (following count i) ≡ 1
    go (inl less) = ap (apart count i) (following-less count i less) ∙ omega (arith, apart-less count i (i + 1) (omega arith))
    go (inr over) =
        ap (apart count i) (following-first count i over) ∙ omega (arith, over, among.1, apart-back count i 1 among.0)

-- one step on is one step less, but for the next itself
pub apart_next :
    (count i j : ℕ) → (1 ≤ i) × (i ≤ count) → (1 ≤ j) × (j ≤ count) → (j ≡ following count i → ⊥)
    → apart count (following count i) j + 1 ≡ apart count i j
apart_next count i j of_i of_j other = go (lt-or-le i count) (lt-or-le i j)
  where
    go : (i < count) ⊎ (count ≤ i) → (i < j) ⊎ (j ≤ i) → apart count (following count i) j + 1 ≡ apart count i j
    go (inl less) (inl before) =
        let e : following count i ≡ i + 1 = following-less count i less in
        let d : j ≡ i + 1 → ⊥ = λ (f : j ≡ i + 1). other (f ∙ sym e) in
        ap (λ (from : ℕ). apart count from j + 1) e
        ∙ omega (arith, d, apart-less count (i + 1) j (omega (arith, d, before)), apart-less count i j before)
    go (inl less) (inr back) =
        ap (λ (from : ℕ). apart count from j + 1) (following-less count i less)
        ∙ omega (arith, less, apart-back count (i + 1) j (omega arith), apart-back count i j back)
    go (inr over) (inl before) = absurd (omega (arith, of_j.1))
    go (inr over) (inr back) =
        let e : following count i ≡ 1 = following-first count i over in
        let d : j ≡ 1 → ⊥ = λ (f : j ≡ 1). other (f ∙ sym e) in
        ap (λ (from : ℕ). apart count from j + 1) e
        ∙ omega (arith, over, of_i.1, of_j.0, apart-less count 1 j (omega (arith, d, of_j.0)), apart-back count i j back)

-- what is equally far is the same
pub apart-same :
    (count from i j : ℕ) → from ≤ count → (1 ≤ i) × (i ≤ count) → (1 ≤ j) × (j ≤ count) → apart count from i ≡ apart count from j → i ≡ j
apart-same count from i j few of_i of_j e = go (apart-is count from i few) (apart-is count from j few)
  where
    go :
        ((from < i) × (apart count from i + from ≡ i)) ⊎ ((i ≤ from) × (apart count from i + from ≡ i + count))
        → ((from < j) × (apart count from j + from ≡ j)) ⊎ ((j ≤ from) × (apart count from j + from ≡ j + count))
        → i ≡ j
    go (inl f) (inl g) = omega (arith, e, f.1, g.1)
    go (inl f) (inr g) = absurd (omega (arith, e, f.1, g.1, of_i.1, of_j.0))
    go (inr f) (inl g) = absurd (omega (arith, e, f.1, g.1, of_i.0, of_j.1))
    go (inr f) (inr g) = omega (arith, e, f.1, g.1)

-- seen from any place of the circle the distance of two others is the same
pub apart-turned :
    (count from i j : ℕ) → (1 ≤ from) × (from ≤ count) → (1 ≤ i) × (i ≤ count) → (1 ≤ j) × (j ≤ count)
    → apart count (apart count from i) (apart count from j) ≡ apart count i j
apart-turned count from i j of_from of_i of_j = go (apart-is count from i of_from.1) (apart-is count from j of_from.1) (lt-or-le i j)
  where
    x : ℕ
    x = apart count from i

    y : ℕ
    y = apart count from j

    go :
        ((from < i) × (x + from ≡ i)) ⊎ ((i ≤ from) × (x + from ≡ i + count))
        → ((from < j) × (y + from ≡ j)) ⊎ ((j ≤ from) × (y + from ≡ j + count))
        → (i < j) ⊎ (j ≤ i) → apart count x y ≡ apart count i j
    go (inl f) (inl g) (inl less) =
        omega (arith, f, g, less, apart-less count i j less, apart-less count x y (omega (arith, f, g, less)))
    go (inl f) (inl g) (inr back) =
        omega (arith, f, g, back, apart-back count i j back, apart-back count x y (omega (arith, f, g, back)))
    go (inl f) (inr g) (inl less) = absurd (omega (arith, f, g, less))
    go (inl f) (inr g) (inr back) =
        omega (arith, f, g, back, of_i, of_j, apart-back count i j back, apart-less count x y (omega (arith, f, g, of_i, of_j)))
    go (inr f) (inl g) (inl less) =
        omega (arith, f, g, less, of_i, of_j, apart-less count i j less, apart-back count x y (omega (arith, f, g, of_i, of_j)))
    go (inr f) (inl g) (inr back) = absurd (omega (arith, f, g, back))
    go (inr f) (inr g) (inl less) =
        omega (arith, f, g, less, apart-less count i j less, apart-less count x y (omega (arith, f, g, less)))
    go (inr f) (inr g) (inr back) =
        omega (arith, f, g, back, apart-back count i j back, apart-back count x y (omega (arith, f, g, back)))

-- ---- the first that a test holds of
first-yes :
    (test : ℕ → Bool) (count more i : ℕ) → test (following count i) ≡ true → first_after test count (suc more) i ≡ following count i
unfolding first_after
first-yes test count more i e = rw e

first-no :
    (test : ℕ → Bool) (count more i : ℕ) → test (following count i) ≡ false
    → first_after test count (suc more) i ≡ first_after test count more (following count i)
unfolding first_after
first-no test count more i e = rw e

-- only what the test says of 1 to count matters
pub first-same :
    (test other : ℕ → Bool) (count : ℕ) → 1 ≤ count → ((i : ℕ) → (1 ≤ i) × (i ≤ count) → test i ≡ other i)
    → (more i : ℕ) → first_after test count more i ≡ first_after other count more i
unfolding first_after
first-same test other count some agree zero i = refl
first-same test other count some agree (suc more) i =
    rw
    (agree (following count i) (following-among count i some), first-same test other count some agree more (following count i))

module _ (test : ℕ → Bool) (count : ℕ) (some : 1 ≤ count) where
  -- it is among them, and the test holds of it
  pub first_holds : (more i r : ℕ) → first_after test count more i ≡ r → 1 ≤ r → (test r ≡ true) × ((1 ≤ r) × (r ≤ count))
  first_holds zero i r e found = unfold first_after in absurd (omega arith)
  first_holds (suc more) i r e found = go (test (following count i)) refl (first_holds more (following count i) r)
    where
      go :
          (t : Bool) → test (following count i) ≡ t
          → (first_after test count more (following count i) ≡ r → 1 ≤ r → (test r ≡ true) × ((1 ≤ r) × (r ≤ count)))
          → (test r ≡ true) × ((1 ≤ r) × (r ≤ count))
      go true h rest =
          let same : following count i ≡ r = sym (first-yes test count more i h) ∙ e in
          (ap test (sym same) ∙ h, (found, omega (arith, same, (following-among count i some).1)))
      go false h rest = rest (sym (first-no test count more i h) ∙ e) found

  -- one that it holds of is met in as many steps as lead to it
  found_within :
      (j : ℕ) → (1 ≤ j) × (j ≤ count) → test j ≡ true
      → (more i : ℕ) → (1 ≤ i) × (i ≤ count) → apart count i j ≤ more → 1 ≤ first_after test count more i
  found_within j of_j h zero i of_i near = absurd (omega (arith, near, (apart-among count i j of_i.1 of_j).0))
  found_within j of_j h (suc more) i of_i near =
      go (test (following count i)) refl (found_within j of_j h more (following count i) (following-among count i some))
    where
      go :
          (t : Bool) → test (following count i) ≡ t
          → (apart count (following count i) j ≤ more → 1 ≤ first_after test count more (following count i))
          → 1 ≤ first_after test count (suc more) i
      go true e rest = omega (arith, first-yes test count more i e, (following-among count i some).0)
      go false e rest =
          let other : j ≡ following count i → ⊥ = λ (f : j ≡ following count i). true-false (test j) h (ap test f ∙ e) in
          let less : apart count (following count i) j ≤ more = omega (arith, near, apart_next count i j of_i of_j other) in
          omega (arith, first-no test count more i e, rest less)

  pub first_found :
      (i j : ℕ) → (1 ≤ i) × (i ≤ count) → (1 ≤ j) × (j ≤ count) → test j ≡ true → 1 ≤ first_after test count count i
  first_found i j of_i of_j h = found_within j of_j h count i of_i (apart-among count i j of_i.1 of_j).1

  -- it is the nearest
  nearest-within :
      (r : ℕ) → 1 ≤ r → (more i : ℕ) → (1 ≤ i) × (i ≤ count) → first_after test count more i ≡ r
      → (j : ℕ) → (1 ≤ j) × (j ≤ count) → apart count i j < apart count i r → test j ≡ false
  nearest-within r found zero i of_i e j of_j near = unfold first_after in absurd (omega arith)
  nearest-within r found (suc more) i of_i e j of_j near =
      go
      (test (following count i)) (eqb j (following count i)) refl refl
      (λ a b. nearest-within r found more (following count i) (following-among count i some) a j of_j b)
    where
      go :
          (t u : Bool) → test (following count i) ≡ t → eqb j (following count i) ≡ u
          → (first_after test count more (following count i) ≡ r → apart count (following count i) j < apart count (following count i) r → test j ≡ false)
          → test j ≡ false
      go true u h f rest =
          let one : apart count i r ≡ 1 = ap (apart count i) (sym e ∙ first-yes test count more i h) ∙ apart-following count i of_i in
          absurd (omega (arith, one, near, (apart-among count i j of_i.1 of_j).0))
      go false true h f rest = ap test (eqb-true j (following count i) f) ∙ h
      go false false h f rest =
          let later : first_after test count more (following count i) ≡ r = sym (first-no test count more i h) ∙ e in
          let holds = first_holds more (following count i) r later found in
          let other : r ≡ following count i → ⊥ = λ (g : r ≡ following count i). true-false (test r) holds.0 (ap test g ∙ h) in
          rest
          later
          (omega (arith, near, apart_next count i j of_i of_j (eqb-false j (following count i) f), apart_next count i r of_i holds.1 other))

  pub first-nearest :
      (i r : ℕ) → (1 ≤ i) × (i ≤ count) → first_after test count count i ≡ r → 1 ≤ r
      → (j : ℕ) → (1 ≤ j) × (j ≤ count) → apart count i j < apart count i r → test j ≡ false
  first-nearest i r of_i e found j of_j near = nearest-within r found count i of_i e j of_j near
