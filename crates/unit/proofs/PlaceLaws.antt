-- W-208: where run i's store lies in the slice, by the checks of the runs up to it.
use mathlib.Core.Path.{◌≡◌}
use mathlib.Core.Bool.{false}
use mathlib.Core.Logic.{◌⊎◌, inl, inr}
use mathlib.Core.List.{List}
use Prim.Native.Nat.{ℕ, ◌+◌, ◌≤◌, ◌<◌}
use native.Mathlib.Omega.{arith}
use lib.ListN.{length, take, drop}
use Rattle.base.specs.Row.{is_done}
use Rattle.base.proofs.ChoiceLaws.{lt-or-le}
use Rattle.base.proofs.RowLaws.{some-refused}
use Rattle.unit.specs.declared.StampingUnit.{StampingUnit}
use Rattle.unit.specs.Runs.{run_at, size_of, store_from, part_of}
use Rattle.unit.specs.Rows.{unit_row, place_row}
use Rattle.unit.specs.Turns.{place_offset, place_length}
use Rattle.unit.proofs.SumLaws.{sum-empty}
use Rattle.unit.proofs.RowLaws.{fits, named-done, named-row}

module _ (unit : StampingUnit) (store : ℕ) where
  -- ---- a run whose checks and those before it pass
  module _ (i : ℕ) (e : place_row unit i store ≡ 0) where
    pub place-offset : place_offset unit i store ≡ store_from unit.runs i
    unfolding place_offset
    place-offset = rw e

    pub place-length : place_length unit i store ≡ size_of (run_at unit.runs i)
    unfolding place_length
    place-length = rw e

    pub place-fits : store_from unit.runs i + size_of (run_at unit.runs i) ≤ store
    place-fits = let (some, named, each) = named-done unit i i store e in fits unit.runs store i (each i named.0 (omega arith))

    -- so is each run before it
    pub place-before : (j : ℕ) → 1 ≤ j → j ≤ i → place_row unit j store ≡ 0
    place-before j first few =
        let (some, named, each) = named-done unit i i store e in
        named-row unit j j store some (first, omega (arith, named.1)) (λ k a b. each k a (omega arith))

  -- ---- a run that has none
  module _ (i : ℕ) where
    pub no_place : is_done (place_row unit i store) ≡ false → (place_offset unit i store ≡ 0) × (place_length unit i store ≡ 0)
    unfolding place_offset place_length
    no_place e = (rw e, rw e)

    pub no-offset : 1 ≤ place_row unit i store → place_offset unit i store ≡ 0
    no-offset some = (no_place (some-refused (place_row unit i store) some)).0

    pub no_length : 1 ≤ place_row unit i store → place_length unit i store ≡ 0
    no_length some = (no_place (some-refused (place_row unit i store) some)).1

  -- ---- both
  abbrev HasPlace : ℕ → Type 0
  HasPlace i = (1 ≤ place_row unit i store) ⊎ (place_row unit i store ≡ 0)

  has-place : (i : ℕ) → HasPlace i
  has-place i = go (lt-or-le 0 (place_row unit i store))
    where
      go : (0 < place_row unit i store) ⊎ (place_row unit i store ≤ 0) → HasPlace i
      go (inl some) = inl some
      go (inr none) = inr (omega arith)

  pub first-place : place_offset unit 1 store ≡ 0
  first-place = go (has-place 1)
    where
      go : HasPlace 1 → place_offset unit 1 store ≡ 0
      go (inl some) = no-offset 1 some
      go (inr e) = omega (arith, place-offset 1 e, sum-empty (λ j. size_of (run_at unit.runs j)))

  pub place_inside : (i : ℕ) → place_offset unit i store + place_length unit i store ≤ store
  place_inside i = go (has-place i)
    where
      go : HasPlace i → place_offset unit i store + place_length unit i store ≤ store
      go (inl some) = omega (arith, no-offset i some, no_length i some)
      go (inr e) = omega (arith, place-offset i e, place-length i e, place-fits i e)

  -- each run of a unit that is not refused has a place
  pub each-place : unit_row unit store ≡ 0 → (i : ℕ) → (1 ≤ i) × (i ≤ unit.count) → place_row unit i store ≡ 0
  each-place e i among =
      let (some, named, each) = named-done unit unit.last unit.count store e in
      named-row unit i i store some among (λ k a b. each k a (omega (arith, among.1)))

-- its part of the slice is what lies there
pub place-part : (unit : StampingUnit) (store : List ℕ) (i : ℕ) → place_row unit i (length store) ≡ 0
    → part_of unit.runs store i ≡ take (place_length unit i (length store)) (drop (place_offset unit i (length store)) store)
place-part unit store i e = rw (place-offset unit (length store) i e, place-length unit (length store) i e)
