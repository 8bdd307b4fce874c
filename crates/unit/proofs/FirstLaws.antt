-- The first run in turn of which labels remain, as a loop looks for it.
use mathlib.Core.Path.{◌≡◌, refl, ap, ◌∙◌}
use mathlib.Core.Bool.{Bool, true, false}
use mathlib.Core.List.{List}
use Prim.Native.Nat.{ℕ, suc, ◌-◌, ◌<◌}
use native.Mathlib.Omega.{arith}
use lib.Dec.{ltb}
use Rattle.base.specs.Choice.{pick}
use Rattle.unit.specs.declared.checks.Lane.{Lane}
use Rattle.unit.specs.Plans.{lane_at}
use Rattle.unit.specs.Turns.{following, first_after}

-- labels remain of run i
abbrev pub has_labels : List Lane → ℕ → Bool
has_labels lanes i = ltb 0 (lane_at lanes i).left

pub first-none : (test : ℕ → Bool) (count i : ℕ) → first_after test count 0 i ≡ 0
unfolding first_after
first-none test count i = refl

first_of : (test : ℕ → Bool) (count more i next : ℕ) → next ≡ following count i
    → first_after test count (suc more) i ≡ pick (test next) next (first_after test count more next)
unfolding first_after
first_of test count more i next is = rw is

module _ (test : ℕ → Bool) (count more i next : ℕ) (some : 0 < more) (is : next ≡ following count i) where
  by_next : first_after test count more i ≡ pick (test next) next (first_after test count (more - 1) next)
  by_next =
      let e : more ≡ suc (more - 1) = omega arith in
      ap (λ (m : ℕ). first_after test count m i) e ∙ first_of test count (more - 1) i next is

  pub first-here : test next ≡ true → first_after test count more i ≡ next
  first-here e = by_next ∙ rw e

  pub first-later : test next ≡ false → first_after test count more i ≡ first_after test count (more - 1) next
  first-later e = by_next ∙ rw e
