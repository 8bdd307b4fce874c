-- How many groups a number has, for any number of groups allowed.
use mathlib.Core.Path.{◌≡◌, refl, sym, ◌∙◌, ap}
use mathlib.Core.Logic.{⊎_elim}
use Prim.Native.Nat.{ℕ, zero, suc, ◌+◌, ◌-◌, ◌/◌, ◌^◌, ◌≤◌, ◌<◌}
use native.Mathlib.Nat.{suc-add}
use native.Mathlib.Omega.{arith}
use lib.ListN.{length, get_or}
use Rattle.groups.specs.Groups.{groups}
use Rattle.groups.proofs.Steps.{groups-last, groups-more, rest_below, two-left}
use Rattle.base.proofs.ChoiceLaws.{lt-or-le}

-- at most k groups
pub length-groups-le : (k x : ℕ) → length (groups k x) ≤ k
unfolding groups
length-groups-le zero x = omega arith
length-groups-le (suc k) x =
    ⊎_elim (λ h. rw (groups-last k x h) (omega arith)) (λ h. rw (groups-more k x h) (omega (arith, length-groups-le k (x / 128))))
    (lt-or-le x 128)

-- at least one group
pub length-groups-pos : (k x : ℕ) → 0 < k → 0 < length (groups k x)
length-groups-pos zero x p = omega arith
length-groups-pos (suc k) x p = ⊎_elim (λ h. rw (groups-last k x h) (omega arith)) (λ h. rw (groups-more k x h) (omega arith)) (lt-or-le x 128)

-- each group is a byte
pub groups-bytes : (k x i : ℕ) → get_or (groups k x) i 0 < 256
unfolding groups
groups-bytes zero x i = omega arith
groups-bytes (suc k) x zero = ⊎_elim (λ h. rw (groups-last k x h) (omega arith)) (λ h. rw (groups-more k x h) (omega arith)) (lt-or-le x 128)
groups-bytes (suc k) x (suc i) =
    ⊎_elim (λ h. rw (groups-last k x h) (omega arith)) (λ h. rw (groups-more k x h) (groups-bytes k (x / 128) i)) (lt-or-le x 128)

-- a number that k groups hold has the same groups where more are allowed
pub groups-enough : (k more x : ℕ) → 0 < k → x < 128 ^ k → groups (k + more) x ≡ groups k x
groups-enough zero more x p h = absurd (omega arith)
groups-enough (suc k) more x p h =
    ⊎_elim (λ l. rw (suc-add k more, groups-last (k + more) x l, groups-last k x l))
    (λ m.
    rw (
      suc-add k more,
      groups-more (k + more) x m,
      groups-more k x m,
      groups-enough k more (x / 128) (omega (arith, two-left (suc k) x m h)) (rest_below (suc k) k x refl h),
    ))
    (lt-or-le x 128)

-- the groups of a number do not depend on how many are allowed
pub groups-same : (k j x : ℕ) → 0 < k → 0 < j → x < 128 ^ k → x < 128 ^ j → groups k x ≡ groups j x
groups-same k j x p q a b =
    ⊎_elim (λ h. let n : k + (j - k) ≡ j = omega arith in sym (groups-enough k (j - k) x p a) ∙ rw n)
    (λ h. let n : j + (k - j) ≡ k = omega arith in sym (ap (λ (m : ℕ). groups m x) n) ∙ groups-enough j (k - j) x q b)
    (lt-or-le k j)
