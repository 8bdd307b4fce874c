-- The comparison's checks: one law for each return, and what they leave.
use mathlib.Core.Path.{◌≡◌, refl, sym, ◌∙◌}
use Prim.Native.Nat.{ℕ, ◌*◌, ◌≤◌, ◌<◌}
use native.Mathlib.Nat.{mul-le-mul_right}
use native.Mathlib.Omega.{arith}
use mathlib.Core.Bool.{true, false}
use mathlib.Core.List.{List, ◌∷◌, ◌++◌}
use lib.ListN.{length}
use borrow.Author.Tests.{lt-ltb, le-ltb, ltb-false}
use Rattle.base.specs.Limits.{max_depth, max_challenges, max_openings, IsDepth, IsCount}
use Rattle.base.specs.declared.refusal.Refusal.{Refusal}
use Rattle.base.specs.Number.{number_of}
use Rattle.base.specs.Row.{first_of, no_edition, is_done}
use Rattle.base.proofs.RowLaws.{NoneHolds, none-holds, row-refused, row-passed, not_done}
use Rattle.base.proofs.Ranges.{range-of}
use Rattle.tree.specs.Openings.{opening_size}
use Rattle.chain.specs.Leaves.{leaves_checks, leaves_row}
use Rattle.chain.proofs.Rows.{passed}
use Rattle.compare.specs.Comparison.{size_checks, compare_row, compared, first_disagreement}
use Rattle.std.specs.Prelude.{None}
use Rattle.compare.specs.Table.{Sized}

-- what the checks of the leaves leave
module _ (n : ℕ) (leaves : List ℕ) (done : leaves_row 1 n leaves ≡ 0) where
  pub depth-known : IsDepth n
  depth-known = range-of 1 max_depth n (passed 1 n leaves done).0

  pub count-known : IsCount (length leaves)
  count-known = range-of 1 max_challenges (length leaves) (passed 1 n leaves done).1.0

  -- the size of all openings
  pub all_fit : length leaves * opening_size n ≤ max_openings
  all_fit = omega (arith, depth-known, mul-le-mul_right {m = length leaves} {n = max_challenges} (opening_size n) count-known.1)

module _ (edition n : ℕ) (leaves : List ℕ) (size : ℕ) where
  pub edition-refused : no_edition edition ≡ true → 12 ≡ compare_row edition n leaves size
  unfolding compare_row
  edition-refused e = rw e

  module _ (exists : no_edition edition ≡ false) where
    -- the checks after the edition's
    later-checks : compare_row edition n leaves size ≡ first_of (leaves_checks 1 n leaves ++ size_checks n leaves size)
    unfolding compare_row
    later-checks = rw exists

    pub leaves-refused : (r : Refusal) → number_of r ≡ leaves_row 1 n leaves → number_of r ≡ compare_row edition n leaves size
    unfolding leaves_row
    leaves-refused r e =
        e ∙ sym (later-checks ∙ row-refused (leaves_checks 1 n leaves) (size_checks n leaves size) (not_done r (leaves_row 1 n leaves) e))

    module _ (done : leaves_row 1 n leaves ≡ 0) where
      size-check : compare_row edition n leaves size ≡ first_of (size_checks n leaves size)
      size-check = later-checks ∙ row-passed (leaves_checks 1 n leaves) (size_checks n leaves size) (passed 1 n leaves done)

      pub size-short : size < length leaves * opening_size n → 10 ≡ compare_row edition n leaves size
      size-short h = sym (size-check ∙ rw (lt-ltb size (length leaves * opening_size n) h))

      module _ (enough : length leaves * opening_size n ≤ size) where
        pub size-long : length leaves * opening_size n < size → 13 ≡ compare_row edition n leaves size
        size-long h = sym (size-check ∙ rw (le-ltb size (length leaves * opening_size n) enough, lt-ltb (length leaves * opening_size n) size h))

        pub size-right : size ≤ length leaves * opening_size n → 0 ≡ compare_row edition n leaves size
        size-right h = sym (size-check ∙ rw (le-ltb size (length leaves * opening_size n) enough, le-ltb (length leaves * opening_size n) size h))

-- what is left when none refuses
module _ (edition n : ℕ) (leaves openings : List ℕ) (done : compare_row edition n leaves (length openings) ≡ 0) where
  all-passed : NoneHolds ((no_edition edition, 12) ∷ leaves_checks 1 n leaves ++ size_checks n leaves (length openings))
  unfolding compare_row
  all-passed = none-holds ((no_edition edition, 12) ∷ leaves_checks 1 n leaves ++ size_checks n leaves (length openings)) refl done

  pub sized : Sized n leaves openings
  sized =
      record {
        most = (range-of 1 max_depth n all-passed.1.0).1;
        few = (range-of 1 max_challenges (length leaves) all-passed.1.1.0).1;
        whole =
            omega (
              arith,
              ltb-false (length openings) (length leaves * opening_size n) all-passed.1.1.1.1.0,
              ltb-false (length leaves * opening_size n) (length openings) all-passed.1.1.1.1.1.0,
            );
      }

-- what is compared
pub compared-done : (edition : ℕ) (statement : List ℕ) (n : ℕ) (leaves openings : List ℕ) → compare_row edition n leaves (length openings) ≡ 0
    → compared edition statement n leaves openings ≡ first_disagreement edition statement n leaves openings
unfolding compared
compared-done edition statement n leaves openings e = rw e

pub compared-refused : (edition : ℕ) (statement : List ℕ) (n : ℕ) (leaves openings : List ℕ)
    → is_done (compare_row edition n leaves (length openings)) ≡ false → compared edition statement n leaves openings ≡ None
unfolding compared
compared-refused edition statement n leaves openings e = rw e
