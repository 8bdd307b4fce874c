-- Laws of the openings behind a checkpoint: one that is cut short, right or not, and how many are taken.
use mathlib.Core.Path.{◌≡◌}
use mathlib.Core.Bool.{true, false}
use mathlib.Core.List.{List}
use Prim.Native.Nat.{ℕ, suc, ◌+◌, ◌-◌, ◌≤◌, ◌<◌}
use native.Mathlib.Nat.{zero-add}
use native.Mathlib.Omega.{arith}
use Rattle.base.specs.Limits.{max_depth, max_challenges}
use Rattle.base.specs.Row.{outside}
use Rattle.checkpoint.specs.Openings.{is_right, right_after, openings_taken}

-- ---- how many are taken
module _ (edition : ℕ) (statement root : List ℕ) (n : ℕ) (bytes : List ℕ) (t : ℕ) where
  pub no-depth : outside 1 max_depth n ≡ true → 0 ≡ openings_taken edition statement root n t bytes
  unfolding openings_taken
  no-depth e = rw e

  pub no-count : outside 1 max_depth n ≡ false → outside 1 max_challenges t ≡ true → 0 ≡ openings_taken edition statement root n t bytes
  unfolding openings_taken
  no-count e f = rw (e, f)

  -- none is taken yet, and all t are left
  pub none-taken : outside 1 max_depth n ≡ false → outside 1 max_challenges t ≡ false
      → openings_taken edition statement root n t bytes ≡ 0 + right_after edition statement root n bytes 0 (t - 0)
  unfolding openings_taken
  none-taken e f = let all : t - 0 ≡ t = omega arith in rw (e, f, all, zero-add)

  module _ (done : ℕ) where
    pub all-taken : t ≤ done → done + right_after edition statement root n bytes done (t - done) ≡ done
    unfolding right_after
    all-taken h = let none : t - done ≡ 0 = omega arith in rw none (omega arith)

    module _ (more : done < t) where
      one_left : t - done ≡ suc (t - (done + 1))
      one_left = omega arith

      pub next-wrong : is_right edition statement root n bytes (done + 1) ≡ false
          → done + right_after edition statement root n bytes done (t - done) ≡ done
      unfolding right_after
      next-wrong e = rw (one_left, e) (omega arith)

      pub next-right : is_right edition statement root n bytes (done + 1) ≡ true
          → done + right_after edition statement root n bytes done (t - done) ≡ done + 1 + right_after edition statement root n bytes (done + 1) (t - (done + 1))
      unfolding right_after
      next-right e = rw (one_left, e) (omega arith)
