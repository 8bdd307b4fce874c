-- A power of two as the code makes it, 1 << height.
use mathlib.Core.Path.{◌≡◌}
use Prim.Native.Nat.{ℕ, ◌*◌, ◌%◌, ◌^◌, ◌≤◌}
use native.Mathlib.Nat.{mod-eq_of_lt, one-mul}
use native.Mathlib.Omega.{arith}
use lib.Pow.{pow-lt}
use Rattle.base.specs.Limits.{max_depth}

pub shifted_one : (height : ℕ) → height ≤ max_depth → (1 * 2 ^ height) % 2 ^ 64 ≡ 2 ^ height
shifted_one height small = rw (one-mul (2 ^ height)) (mod-eq_of_lt (pow-lt {i = height} {j = 64} (omega arith)))
