-- What a file's head says: what is found of it, and the numbers that `--at-least` wants.
use mathlib.Core.Path.{◌≡◌}
use mathlib.Core.List.{List}
use Prim.Native.Nat.{ℕ, ◌≤◌}
use native.Mathlib.Omega.{arith}
use Rattle.file_head.specs.Head.{head_of, head_depth, head_count}
use Rattle.drawing_text.specs.Heads.{at_least}

-- a file is held against its own numbers just where they are at least those asked for
pub own-wanted : (bytes : List ℕ) (depth count : ℕ) → let own = head_of bytes in
    (depth ≤ head_depth own) × (count ≤ head_count own)
    → (at_least depth (head_depth own) ≡ head_depth own) × (at_least count (head_count own) ≡ head_count own)
own-wanted bytes depth count h = (omega (arith, h), omega (arith, h))

pub only-own-wanted : (bytes : List ℕ) (depth count : ℕ) → let own = head_of bytes in
    (at_least depth (head_depth own) ≡ head_depth own) × (at_least count (head_count own) ≡ head_count own)
    → (depth ≤ head_depth own) × (count ≤ head_count own)
only-own-wanted bytes depth count h = (omega (arith, h), omega (arith, h))
