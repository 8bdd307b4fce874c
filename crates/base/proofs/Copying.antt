-- Laws of `written`, and of the loop that writes a part byte by byte.
use mathlib.Core.Path.{◌≡◌, sym, ◌∙◌}
use mathlib.Core.List.{List}
use Prim.Native.Nat.{ℕ, ◌+◌, ◌≤◌, ◌<◌}
use native.Mathlib.Numerals.{add-one}
use native.Mathlib.Omega.{arith}
use lib.ListN.{length, get_or, set, length-append, length-take, length-drop}
use lib.Seq.{paste, paste-suc, take_all, sets, sets-eq}
use Rattle.base.specs.Bytes.{written}

-- one byte more
pub copied-one :
    (d₀ d : List ℕ) (at : ℕ) (s : List ℕ) (i : ℕ) → d ≡ paste d₀ at s i → at + i < length d₀ → i < length s
    → set d (at + i) (get_or s i 0) ≡ paste d₀ at s (i + 1)
copied-one d₀ d at s i e hd hs = rw (add-one i, e) (paste-suc d₀ at s i 0 hd hs)

-- all of them
pub copied_all : (d₀ d : List ℕ) (at : ℕ) (s : List ℕ) (i : ℕ) → d ≡ paste d₀ at s i → i ≤ length s → length s ≤ i → d ≡ written d₀ at s
unfolding written
copied_all d₀ d at s i e hi hs = let n : i ≡ length s = omega arith in e ∙ rw (n, take_all (length s) s (omega arith))

pub length-written : (d : List ℕ) (at : ℕ) (s : List ℕ) → at + length s ≤ length d → length (written d at s) ≡ length d
unfolding written
length-written d at s h = simp (length-append, length-take, length-drop) (omega arith)

-- the same, byte after byte
pub written-sets : (d : List ℕ) (at : ℕ) (s : List ℕ) → at + length s ≤ length d → written d at s ≡ sets d at s
unfolding written
written-sets d at s h = sym (sets-eq s d at h)
