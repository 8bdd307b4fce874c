-- A list written part by part into zeros.
use mathlib.Core.Path.{◌≡◌, refl, sym, ap, ◌∙◌}
use mathlib.Core.List.{List, ◌++◌}
use Prim.Native.Nat.{ℕ, ◌+◌, ◌-◌, ◌≤◌}
use native.Mathlib.Omega.{arith}
use lib.ListN.{length, drop, length-replicate, replicate-append-replicate}
use lib.Seq.{take_at, drop_at, drop-append-add}
use Rattle.base.specs.Bytes.{zeros, written}

pub zeros-split : (k z : ℕ) → z ≤ k → zeros k ≡ zeros z ++ zeros (k - z)
zeros-split k z h = let e : z + (k - z) ≡ k = omega arith in sym (replicate-append-replicate z (k - z) 0 ∙ ap zeros e)

pub drop-zeros : (k z : ℕ) → z ≤ k → drop z (zeros k) ≡ zeros (k - z)
drop-zeros k z h = ap (λ (l : List ℕ). drop z l) (zeros-split k z h) ∙ drop_at (zeros z) (zeros (k - z)) z (length-replicate z 0)

-- a part written where the zeros begin
pub written-zeros : (m part : List ℕ) (k at : ℕ) → at ≡ length m → length part ≤ k
    → written (m ++ zeros k) at part ≡ (m ++ part) ++ zeros (k - length part)
unfolding written
written-zeros m part k at e h =
    rw e
    (ap (λ (l : List ℕ). l ++ part ++ drop (length m + length part) (m ++ zeros k)) (take_at m (zeros k) (length m) refl)
    ∙ ap (λ (l : List ℕ). m ++ part ++ l) (drop-append-add m (zeros k) (length part) ∙ drop-zeros k (length part) h))

-- a part more behind len bytes, in a buffer of a given width
pub filled_more : (width : ℕ) (b m part : List ℕ) (len : ℕ) → b ≡ m ++ zeros (width - len) → length m ≡ len → len + length part ≤ width
    → written b len part ≡ (m ++ part) ++ zeros (width - (len + length part))
filled_more width b m part len e n fits =
    let k : width - len - length part ≡ width - (len + length part) = omega arith in
    rw (e, ← k) (written-zeros m part (width - len) len (sym n) (omega arith))
