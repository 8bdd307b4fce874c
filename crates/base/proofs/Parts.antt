-- Parts of bytes: taken from a place on, and written.
use mathlib.Core.Path.{◌≡◌, ap, ◌∙◌}
use mathlib.Core.List.{List, [], ◌++◌, append_assoc, append-nil}
use Prim.Native.Nat.{ℕ, ◌+◌, ◌-◌, ◌≤◌}
use native.Mathlib.Nat.{zero-add}
use native.Mathlib.Omega.{arith}
use lib.ListN.{length, take, drop, length-append, length-take, length-drop}
use lib.Seq.{take_at, take_all, drop-drop, drop-length, length-take-le}
use borrow.Rule.Slice.PartMut.{put_mid}
use Rattle.base.specs.Bytes.{written}

-- a part from a start to an end is as long as they are apart
pub part-size : (bytes : List ℕ) (start size : ℕ) → take (start + size - start) (drop start bytes) ≡ take size (drop start bytes)
part-size bytes start size = let e : start + size - start ≡ size = omega arith in rw e

pub part_length : (bytes : List ℕ) (start size : ℕ) → start + size ≤ length bytes → length (take size (drop start bytes)) ≡ size
part_length bytes start size h = simp (length-take, length-drop) (omega arith)

-- the bytes from a place on
pub part-rest : (bytes : List ℕ) (start : ℕ) → take (length bytes - start) (drop start bytes) ≡ drop start bytes
part-rest bytes start = take_all (length bytes - start) (drop start bytes) (rw length-drop (omega arith))

-- bytes written over all of a list
pub whole-written : (d s : List ℕ) → length d ≡ length s → written d 0 s ≡ s
unfolding written
whole-written d s e =
    let none : drop (0 + length s) d ≡ [] = rw (zero-add, ← e) (drop-length d) in
    ap (λ (l : List ℕ). s ++ l) none ∙ append-nil s

-- bytes written behind the first of a list
pub written_behind : (d part : List ℕ) (len count : ℕ) → len ≤ length d → length part ≡ count
    → take (len + count) (written d len part) ≡ take len d ++ part
unfolding written
written_behind d part len count h n =
    take_at (take len d ++ part) (drop (len + length part) d) (len + count) (rw (length-append, length-take-le len d h, n))

-- a list whose lent part came back
pub lent_back : (bytes part : List ℕ) (at size : ℕ) → length part ≡ size → put_mid at (at + size - at) bytes part ≡ written bytes at part
unfolding written
lent_back bytes part at size e =
    let k : at + size - at ≡ size = omega arith in
    rw (k, e, drop-drop, append_assoc)
