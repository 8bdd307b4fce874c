-- An opening's part of the file: where it lies, and what is written there.
use mathlib.Core.Path.{◌≡◌, sym, ap, ◌∙◌}
use mathlib.Core.List.{List, ◌++◌, append_assoc}
use Prim.Native.Nat.{ℕ, ◌+◌, ◌-◌, ◌*◌, ◌≤◌}
use native.Mathlib.Nat.{add-mul}
use native.Mathlib.Omega.{arith}
use lib.ListN.{length, take, drop, take-append-drop}
use lib.Seq.{take-add, drop-drop, length-take-le}
use Rattle.base.specs.Bytes.{written}
use Rattle.base.proofs.WrittenLaws.{written_over}
use Rattle.base.proofs.Parts.{part_length}
use Rattle.tree.specs.Openings.{opening_size}
use Rattle.file_head.specs.Layout.{head_size, opening_from, file_size}
use Rattle.file_head.proofs.HeadLaws.{opening-inside}

-- ---- where it lies
module _ (n t i : ℕ) (low : 1 ≤ i) (high : i ≤ t) where
  -- the openings before it, and those from it on
  openings-split : t * opening_size n ≡ (i - 1) * opening_size n + (t + 1 - i) * opening_size n
  openings-split =
      let e : t ≡ i - 1 + (t + 1 - i) = omega arith in
      ap (λ (k : ℕ). k * opening_size n) e ∙ add-mul (i - 1) (t + 1 - i) (opening_size n)

  pub part-from :
      (size : ℕ) → size ≡ file_size n t
      → ((t + 1 - i) * opening_size n ≤ size) × (size - (t + 1 - i) * opening_size n ≡ opening_from n (head_size n t) i)
  unfolding file_size
  part-from size is = (omega (arith, openings-split), omega (arith, openings-split))

  pub part-fits : (file : ℕ) → file_size n t ≤ file → opening_from n (head_size n t) i + opening_size n ≤ file
  unfolding file_size
  part-fits file fits = omega (arith, opening-inside n t i low high)

-- ---- what is written there
spread : (bytes part : List ℕ) (at : ℕ) → written bytes at part ≡ take at bytes ++ (part ++ drop (at + length part) bytes)
unfolding written
spread bytes part at = append_assoc (take at bytes) part (drop (at + length part) bytes)

-- a part that was lent and came back
pub part-back :
    (bytes part : List ℕ) (at size : ℕ) → length part ≡ size
    → take at bytes ++ (part ++ drop size (drop at bytes)) ≡ written bytes at part
part-back bytes part at size e = rw (drop-drop, ← e) (sym (spread bytes part at))

pub written_same : (bytes : List ℕ) (at size : ℕ) → at + size ≤ length bytes → written bytes at (take size (drop at bytes)) ≡ bytes
unfolding written
written_same bytes at size fits =
    rw (part_length bytes at size fits, ← take-add at size bytes) (take-append-drop (at + size) bytes)

pub written-again :
    (bytes first second : List ℕ) (at : ℕ) → at + length first ≤ length bytes → length first ≡ length second
    → written (written bytes at first) at second ≡ written bytes at second
written-again bytes first second at fits e =
    rw (spread bytes first at, e, spread bytes second at)
    (written_over (take at bytes) first (drop (at + length second) bytes) second at (length-take-le at bytes (omega arith)) e)
