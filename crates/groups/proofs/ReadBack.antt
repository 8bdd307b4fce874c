-- What was written is read back, for any number of groups and whatever stands before and after.
use mathlib.Core.Path.{◌≡◌, refl, sym, ap, ◌∙◌}
use mathlib.Core.Bool.{Bool, true, false}
use mathlib.Core.Logic.{⊎_elim}
use mathlib.Core.List.{List, ◌∷◌, ◌++◌, append_assoc}
use Prim.Native.Nat.{ℕ, zero, suc, ◌+◌, ◌*◌, ◌/◌, ◌%◌, ◌^◌, ◌≤◌, ◌<◌}
use native.Mathlib.Nat.{div-add-mod'}
use native.Mathlib.Numerals.{add-one}
use native.Mathlib.Omega.{arith}
use borrow.Author.Tests.{ne_eqb, lt-leb, le-ltb}
use lib.Dec.{eqb, ltb}
use lib.ListN.{length, take, drop, get_or, length-drop}
use lib.Seq.{length-take-le, drop-cons, drop-append_seam}
use Rattle.base.specs.Choice.{both}
use Rattle.base.specs.Bytes.{written}
use Rattle.groups.specs.Groups.{groups, groups_of, max_groups}
use Rattle.groups.specs.Reading.{value, ended, read_from, read_at}
use Rattle.groups.specs.Writing.{put_row, output_after}
use Rattle.groups.proofs.Steps.{groups-last, groups-more, rest_below, two-left, read-last, read_more, next-weight, add-group, small}
use Rattle.base.proofs.ChoiceLaws.{lt-or-le}

-- the first of the bytes at a place
record Opened (bytes : List ℕ) (at byte : ℕ) (rest : List ℕ) : Type 0 where
  pub here : at < length bytes
  pub first : byte ≡ get_or bytes at 0
  pub after : drop (at + 1) bytes ≡ rest

opened : (bytes : List ℕ) (at byte : ℕ) (rest : List ℕ) → drop at bytes ≡ byte ∷ rest → Opened bytes at byte rest
opened bytes at byte rest e =
    let here : at < length bytes = omega (arith, sym (length-drop at bytes) ∙ ap length e) in
    let split : get_or bytes at 0 ∷ drop (suc at) bytes ≡ byte ∷ rest = sym (drop-cons bytes at 0 here) ∙ e in
    record { here = here; first = cc; after = rw (add-one at) (cc) }

-- a number is worth its low group and the rest
worth : (x weight : ℕ) → x % 128 * weight + x / 128 * (weight * 128) ≡ x * weight
worth x weight = add-group (x / 128) (x % 128) weight ∙ rw (div-add-mod' x 128)

same-value : {x y a b : ℕ} → x ≡ y → a ≡ b → value x a ≡ value y b
same-value p q = cc

-- the last group, and one with another after it
back_last : (left x i low weight at : ℕ) (bytes rest : List ℕ) → weight ≡ 128 ^ i → x < 128 → both (eqb x 0) (ltb 0 i) ≡ false
    → low + x * weight < 2 ^ 64 → drop at bytes ≡ x ∷ rest → read_from bytes at i low (suc left) ≡ value (low + x * weight) (at + 1)
unfolding ended
back_last left x i low weight at bytes rest w h s fits e =
    let o = opened bytes at x rest e in
    read-last bytes at i low (suc left) left x weight refl o.here o.first w h
    ∙ rw (s, small x h, lt-leb (2 ^ 64) (low + x * weight) fits)

back_more : (k left x i low weight at : ℕ) (bytes rest : List ℕ) → weight ≡ 128 ^ i → 128 ≤ x
    → drop at bytes ≡ (128 + x % 128) ∷ (groups k (x / 128) ++ rest)
    → (drop (at + 1) bytes ≡ groups k (x / 128) ++ rest
    → read_from bytes (at + 1) (i + 1) (low + x % 128 * weight) left
    ≡ value (low + x % 128 * weight + x / 128 * (weight * 128)) (at + 1 + length (groups k (x / 128))))
    → read_from bytes at i low (suc left) ≡ value (low + x * weight) (at + length (groups (suc k) x))
back_more k left x i low weight at bytes rest w h e more =
    let o = opened bytes at (128 + x % 128) (groups k (x / 128) ++ rest) e in
    let same : (128 + x % 128) % 128 ≡ x % 128 = omega arith in
    rw (groups-more k x h)
    (read_more bytes at i low (suc left) left (128 + x % 128) weight refl o.here o.first w (omega arith)
    ∙ rw same (more o.after ∙ same-value (omega (arith, worth x weight)) (omega arith)))

-- reading the groups of a number from any group on
reads-back : (k left x i low weight at : ℕ) (bytes rest : List ℕ) → 0 < k → k ≤ left → weight ≡ 128 ^ i → x < 128 ^ k
    → both (eqb x 0) (ltb 0 i) ≡ false → low + x * weight < 2 ^ 64 → drop at bytes ≡ groups k x ++ rest
    → read_from bytes at i low left ≡ value (low + x * weight) (at + length (groups k x))
reads-back zero left x i low weight at bytes rest p l w b s fits e = absurd (omega arith)
reads-back (suc k) zero x i low weight at bytes rest p l w b s fits e = absurd (omega arith)
reads-back (suc k) (suc left) x i low weight at bytes rest p l w b s fits e =
    ⊎_elim
    (λ h. back_last left x i low weight at bytes rest w h s fits (rw (groups-last k x h) at e)
    ∙ rw (groups-last k x h) (same-value refl (omega arith)))
    (λ h. back_more k left x i low weight at bytes rest w h (rw (groups-more k x h) at e)
    (reads-back k left (x / 128) (i + 1) (low + x % 128 * weight) (weight * 128) (at + 1) bytes rest
    (omega (arith, two-left (suc k) x h b)) (omega arith) (next-weight weight i w) (rest_below (suc k) k x refl b)
    (rw (ne_eqb (x / 128) 0 (omega arith))) (omega (arith, worth x weight))))
    (lt-or-le x 128)

-- a single byte may be 0
single : (t : Bool) → both t (ltb 0 0) ≡ false
single true = refl
single false = refl

-- reading what was written gives back the number, with the place just after its groups
pub read-written : (k most x : ℕ) (before rest : List ℕ) → 0 < k → k ≤ most → x < 128 ^ k → x < 2 ^ 64
    → read_at (before ++ groups k x ++ rest) (length before) most ≡ value x (length before + length (groups k x))
unfolding read_at
read-written k most x before rest p l b fits =
    reads-back k most x 0 0 1 (length before) (before ++ groups k x ++ rest) rest p l refl b (single (eqb x 0)) (omega arith)
    (rw append_assoc (drop-append_seam before (groups k x ++ rest)))
    ∙ same-value (omega arith) refl

-- the same of a number that was written over other bytes
pub read-output : (k most x at : ℕ) (out : List ℕ) → 0 < k → k ≤ most → x < 128 ^ k → x < 2 ^ 64 → at ≤ length out
    → read_at (written out at (groups k x)) at most ≡ value x (at + length (groups k x))
unfolding written
read-output k most x at out p l b fits h =
    let n : length (take at out) ≡ at = length-take-le at out h in
    rw n at (read-written k most x (take at out) (drop (at + length (groups k x)) out) p l b fits)

-- every number of 64 bits is read back from where it was written, in as many groups as it takes
pub read-put : (x at : ℕ) (out : List ℕ) → x < 2 ^ 64 → at + length (groups_of x) ≤ length out
    → read_at (output_after out at x) at max_groups ≡ value x (at + length (groups_of x))
unfolding output_after put_row
read-put x at out fits room =
    rw (le-ltb (length out) (at + length (groups_of x)) room)
    (read-output max_groups max_groups x at out (omega arith) (omega arith) (omega arith) fits (omega arith))
