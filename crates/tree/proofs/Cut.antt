-- Bytes cut into parts of one size, and into labels: laid end to end again they are the bytes, and the other way round.
use mathlib.Core.Path.{◌≡◌, refl, sym, ap, ◌∙◌}
use Prim.Native.Nat.{ℕ, zero, suc, ◌+◌, ◌-◌, ◌*◌, ◌/◌, ◌%◌, ◌≤◌}
use native.Mathlib.Nat.{zero-mul, suc-mul}
use native.Mathlib.Omega.{arith}
use mathlib.Core.List.{List, [], ◌∷◌, ◌++◌, append-nil, reverse, reverse-cons}
use lib.ListN.{length, take, drop, length-drop, length-reverse, take-append-drop}
use lib.Seq.{take_at, drop_at, drop-drop, length-take-le}
use Rattle.base.specs.Bytes.{joined}
use Rattle.base.specs.Lists.{EachOf}
use Rattle.base.proofs.BytesLaws.{length-joined, joined-append}
use Rattle.tree.specs.Labels.{Label, cut, in_labels}

rest-size : (w k : ℕ) (bytes : List ℕ) → length bytes ≡ suc k * w → (w ≤ length bytes) × (length (drop w bytes) ≡ k * w)
rest-size w k bytes e =
    let all : suc k * w ≡ k * w + w = suc-mul k w in
    (omega arith, rw length-drop (omega arith))

module _ (w : ℕ) where
  pub length_cut : (k : ℕ) (bytes : List ℕ) → length (cut w k bytes) ≡ k
  unfolding cut
  length_cut zero bytes = refl
  length_cut (suc k) bytes = ap suc (length_cut k (drop w bytes))

  pub cut-sizes : (k : ℕ) (bytes : List ℕ) → length bytes ≡ k * w → EachOf w (cut w k bytes)
  unfolding cut
  cut-sizes zero bytes e = tt
  cut-sizes (suc k) bytes e =
      let rest = rest-size w k bytes e in
      (length-take-le w bytes rest.0, cut-sizes k (drop w bytes) rest.1)

  pub joined-cut : (k : ℕ) (bytes : List ℕ) → length bytes ≡ k * w → joined (cut w k bytes) ≡ bytes
  unfolding cut joined
  joined-cut zero [] e = refl
  joined-cut zero (x ∷ bytes) e = absurd (omega (arith, zero-mul w))
  joined-cut (suc k) bytes e = rw (joined-cut k (drop w bytes) (rest-size w k bytes e).1) (take-append-drop w bytes)

  cut-joined : (xs : List (List ℕ)) → EachOf w xs → cut w (length xs) (joined xs) ≡ xs
  unfolding cut joined
  cut-joined [] each = refl
  cut-joined (x ∷ xs) each = rw (take_at x (joined xs) w each.0, drop_at x (joined xs) w each.0, cut-joined xs each.1)

-- ---- labels
pub each_append : {A : Type 0} (w : ℕ) (xs ys : List (List A)) → EachOf w xs → EachOf w ys → EachOf w (xs ++ ys)
each_append w [] ys e f = f
each_append w (x ∷ xs) ys e f = (e.0, each_append w xs ys e.1 f)

pub each-reverse : {A : Type 0} (w : ℕ) (xs : List (List A)) → EachOf w xs → EachOf w (reverse xs)
each-reverse w [] each = tt
each-reverse w (x ∷ xs) each = rw (reverse-cons x xs) (each_append w (reverse xs) (x ∷ []) (each-reverse w xs each.1) (each.0, tt))

pub labels-back : (labels : List Label) → EachOf 32 labels → in_labels (joined labels) ≡ labels
unfolding in_labels
labels-back labels each =
    let count : length (joined labels) / 32 ≡ length labels = omega (arith, length-joined 32 labels each) in
    rw count (cut-joined 32 labels each)

pub two-labels : (x y : Label) → length x ≡ 32 → length y ≡ 32 → in_labels (x ++ y) ≡ x ∷ y ∷ []
unfolding joined
two-labels x y a b = rw append-nil at (labels-back (x ∷ y ∷ []) (a, (b, tt)))

pub bytes_back : (bytes : List ℕ) → length bytes % 32 ≡ 0 → joined (in_labels bytes) ≡ bytes
unfolding in_labels
bytes_back bytes whole = joined-cut 32 (length bytes / 32) bytes (omega arith)

pub length-labels : (bytes : List ℕ) → length (in_labels bytes) ≡ length bytes / 32
unfolding in_labels
length-labels bytes = length_cut 32 (length bytes / 32) bytes

pub labels-sizes : (bytes : List ℕ) → length bytes % 32 ≡ 0 → EachOf 32 (in_labels bytes)
unfolding in_labels
labels-sizes bytes whole = cut-sizes 32 (length bytes / 32) bytes (omega arith)

-- the labels of two parts, one behind the other
pub labels_append :
    (a b : List ℕ) → length a % 32 ≡ 0 → length b % 32 ≡ 0 → in_labels (a ++ b) ≡ in_labels a ++ in_labels b
labels_append a b whole whole₂ =
    let parts : joined (in_labels a ++ in_labels b) ≡ a ++ b = rw (joined-append, bytes_back a whole, bytes_back b whole₂) in
    ap in_labels (sym parts)
    ∙ labels-back (in_labels a ++ in_labels b)
    (each_append 32 (in_labels a) (in_labels b) (labels-sizes a whole) (labels-sizes b whole₂))

pub length-last-first : (bytes : List ℕ) → length bytes % 32 ≡ 0 → length (joined (reverse (in_labels bytes))) ≡ length bytes
length-last-first bytes whole =
    let labels : List Label = in_labels bytes in
    rw (
      length-joined 32 (reverse labels) (each-reverse 32 labels (labels-sizes bytes whole)),
      length-reverse labels,
      length-labels bytes,
    ) (omega arith)

-- the labels from a place on, the last first: those behind the first of them, and then that one
pub last-first :
    (bytes : List ℕ) (from : ℕ) → from + 32 ≤ length bytes → (length bytes - from) % 32 ≡ 0
    → joined (reverse (in_labels (drop from bytes)))
    ≡ joined (reverse (in_labels (drop (from + 32) bytes))) ++ take 32 (drop from bytes)
unfolding joined
last-first bytes from inside whole =
    let first : Label = take 32 (drop from bytes) in
    let others : List ℕ = drop (from + 32) bytes in
    let size : length first ≡ 32 = length-take-le 32 (drop from bytes) (rw length-drop (omega arith)) in
    let split : drop from bytes ≡ first ++ others = sym (take-append-drop 32 (drop from bytes)) ∙ rw drop-drop in
    let alone : in_labels first ≡ first ∷ [] = rw append-nil at (labels-back (first ∷ []) (size, tt)) in
    ap (λ (b : List ℕ). joined (reverse (in_labels b))) split
    ∙ rw (labels_append first others (omega arith) (rw length-drop (omega arith)), alone, reverse-cons first (in_labels others), joined-append, append-nil)
