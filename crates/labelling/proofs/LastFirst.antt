-- Labels written one after the other, the last first, and two parts in the order hashed.
use mathlib.Core.Path.{◌≡◌, refl, sym, ap, ◌∙◌}
use Prim.Native.Nat.{ℕ, ◌+◌, ◌-◌, ◌%◌, ◌≤◌}
use native.Mathlib.Omega.{arith}
use mathlib.Core.List.{List, [], ◌++◌, reverse, append_assoc, append-nil}
use lib.ListN.{length, take, drop, length-append, length-drop, drop_of_length-le}
use lib.Seq.{take_at, drop_at}
use Rattle.base.specs.Bytes.{joined, written}
use Rattle.base.proofs.WrittenLaws.{written_none, written-append}
use Rattle.tree.specs.Labels.{ordered, in_labels, cut}
use Rattle.tree.proofs.Cut.{length-last-first, last-first}
use Rattle.labelling.proofs.Filled.{labels-first, labels-later}

-- what holds while labels are taken off the back of src: those that are taken are written, from `at` up to `to`
pub record LastWritten (d dst src rest : List ℕ) (at to : ℕ) : Type 0 where
  pub whole : length rest % 32 ≡ 0
  pub inside : length rest ≤ length src
  pub cut_at : src ≡ rest ++ drop (length rest) src
  pub size : length dst ≡ length d
  pub reached : to ≡ at + (length src - length rest)
  pub done : dst ≡ written d at (joined (reverse (in_labels (drop (length rest) src))))

-- before the first
pub none-written : (d src : List ℕ) (at : ℕ) → length src % 32 ≡ 0 → LastWritten d d src src at at
unfolding in_labels cut joined
none-written d src at whole =
    let nothing : drop (length src) src ≡ [] = drop_of_length-le src {i = length src} (omega arith) in
    record {
      whole = whole;
      inside = omega arith;
      cut_at = rw nothing (sym (append-nil src));
      size = refl;
      reached = omega arith;
      done = rw nothing (sym (written_none d at));
    }

-- one more: the last label of those that are left
pub one-written :
    (d dst src rest rest' label dst' : List ℕ) (at to : ℕ) → LastWritten d dst src rest at to → rest ≡ rest' ++ label → length label ≡ 32
    → length src % 32 ≡ 0 → at + length src ≤ length d → dst' ≡ written dst to label → length dst' ≡ length dst
    → LastWritten d dst' src rest' at (to + 32)
one-written d dst src rest rest' label dst' at to w last long all fits is same =
    let behind : List ℕ = drop (length rest) src in
    let parts : src ≡ rest' ++ (label ++ behind) = w.cut_at ∙ ap (λ (r : List ℕ). r ++ behind) last ∙ append_assoc rest' label behind in
    let rest-after : drop (length rest') src ≡ label ++ behind = ap (drop (length rest')) parts ∙ drop_at rest' (label ++ behind) (length rest') refl in
    let next : length rest' + 32 ≡ length rest = omega (arith, simp length-append at (ap length last)) in
    let first : take 32 (drop (length rest') src) ≡ label = ap (take 32) rest-after ∙ take_at label behind 32 long in
    let written-now : List ℕ = joined (reverse (in_labels behind)) in
    let count : length written-now ≡ length src - length rest =
    rw (length-last-first behind (rw length-drop (omega (arith, w.whole))), length-drop) in
    let place : to ≡ at + length written-now = omega (arith, w.reached) in
    let labels : joined (reverse (in_labels (drop (length rest') src))) ≡ written-now ++ label =
    rw (next, first) at (last-first src (length rest') (omega arith) (omega (arith, w.whole))) in
    record {
      whole = omega (arith, w.whole);
      inside = omega (arith, w.inside);
      cut_at = parts ∙ ap (λ (l : List ℕ). rest' ++ l) (sym rest-after);
      size = same ∙ w.size;
      reached = omega (arith, w.reached);
      done = is
          ∙ (λ i. written (w.done i) (place i) label)
          ∙ sym (written-append d at written-now label (rw length-append (omega arith)))
          ∙ ap (written d at) (sym labels);
    }

-- all labels are taken
pub all-written : (d dst src rest : List ℕ) (at to : ℕ) → LastWritten d dst src rest at to → length rest ≡ 0
    → dst ≡ written d at (joined (reverse (in_labels src)))
all-written d dst src rest at to w none = rw none at w.done

-- one part behind the other
parts-written :
    (d a b d₁ d₂ : List ℕ) (at size : ℕ) → length a ≡ size → d₁ ≡ written d at a → d₂ ≡ written d₁ (at + size) b
    → at + size + length b ≤ length d → d₂ ≡ written d at (a ++ b)
parts-written d a b d₁ d₂ at size long e₁ e₂ fits =
    e₂ ∙ rw (e₁, ← long) (sym (written-append d at a b (rw length-append (omega arith))))

module _
    (edition : ℕ) (d front rest d₁ d₂ : List ℕ) (whole : length front % 32 ≡ 0) (whole₂ : length rest % 32 ≡ 0)
    (fits : 41 + length front + length rest ≤ length d) where
  pub first-written :
      edition ≡ 1 → d₁ ≡ written d 41 front → d₂ ≡ written d₁ (41 + length front) rest
      → d₂ ≡ written d 41 (joined (ordered edition (in_labels (front ++ rest))))
  first-written e e₁ e₂ =
      parts-written d front rest d₁ d₂ 41 (length front) refl e₁ e₂ fits ∙ ap (written d 41) (sym (labels-first edition front rest whole whole₂ e))

  pub later-written :
      (edition ≡ 1 → ⊥) → d₁ ≡ written d 41 (joined (reverse (in_labels rest)))
      → d₂ ≡ written d₁ (41 + length rest) (joined (reverse (in_labels front)))
      → d₂ ≡ written d 41 (joined (ordered edition (in_labels (front ++ rest))))
  later-written other e₁ e₂ =
      parts-written d (joined (reverse (in_labels rest))) (joined (reverse (in_labels front))) d₁ d₂ 41 (length rest)
      (length-last-first rest whole₂) e₁ e₂
      (rw (length-last-first front whole) (omega arith))
      ∙ ap (written d 41) (sym (labels-later edition front rest whole whole₂ other))
