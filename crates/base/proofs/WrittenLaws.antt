-- What stands in a list after a part is written over it.
use borrow.Rule.Slice.PartMut.{put_mid, post_of, Post-is}
use mathlib.Core.Path.{◌≡◌, sym, ap, ◌∙◌}
use mathlib.Core.Logic.{◌⊎◌, inl, inr}
use mathlib.Core.List.{List, [], ◌∷◌, ◌++◌, append_assoc, append-nil}
use Prim.Native.Nat.{ℕ, suc, ◌+◌, ◌-◌, ◌≤◌, ◌<◌}
use native.Mathlib.Nat.{zero-add}
use native.Mathlib.Numerals.{add-one}
use native.Mathlib.Omega.{arith}
use lib.ListN.{length, get_or, take, drop, set, length-set, take-append-drop, length-append, length-take, length-drop, get_or-append}
use lib.Seq.{take_at, drop_at, take-append_seam, drop-append-add, drop-drop, length-take-le, get_or-append-add, get_or-take, get_or-drop, ext_get_or}
use Rattle.base.proofs.Copying.{length-written, written-sets}
use Rattle.base.specs.Bytes.{written}

-- a part written over another of its length
pub written_over :
    (a b c part : List ℕ) (at : ℕ) → length a ≡ at → length b ≡ length part → written (a ++ (b ++ c)) at part ≡ a ++ (part ++ c)
unfolding written
written_over a b c part at e f =
    let there : drop (at + length part) (a ++ (b ++ c)) ≡ c = rw (← e, drop-append-add) (drop_at b c (length part) f) in
    rw (there, take_at a (b ++ c) at e) (append_assoc a part c)

-- two parts side by side, one after the other
pub written-two :
    (a b c d first second : List ℕ) (at size : ℕ) → length a ≡ at → length first ≡ size → length b ≡ size
    → length c ≡ length second
    → written (written (a ++ (b ++ (c ++ d))) at first) (at + size) second ≡ a ++ (first ++ (second ++ d))
written-two a b c d first second at size e f g h =
    rw (written_over a b (c ++ d) first at e (g ∙ sym f), ← append_assoc a first (c ++ d))
    (written_over (a ++ first) c d second (at + size) (rw (length-append, e, f)) h ∙ append_assoc a first (second ++ d))

-- a part behind what is written over the front
pub written_next : (out m part b : List ℕ) (at : ℕ) → b ≡ written out 0 m → at ≡ length m
    → written b at part ≡ written out 0 (m ++ part)
unfolding written
written_next out m part b at e n =
    rw (
      e,
      n,
      zero-add,
      zero-add,
      take-append_seam m (drop (length m) out),
      drop-append-add m (drop (length m) out) (length part),
      drop-drop,
      length-append,
    )

-- three parts over the front, one behind the other
pub written-three : (out a b c o1 o2 o3 : List ℕ) (second third : ℕ) → o1 ≡ written out 0 a → o2 ≡ written o1 second b
    → o3 ≡ written o2 third c → second ≡ length a → third ≡ second + length b → o3 ≡ written out 0 (a ++ b ++ c)
written-three out a b c o1 o2 o3 second third e1 e2 e3 s2 s3 =
    e3
    ∙ written_next out (a ++ b) c o2 third (e2 ∙ written_next out a b o1 second e1 s2)
    (s3 ∙ ap (λ (k : ℕ). k + length b) s2 ∙ sym (length-append a b))

-- what stands behind the part
pub drop-written :
    (bytes part : List ℕ) (at from : ℕ) → at + length part ≤ length bytes → at + length part ≤ from
    → drop from (written bytes at part) ≡ drop from bytes
unfolding written
drop-written bytes part at from fits behind =
    let n : length (take at bytes ++ part) ≡ at + length part =
    length-append (take at bytes) part ∙ ap (λ (k : ℕ). k + length part) (length-take-le at bytes (omega arith)) in
    let j : ℕ = from - (at + length part) in
    let e : length (take at bytes ++ part) + j ≡ from = omega arith in
    let f : at + length part + j ≡ from = omega arith in
    ap (λ (k : ℕ). drop k (take at bytes ++ part ++ drop (at + length part) bytes)) (sym e)
    ∙ drop-append-add (take at bytes ++ part) (drop (at + length part) bytes) j
    ∙ drop-drop j (at + length part) bytes
    ∙ ap (λ (k : ℕ). drop k bytes) f

-- what was written stands there, and all else as before
module _ (bytes part : List ℕ) (at : ℕ) (fits : at + length part ≤ length bytes) where
  pub written-here : (size : ℕ) → length part ≡ size → take size (drop at (written bytes at part)) ≡ part
  unfolding written
  written-here size e =
      rw (append_assoc, drop_at (take at bytes) _ at (length-take-le at bytes (omega arith)))
      (take_at part _ size e)

  pub written-else : (i : ℕ) → (i < at) ⊎ (at + length part ≤ i) → get_or (written bytes at part) i 0 ≡ get_or bytes i 0
  unfolding written
  written-else i (inl a) =
      let e : length (take at bytes) ≡ at = length-take-le at bytes (omega arith) in
      rw append_assoc
      (get_or-append (take at bytes) _ 0 i (omega arith) ∙ get_or-take at bytes i 0 a)
  written-else i (inr a) =
      let e : length (take at bytes ++ part) ≡ at + length part =
      length-append (take at bytes) part ∙ ap (λ (c : ℕ). c + length part) (length-take-le at bytes (omega arith)) in
      let j : ℕ = i - (at + length part) in
      let f : i ≡ length (take at bytes ++ part) + j = omega arith in
      let g : at + length part + j ≡ i = omega arith in
      ap (λ (x : ℕ). get_or (take at bytes ++ part ++ drop (at + length part) bytes) x 0) f
      ∙ get_or-append-add (take at bytes ++ part) (drop (at + length part) bytes) j 0
      ∙ get_or-drop (at + length part) bytes j 0
      ∙ ap (λ (x : ℕ). get_or bytes x 0) g

  pub written_apart :
      (from size : ℕ) → (from + size ≤ at) ⊎ (at + length part ≤ from)
      → take size (drop from (written bytes at part)) ≡ take size (drop from bytes)
  written_apart from size apart =
      ext_get_or 0 _ _
      (simp (length-take, length-drop, length-written bytes at part fits))
      (λ i small.
      let a : i < size = omega (arith, rw length-take at small) in
      rw (
        get_or-take size (drop from (written bytes at part)) i 0 a,
        get_or-take size (drop from bytes) i 0 a,
        get_or-drop from (written bytes at part) i 0,
        get_or-drop from bytes i 0,
      )
      (written-else (from + i) (go i a apart)))
    where
      go : (i : ℕ) → i < size → (from + size ≤ at) ⊎ (at + length part ≤ from) → (from + i < at) ⊎ (at + length part ≤ from + i)
      go i a (inl b) = inl (omega arith)
      go i a (inr b) = inr (omega arith)

-- a part written element by element
pub written_none : (d : List ℕ) (at : ℕ) → written d at [] ≡ d
unfolding written
written_none d at = let e : at + length {A = ℕ} [] ≡ at = omega arith in rw (e, append-nil) (take-append-drop at d)

pub written_one : (d : List ℕ) (at x : ℕ) (xs : List ℕ) → at + length (x ∷ xs) ≤ length d → written d at (x ∷ xs) ≡ written (set d at x) (at + 1) xs
written_one d at x xs h =
    rw (add-one at)
    (written-sets d at (x ∷ xs) h ∙ sym (written-sets (set d at x) (suc at) xs (rw length-set (omega arith))))

pub written-append : (d : List ℕ) (at : ℕ) (a b : List ℕ) → at + length (a ++ b) ≤ length d
    → written d at (a ++ b) ≡ written (written d at a) (at + length a) b
written-append d at [] b h = let e : at + length {A = ℕ} [] ≡ at = omega arith in rw (written_none d at, e)
written-append d at (x ∷ a) b h =
    let k : at + length (x ∷ a) ≤ length d = omega (arith, length-append a b) in
    let e : at + length (x ∷ a) ≡ at + 1 + length a = omega arith in
    rw (written_one d at x (a ++ b) h, written_one d at x a k, e)
    (written-append (set d at x) (at + 1) a b (rw length-set (omega arith)))

-- a part of a slice replaced by as many bytes, as std says it
pub put_mid-written : (bytes part : List ℕ) (at : ℕ) → put_mid at (at + length part - at) bytes part ≡ written bytes at part
unfolding written
put_mid-written bytes part at =
    sym (append_assoc (take at bytes) part (post_of at (at + length part - at) bytes))
    ∙ ap (λ (l : List ℕ). (take at bytes ++ part) ++ l) (Post-is at (at + length part) bytes (omega arith))
