-- A label's input, written part by part into a zeroed buffer of a given width.
use mathlib.Core.Path.{◌≡◌, refl, sym, ap, ◌∙◌}
use mathlib.Core.List.{List, [], ◌∷◌, ◌++◌, append_assoc, reverse, reverse-append}
use Prim.Native.Nat.{ℕ, ◌+◌, ◌-◌, ◌%◌, ◌≤◌}
use native.Mathlib.Omega.{arith}
use lib.ListN.{length, take, length-append}
use lib.Seq.{take_at}
use Rattle.base.specs.Limits.{max_depth}
use Rattle.base.specs.Bytes.{big_endian, joined, zeros, written}
use Rattle.base.proofs.BytesLaws.{length-big_endian, length-joined, joined-append}
use Rattle.base.proofs.Zeros.{filled_more}
use Rattle.tree.specs.Nodes.{Node, node}
use Rattle.tree.specs.Labels.{ordered, tag, input_head, document_input, in_labels}
use Rattle.tree.proofs.Ordered.{ordered-length, ordered-each, ordered-first, ordered-later}
use Rattle.tree.proofs.Cut.{length-labels, labels-sizes, labels_append, bytes_back}
use Rattle.tree.proofs.DocumentRule.{length-head}

-- the labels of two parts in the order hashed: as they lie, or the second part's and then the first's, the last first
module _ (edition : ℕ) (front rest : List ℕ) (whole : length front % 32 ≡ 0) (whole₂ : length rest % 32 ≡ 0) where
  pub labels-first : edition ≡ 1 → joined (ordered edition (in_labels (front ++ rest))) ≡ front ++ rest
  labels-first e = ap joined (ordered-first edition e _) ∙ bytes_back (front ++ rest) (rw length-append (omega arith))

  pub labels-later :
      (edition ≡ 1 → ⊥)
      → joined (ordered edition (in_labels (front ++ rest))) ≡ joined (reverse (in_labels rest)) ++ joined (reverse (in_labels front))
  labels-later other =
      ap joined
      (ordered-later edition other _ ∙ ap reverse (labels_append front rest whole whole₂)
      ∙ reverse-append (in_labels front) (in_labels rest))
      ∙ joined-append (reverse (in_labels rest)) (reverse (in_labels front))

module _ (edition n : ℕ) (statement : List ℕ) (level position : ℕ) (front rest : List ℕ) where
  abbrev v : Node
  v = node level position

  abbrev head : List ℕ
  head = input_head edition n statement v

  abbrev input : List ℕ
  input = document_input edition n statement v (in_labels (front ++ rest))

  -- the labels' bytes in the order hashed
  abbrev labels : List ℕ
  labels = joined (ordered edition (in_labels (front ++ rest)))

  labels_length : (length front + length rest) % 32 ≡ 0 → length labels ≡ length front + length rest
  labels_length even =
      let size : length (front ++ rest) ≡ length front + length rest = length-append front rest in
      let parts = labels-sizes (front ++ rest) (omega arith) in
      rw (length-joined 32 _ (ordered-each edition 32 _ parts), ordered-length, length-labels) (omega arith)

  pub input-length : length statement ≡ 32 → (length front + length rest) % 32 ≡ 0 → length input ≡ 41 + length front + length rest
  unfolding document_input
  input-length whole even = rw (length-append, length-head edition n statement whole v, labels_length even) (omega arith)

  module _
      (width : ℕ) (whole : length statement ≡ 32) (inside : level ≤ n) (small : n ≤ max_depth)
      (fits : 41 + length front + length rest ≤ width) (byte : ℕ) (place b0 b1 b2 b3 b4 : List ℕ)
      (zeroed : b0 ≡ zeros width) (eb : byte ≡ tag edition n level) (e : place ≡ big_endian 8 position) (e1 : b1 ≡ written b0 0 statement)
      (e2 : b2 ≡ written b1 32 (byte ∷ [])) (e3 : b3 ≡ written b2 33 place) (e4 : b4 ≡ written b3 41 labels)
    where
      after-statement : b1 ≡ statement ++ zeros (width - 32)
      after-statement =
          let none : width ≡ width - 0 = omega arith in
          e1 ∙ rw whole at (filled_more width b0 [] statement 0 (zeroed ∙ ap zeros none) refl (omega arith))

      after_tag : b2 ≡ (statement ++ tag edition n level ∷ []) ++ zeros (width - 33)
      after_tag =
          e2
          ∙ filled_more width b1 statement (byte ∷ []) 32 after-statement whole (omega arith)
          ∙ ap (λ (x : ℕ). (statement ++ x ∷ []) ++ zeros (width - 33)) eb

      after-head : b3 ≡ head ++ zeros (width - 41)
      unfolding input_head
      after-head =
          let size : length (statement ++ tag edition n level ∷ []) ≡ 33 = simp length-append (omega arith) in
          e3
          ∙ ap (λ (l : List ℕ). written b2 33 l) e
          ∙ rw (length-big_endian 8 position, append_assoc statement (tag edition n level ∷ []) (big_endian 8 position)) at
          (filled_more width b2 (statement ++ tag edition n level ∷ []) (big_endian 8 position) 33 after_tag size
          (rw (length-big_endian 8 position) (omega arith)))

      pub laid : (length front + length rest) % 32 ≡ 0 → b4 ≡ input ++ zeros (width - (41 + length front + length rest))
      unfolding document_input
      laid even =
          let count : length labels ≡ length front + length rest = labels_length even in
          let all : 41 + length labels ≡ 41 + length front + length rest = omega arith in
          e4
          ∙ rw all at
          (filled_more width b3 head labels 41 after-head (length-head edition n statement whole v) (omega arith))

-- the first bytes of such a buffer are the input, and zeros follow
pub front_of : (b input : List ℕ) (width size : ℕ) → length input ≡ size → b ≡ input ++ zeros (width - size)
    → (take size b ≡ input) × (b ≡ take size b ++ zeros (width - size))
front_of b input width size long e =
    let there : take size b ≡ input = ap (take size) e ∙ take_at input (zeros (width - size)) size long in
    (there, e ∙ ap (λ (l : List ℕ). l ++ zeros (width - size)) (sym there))
