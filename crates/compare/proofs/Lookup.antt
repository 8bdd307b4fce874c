-- What the table tells: its test is the definition's, and so is the first pair; the inputs are the openings'.
use mathlib.Core.Path.{◌≡◌, refl, sym, ap, ◌∙◌}
use mathlib.Core.Bool.{Bool, true, false, not}
use mathlib.Core.List.{List}
use Prim.Native.Nat.{ℕ, suc, ◌+◌, ◌-◌, ◌*◌, ◌≤◌, ◌<◌}
use native.Mathlib.Omega.{arith}
use borrow.Author.Tests.{lt-ltb}
use lib.ListN.{length, take, drop, length-drop, take-append-drop}
use lib.Seq.{length-take-le, take-append-le, drop-append-le, drop-drop}
use Rattle.base.specs.Limits.{max_depth, max_challenges}
use Rattle.base.specs.Bytes.{joined}
use Rattle.base.specs.Lists.{EachOf, same_bytes}
use Rattle.base.proofs.BytesLaws.{joined-injective}
use Rattle.base.proofs.ListsLaws.{tells-bytes, test-false}
use Rattle.tree.specs.Labels.{Label, Rule, document_input, in_labels}
use Rattle.tree.specs.Disagreement.{Given32, way_node, shared, children_known}
use Rattle.tree.proofs.Cut.{labels-back}
use Rattle.tree.proofs.Clash.{children-count, children-sized, input-children, labels-agree, labels-disagree, unshared-agrees}
use Rattle.tree.specs.Openings.{opening_size}
use Rattle.labelling.specs.Rule.{stamp_rule}
use Rattle.labelling.proofs.RuleLaws.{stamp-hash}
use Rattle.base.proofs.Parts.{part_length}
use Rattle.opening_check.proofs.OneOpening.{given-labels}
use Rattle.compare.specs.declared.Pair.{Pair}
use Rattle.std.specs.Prelude.{Some, None}
use Rattle.compare.specs.FirstPair.{first_pair, Lies}
use Rattle.compare.specs.Table.{leaf_of}
use Rattle.compare.specs.Comparison.{given_of, disagreement, first_disagreement, input_of, clash_of}
use Rattle.compare.specs.Table.{Sized, TableOf, cell, table_disagreement, row_size, table_size}
use Rattle.compare.proofs.FirstPairLaws.{pair_same}
use Rattle.compare.proofs.FillingLaws.{opening-fits}

-- a part of a part
part-inside : (size from most : ℕ) (bytes : List ℕ) → from + size ≤ most → most ≤ length bytes
    → take size (drop from (take most bytes)) ≡ take size (drop from bytes)
part-inside size from most bytes h k =
    let n : length (take most bytes) ≡ most = length-take-le most bytes k in
    let m : size ≤ length (drop from (take most bytes)) = rw length-drop (omega arith) in
    sym (take-append-le size (drop from (take most bytes)) (drop most bytes) m)
    ∙ ap (take size) (sym (drop-append-le from (take most bytes) (drop most bytes) (omega arith)))
    ∙ ap (λ (l : List ℕ). take size (drop from l)) (take-append-drop most bytes)

module _ (edition : ℕ) (statement : List ℕ) (n : ℕ) (leaves openings first table : List ℕ) (sized : Sized n leaves openings)
    (wide : length table ≡ table_size)
    (full : TableOf edition statement n leaves openings (length leaves) first table) where
  abbrev r : Rule
  r = stamp_rule edition n statement

  abbrev known : ℕ → ℕ → List Label
  known i l = children_known r n (leaf_of leaves i) (given_of n openings i) l

  cell-known : (i l : ℕ) → 1 ≤ i → i ≤ length leaves → l < n → cell n table i l ≡ joined (known i l)
  unfolding cell
  cell-known i l a b h =
      let few : length leaves ≤ max_challenges = sized.few in
      let most : n ≤ max_depth = sized.most in
      let level : n - suc (n - (l + 1)) ≡ l = omega arith in
      let here = (full.rows (i - 1) (omega arith)).filled (n - (l + 1)) (omega arith) in
      let room : row_size ≤ length (drop (row_size * (i - 1)) table) = rw length-drop (omega arith) in
      sym
      (part-inside 64 (64 * (n - (l + 1))) row_size (drop (row_size * (i - 1)) table) (omega arith) room
      ∙ ap (take 64) (drop-drop (64 * (n - (l + 1))) (row_size * (i - 1)) table))
      ∙ rw level at here

  given-sized : (i : ℕ) → 1 ≤ i → i ≤ length leaves → Given32 n (given_of n openings i)
  given-sized i a b =
      let opening : List ℕ = take (opening_size n) (drop ((i - 1) * opening_size n) openings) in
      let size : length opening ≡ opening_size n =
      part_length openings ((i - 1) * opening_size n) (opening_size n)
      (omega (arith, opening-fits n (i - 1) (length leaves) (omega arith), sized.whole)) in
      given-labels n opening (omega arith)

  known-sized : (i l : ℕ) → 1 ≤ i → i ≤ length leaves → l < n → EachOf 32 (known i l)
  known-sized i l a b h =
      children-sized r n (leaf_of leaves i) (given_of n openings i) (stamp-hash edition n statement) (given-sized i a b) l h

  module _ (i j l : ℕ) (a : 1 ≤ i) (b : i ≤ length leaves) (c : 1 ≤ j) (d : j ≤ length leaves) (h : l < n) where
    cells_same : same_bytes (cell n table i l) (cell n table j l) ≡ true → known i l ≡ known j l
    cells_same e =
        joined-injective 32 (known i l) (known j l)
        (children-count r n (leaf_of leaves i) (given_of n openings i) l
        ∙ sym (children-count r n (leaf_of leaves j) (given_of n openings j) l))
        (known-sized i l a b h) (known-sized j l c d h)
        (sym (cell-known i l a b h) ∙ tells-bytes.equal (cell n table i l) (cell n table j l) e ∙ cell-known j l c d h)

    cells-differ : same_bytes (cell n table i l) (cell n table j l) ≡ false → known i l ≡ known j l → ⊥
    cells-differ e f =
        test-false tells-bytes (cell n table i l) (cell n table j l) e
        (cell-known i l a b h ∙ ap joined f ∙ sym (cell-known j l c d h))

    by-cells : (t : Bool) → shared n (leaf_of leaves i) (leaf_of leaves j) l ≡ true → same_bytes (cell n table i l) (cell n table j l) ≡ t
        → not (same_bytes (cell n table i l) (cell n table j l)) ≡ disagreement r n leaves openings i j l
    by-cells true s e =
        rw e
        (sym (labels-agree r n (leaf_of leaves i) (given_of n openings i) (leaf_of leaves j) (given_of n openings j) l h s (cells_same e)))
    by-cells false s e =
        rw e
        (sym (labels-disagree r n (leaf_of leaves i) (given_of n openings i) (leaf_of leaves j) (given_of n openings j) l h s (cells-differ e)))

    by-shared : (s : Bool) → shared n (leaf_of leaves i) (leaf_of leaves j) l ≡ s
        → table_disagreement n leaves table i j l ≡ disagreement r n leaves openings i j l
    unfolding table_disagreement
    by-shared true e = rw (lt-ltb l n h, e) (by-cells (same_bytes (cell n table i l) (cell n table j l)) e refl)
    by-shared false e =
        rw (lt-ltb l n h, e)
        (sym (unshared-agrees r n (leaf_of leaves i) (given_of n openings i) (leaf_of leaves j) (given_of n openings j) l e))

  pub pair-known : first_pair (table_disagreement n leaves table) n (length leaves) ≡ first_disagreement edition statement n leaves openings
  unfolding first_disagreement
  pair-known =
      pair_same
      (table_disagreement n leaves table)
      (disagreement r n leaves openings)
      n
      (length leaves)
      (λ i j l a b c h.
      by-shared i j l a (omega arith) (omega arith) c h (shared n (leaf_of leaves i) (leaf_of leaves j) l) refl)

  pub input-known : (i l : ℕ) → 1 ≤ i → i ≤ length leaves → l < n
      → document_input edition n statement (way_node n (leaf_of leaves i) l) (in_labels (cell n table i l))
      ≡ input_of edition statement n leaves openings i l
  input-known i l a b h =
      rw (cell-known i l a b h, labels-back (known i l) (known-sized i l a b h))
      (sym (input-children r n (leaf_of leaves i) (given_of n openings i) l h))

  -- what is answered when the table shows no pair, and when it shows one
  pub clash-none : None ≡ first_pair (table_disagreement n leaves table) n (length leaves)
      → None ≡ clash_of edition statement n leaves openings (first_disagreement edition statement n leaves openings)
  clash-none e = let none : first_disagreement edition statement n leaves openings ≡ None = sym pair-known ∙ sym e in rw none

  pub clash-some :
      (p : Pair) (first second : List ℕ) → Some p ≡ first_pair (table_disagreement n leaves table) n (length leaves) → Lies n (length leaves) p
      → first ≡ document_input edition n statement (way_node n (leaf_of leaves p.first) p.level) (in_labels (cell n table p.first p.level))
      → second ≡ document_input edition n statement (way_node n (leaf_of leaves p.second) p.level) (in_labels (cell n table p.second p.level))
      → Some (record { pair = p; first = first; second = second })
      ≡ clash_of edition statement n leaves openings (first_disagreement edition statement n leaves openings)
  clash-some p first second e lies f g =
      let some : first_disagreement edition statement n leaves openings ≡ Some p = sym pair-known ∙ sym e in
      let one = f ∙ input-known p.first p.level lies.first (omega (arith, lies.order, lies.second)) lies.level in
      let two = g ∙ input-known p.second p.level (omega (arith, lies.first, lies.order)) lies.second lies.level in
      rw some (λ i. Some (record { pair = p; first = one i; second = two i }))
