-- The next label's blocks are those of its node: its input has the length that the node's parents give it.
use mathlib.Core.Path.{◌≡◌, refl, sym, ap, ◌∙◌}
use mathlib.Core.Bool.{Bool, true, false}
use mathlib.Core.List.{List, [], ◌++◌}
use Prim.Native.Nat.{ℕ, ◌+◌, ◌-◌, ◌*◌, ◌/◌, ◌%◌, ◌^◌, ◌≤◌, ◌<◌}
use native.Mathlib.Nat.{mul-le-mul_right, mod-lt, mod-eq_of_lt}
use native.Mathlib.Omega.{arith}
use borrow.Author.Tests.{eqb-true, eqb-false}
use lib.Count.{ones}
use lib.Dec.{eqb}
use lib.ListN.{length, take, drop, length-take, length-drop}
use lib.Pow.{pow-add, pow_pos, split}
use Rattle.base.specs.Choice.{pick}
use Rattle.base.specs.Limits.{max_depth, held_size}
use Rattle.sha256.specs.Padding.{blocks_of}
use Rattle.sha256.specs.Digest.{blocks_hashed}
use Rattle.sha256.proofs.Digests.{blocks-hashed}
use Rattle.tree.specs.Nodes.{node}
use Rattle.tree.specs.Walk.{nodes_in}
use Rattle.tree.specs.Labels.{document_input, in_labels}
use Rattle.tree.proofs.InputLengths.{size-of-leaf, size-of-inner}
use Rattle.labelling.specs.Step.{next_node, hashed_labels}
use Rattle.labelling.specs.Blocks.{next_blocks, node_blocks}
use Rattle.labelling.proofs.Filled.{input-length}
use Rattle.labelling.proofs.OneStep.{place-le, next_level, next-ones, next_way}

module _ (height level position made l p : ℕ) (few : made < nodes_in height) (is : node l p ≡ next_node height (node level position) made)
    (inside : position < 2 ^ level) where
  abbrev n : ℕ
  n = level + height

  abbrev place : ℕ
  place = ones (p % 2 ^ (l - level))

  pub next-inside : p < 2 ^ l
  next-inside =
      let j : ℕ = l - level in
      let up : p / 2 ^ j ≡ position = next_way height level position made l p few is in
      let whole : p / 2 ^ j * 2 ^ j + p % 2 ^ j ≡ p = split p j in
      let most : (position + 1) * 2 ^ j ≤ 2 ^ level * 2 ^ j = mul-le-mul_right {m = position + 1} {n = 2 ^ level} (2 ^ j) (omega arith) in
      let all : 2 ^ (level + j) ≡ 2 ^ level * 2 ^ j = pow-add 2 level j in
      let e : level + j ≡ l = omega (arith, next_level height level position made l p few is) in
      let low : p % 2 ^ j < 2 ^ j = mod-lt p (pow_pos j) in
      let under : p < 2 ^ (level + j) = rw all (omega (arith, rw up at whole)) in
      rw e at under

  module _ (edition : ℕ) (statement front held : List ℕ) (whole : length statement ≡ 32) (small : n ≤ max_depth)
      (size : length front ≡ 32 * ones position) (places : length held ≡ held_size) where
    -- labels of a number of parents in front and behind
    counted : (front' rest : List ℕ) (parents : ℕ) → length front' + length rest ≡ 32 * parents
        → blocks_hashed (document_input edition n statement (node l p) (in_labels (front' ++ rest))) ≡ blocks_of (41 + 32 * parents)
    counted front' rest parents e =
        blocks-hashed (document_input edition n statement (node l p) (in_labels (front' ++ rest)))
        ∙ ap blocks_of (input-length edition n statement l p front' rest whole (rw e (omega arith)) ∙ omega arith)

    by_kind : (t : Bool) → eqb l n ≡ t
        → blocks_hashed
        (document_input edition n statement (node l p) (in_labels (pick t (front ++ take (32 * place) held) (take 64 (drop (32 * place) held)))))
        ≡ node_blocks n (node l p)
    by_kind true e =
        let leaf : l ≡ n = eqb-true l n e in
        let fits : length front + length (take (32 * place) held) ≡ 32 * ones p =
        rw length-take (omega (arith, next-ones height level position made l p few is, place-le (l - level) p)) in
        counted front (take (32 * place) held) (ones p) fits
        ∙ ap blocks_of (sym (size-of-leaf n (node l p) leaf (rw leaf at next-inside)))
    by_kind false e =
        let inner : l < n = omega (arith, eqb-false l n e, next_level height level position made l p few is) in
        let fits : 0 + length (take 64 (drop (32 * place) held)) ≡ 32 * 2 =
        rw (length-take, length-drop) (omega (arith, place-le (l - level) p)) in
        counted [] (take 64 (drop (32 * place) held)) 2 fits ∙ ap blocks_of (sym (size-of-inner n (node l p) inner))

    pub next-blocks : next_blocks edition statement height (node level position) front held made ≡ node_blocks n (node l p)
    unfolding next_blocks hashed_labels
    next-blocks = rw (← is) (by_kind (eqb l n) refl)

    -- by the number of parents, as they are computed
    at-leaf :
        l ≡ n → (parents : ℕ) → parents ≡ ones (p % 2 ^ n)
        → blocks_of (41 + 32 * parents) ≡ next_blocks edition statement height (node level position) front held made
    at-leaf leaf parents e =
        let in_tree : p < 2 ^ n = rw leaf at next-inside in
        let all : parents ≡ ones p = e ∙ ap ones (mod-eq_of_lt in_tree) in
        rw all (ap blocks_of (sym (size-of-leaf n (node l p) leaf in_tree))) ∙ sym next-blocks

    pub leaf-blocks :
        (depth : ℕ) → n ≡ depth → l ≡ depth → (parents : ℕ) → parents ≡ ones (p % 2 ^ depth)
        → blocks_of (41 + 32 * parents) ≡ next_blocks edition statement height (node level position) front held made
    leaf-blocks depth all leaf parents e = at-leaf (leaf ∙ sym all) parents (rw all e)

    pub inner-blocks :
        (depth : ℕ) → n ≡ depth → (l ≡ depth → ⊥)
        → blocks_of (41 + 32 * 2) ≡ next_blocks edition statement height (node level position) front held made
    inner-blocks depth all ne =
        let inner : l < n = omega (arith, ne, next_level height level position made l p few is) in
        ap blocks_of (sym (size-of-inner n (node l p) inner)) ∙ sym next-blocks
