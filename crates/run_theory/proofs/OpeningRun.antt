-- Over a store as a finished run left it: what an opening holds after k labels, and that its output at the end is the tree's
-- opening of the leaf.
use mathlib.Core.Path.{◌≡◌, refl, sym, ap, ◌∙◌}
use Prim.Native.Nat.{ℕ, zero, suc, ◌+◌, ◌-◌, ◌/◌, ◌^◌, ◌≤◌, ◌<◌}
use native.Mathlib.Numerals.{add-one}
use native.Mathlib.Omega.{arith}
use mathlib.Core.Bool.{Bool, true, false}
use mathlib.Core.List.{List, [], ◌∷◌, ◌++◌, map, append_assoc, append-nil}
use lib.Dec.{eqb}
use lib.ListN.{length, take, drop, get_or, length-map}
use lib.Seq.{take-suc}
use lib.Pow.{shr_lt}
use borrow.Author.Tests.{eqb-true}
use Rattle.base.specs.Limits.{max_depth}
use Rattle.base.specs.Choice.{pick}
use Rattle.base.specs.Bytes.{joined}
use Rattle.machine.proofs.StepLaws.{steps-reach}
use Rattle.tree.specs.Nodes.{Node, node, root, order_below, left_siblings}
use Rattle.tree.specs.Labels.{Label}
use Rattle.tree.specs.Walk.{nodes_in}
use Rattle.tree.specs.Held.{among}
use Rattle.tree.specs.Openings.{siblings, opening_nodes, opening_size}
use Rattle.tree.specs.TreeOpening.{tree_opening}
use Rattle.tree.proofs.Order.{order-length}
use Rattle.tree.proofs.OpeningLaws.{left-siblings-same, tree-leaf, tree-sibling}
use Rattle.labelling.specs.Rule.{stamp_rule}
use Rattle.labelling.specs.Step.{next_node, next_label, held_with}
use Rattle.opening.specs.Rows.{nodes_anew}
use Rattle.opening_places.specs.Places.{label_in, ancestor, beside, placed, copied, copied_all, front}
use Rattle.opening.specs.Steps.{stepped, steps, opening_machine}
use Rattle.run_theory.specs.Reached.{label_of, labels_of, held_bytes}
use Rattle.run_theory.specs.Openings.{HoldsLabels, opening_node, besides, copied_nodes, anew_nodes, out_with, out_after, new_open, open_after}
use Rattle.run_theory.proofs.Step.{next-label, next-held, held_none}
use Rattle.run_theory.proofs.Parts.{joined-whole}
use Rattle.run_theory.proofs.Places.{cell, out_with-append, length-with, beyond-with, cell-with}
use Rattle.run_theory.proofs.Anew.{anew-count, way-inside, beside-inside, opening-within, opening-made}

-- ---- the start
module _ (edition : ℕ) (statement : List ℕ) (n m leaf : ℕ) (store : List ℕ) (holds : HoldsLabels edition statement n m store)
    (inside : leaf < 2 ^ n) where
  -- the labels in front are read from the store
  pub front-labels : m ≤ n → front n m leaf store ≡ labels_of edition statement n (left_siblings m (leaf / 2 ^ (n - m)))
  unfolding front
  front-labels le =
      ap joined
      (left-siblings-same (label_in store) (label_of edition statement n) m (leaf / 2 ^ (n - m))
      (λ h j e o.
      let sum : m ≡ suc j + h = omega arith in
      let top : leaf / 2 ^ (n - m) < 2 ^ (suc j + h) = rw (← sum) (way-inside n leaf m inside le) in
      let small : leaf / 2 ^ (n - m) / 2 ^ h < 2 ^ suc j = shr_lt (suc j) h top in
      holds (node (suc j) (leaf / 2 ^ (n - m) / 2 ^ h - 1)) (omega arith, omega arith)))

  copied-with :
      (out : List ℕ) (l : ℕ) → l ≤ m → m ≤ n → copied n leaf store out l ≡ out_with edition statement n leaf (besides n leaf l) out
  unfolding copied besides out_with
  copied-with out zero small le = refl
  copied-with out (suc l) small le =
      let w : Node = beside n leaf (suc l) in
      let same : label_in store w ≡ label_of edition statement n w =
      holds w (small, beside-inside n leaf l inside (omega arith)) in
      rw (out_with-append edition statement n leaf (besides n leaf l) (w ∷ []) out, copied-with out l (omega arith) le, same)

  copied-by :
      (out : List ℕ) → m ≤ n → (t : Bool) → eqb m n ≡ t
      → copied_all n m leaf store out ≡ out_with edition statement n leaf (copied_nodes n m leaf) out
  unfolding copied_all copied_nodes out_with
  copied-by out le true e =
      let level : m ≡ n = eqb-true m n e in
      let same : label_in store (node n leaf) ≡ label_of edition statement n (node n leaf) = holds (node n leaf) (omega arith, inside) in
      rw (e, out_with-append edition statement n leaf (besides n leaf m) (node n leaf ∷ []) out, copied-with out m (omega arith) le, same)
  copied-by out le false e = rw (e, append-nil) (copied-with out m (omega arith) le)

  pub opening-start :
      (out : List ℕ) → m ≤ n
      → new_open edition statement n m leaf store out ≡ open_after edition statement n m leaf 0 out
  unfolding out_after anew_nodes
  opening-start out le =
      rw (← held_none edition statement n (n - m) (ancestor n leaf m), append-nil, copied-by out le (eqb m n) refl)

-- ---- one label more
out_step :
    (edition : ℕ) (statement : List ℕ) (n m leaf k : ℕ) (out : List ℕ) (w : Node) → k < nodes_in (n - m)
    → next_node (n - m) (ancestor n leaf m) k ≡ w
    → placed n leaf (out_after edition statement n m leaf k out) w (label_of edition statement n w) ≡ out_after edition statement n m leaf (k + 1) out
unfolding out_after anew_nodes out_with
out_step edition statement n m leaf k out w small e =
    let xs : List Node = order_below (n - m) (ancestor n leaf m) in
    let more : take (k + 1) xs ≡ take k xs ++ w ∷ [] =
    rw (add-one k, ← e) (take-suc xs k root (omega (arith, order-length (n - m) (ancestor n leaf m)))) in
    rw (more, ← append_assoc) (sym (out_with-append edition statement n leaf (copied_nodes n m leaf ++ take k xs) (w ∷ []) out))

module _
    (edition : ℕ) (statement : List ℕ) (n m leaf : ℕ) (store out : List ℕ) (holds : HoldsLabels edition statement n m store)
    (shallow : n ≤ max_depth) (le : m ≤ n) (inside : leaf < 2 ^ n) where
  pub opening-step :
      (k : ℕ) → k < nodes_anew n m
      → stepped store (open_after edition statement n m leaf k out) ≡ open_after edition statement n m leaf (k + 1) out
  unfolding stepped
  opening-step k small =
      let h : ℕ = n - m in
      let v : Node = ancestor n leaf m in
      let w : Node = next_node h v k in
      let fits : m + h ≡ n = omega arith in
      let few : k < nodes_in h = omega (arith, anew-count n m) in
      let label : next_label edition statement h v (front n m leaf store) (held_bytes edition statement n h v k) k
      ≡ label_of edition statement n w =
      rw (front-labels edition statement n m leaf store holds inside le) (next-label edition statement n h k v fits shallow few) in
      let held : held_with h v (held_bytes edition statement n h v k) w (label_of edition statement n w)
      ≡ held_bytes edition statement n h v (k + 1) =
      next-held edition statement n h k v fits shallow few in
      let put : placed n leaf (out_after edition statement n m leaf k out) w (label_of edition statement n w)
      ≡ out_after edition statement n m leaf (k + 1) out =
      out_step edition statement n m leaf k out w few refl in
      rw (label, held, put)

  -- the opening after k labels
  pub opening-reached :
      (k : ℕ) → k ≤ nodes_anew n m
      → steps store k (new_open edition statement n m leaf store out)
      ≡ open_after edition statement n m leaf k out
  unfolding opening_machine
  opening-reached =
      steps-reach (opening_machine store) (λ k. open_after edition statement n m leaf k out) (nodes_anew n m)
      (new_open edition statement n m leaf store out)
      (opening-start edition statement n m leaf store holds inside out le) opening-step

-- ---- the output
tree-at-place :
    (edition : ℕ) (statement : List ℕ) (n leaf i : ℕ) → i ≤ n
    → tree_opening (stamp_rule edition n statement) n leaf i ≡ label_of edition statement n (opening_node n leaf i)
unfolding opening_node
tree-at-place edition statement n leaf zero small = tree-leaf (stamp_rule edition n statement) n leaf
tree-at-place edition statement n leaf (suc h) small =
    let level : suc (n - suc h) ≡ n - h = omega arith in
    rw (← level) (tree-sibling (stamp_rule edition n statement) n leaf h (n - suc h) (omega arith))

siblings-count : (l p : ℕ) → length (siblings l p) ≡ l
unfolding siblings
siblings-count zero p = refl
siblings-count (suc l) p = ap suc (siblings-count l (p / 2))

opening-count : (edition : ℕ) (statement : List ℕ) (n leaf : ℕ) → length (map (label_of edition statement n) (opening_nodes n leaf)) ≡ n + 1
unfolding opening_nodes
opening-count edition statement n leaf = rw (length-map, siblings-count n leaf, add-one n)

module _
    (edition : ℕ) (statement : List ℕ) (n m leaf : ℕ) (out : List ℕ) (deep : 1 ≤ n) (le : m ≤ n) (fits : opening_size n ≤ length out) where
  pub length-after : (k : ℕ) → k ≤ nodes_anew n m → length (out_after edition statement n m leaf k out) ≡ length out
  unfolding out_after
  length-after k small =
      length-with edition statement n leaf (copied_nodes n m leaf ++ anew_nodes n m leaf k) out (opening-within n m leaf deep le k small) fits

  -- after k labels: each place holds its label if that is copied or made, and else what it held; no byte behind changes
  pub cell-after :
      (k : ℕ) → k ≤ nodes_anew n m → (i : ℕ) → i ≤ n
      → cell (out_after edition statement n m leaf k out) i
      ≡ pick (among (copied_nodes n m leaf ++ anew_nodes n m leaf k) (opening_node n leaf i))
      (label_of edition statement n (opening_node n leaf i)) (cell out i)
  unfolding out_after
  cell-after k small i place =
      cell-with edition statement n leaf (copied_nodes n m leaf ++ anew_nodes n m leaf k) out (opening-within n m leaf deep le k small) fits i place

  pub beyond-after :
      (k : ℕ) → k ≤ nodes_anew n m
      → drop (opening_size n) (out_after edition statement n m leaf k out) ≡ drop (opening_size n) out
  unfolding out_after
  beyond-after k small =
      beyond-with edition statement n leaf (copied_nodes n m leaf ++ anew_nodes n m leaf k) out (opening-within n m leaf deep le k small) fits

  cell-done :
      (i : ℕ) → i < length (map (label_of edition statement n) (opening_nodes n leaf))
      → cell (out_after edition statement n m leaf (nodes_anew n m) out) i ≡ get_or (map (label_of edition statement n) (opening_nodes n leaf)) i []
  unfolding tree_opening
  cell-done i few =
      let place : i ≤ n = omega (arith, opening-count edition statement n leaf) in
      rw (cell-after (nodes_anew n m) (omega arith) i place, opening-made n m leaf deep le i place)
      (sym (tree-at-place edition statement n leaf i place))

  -- at the end the output is the tree's opening of the leaf, and behind it as it was
  pub opening-done :
      out_after edition statement n m leaf (nodes_anew n m) out ≡ labels_of edition statement n (opening_nodes n leaf) ++ drop (opening_size n) out
  opening-done =
      let xs : List Label = map (label_of edition statement n) (opening_nodes n leaf) in
      let last : ℕ = nodes_anew n m in
      joined-whole 32 xs (out_after edition statement n m leaf last out) cell-done
      ∙ rw (opening-count edition statement n leaf, beyond-after last (omega arith))
