-- Where an opening's labels lie in its output: each placed label changes its own 32 bytes and no other.
use mathlib.Core.Path.{◌≡◌, refl, sym, ap, ◌∙◌}
use mathlib.Core.Logic.{◌⊎◌, inl, inr}
use Prim.Native.Nat.{ℕ, zero, suc, ◌+◌, ◌-◌, ◌*◌, ◌/◌, ◌^◌, ◌≤◌, ◌<◌}
use native.Mathlib.Nat.{div-one}
use native.Mathlib.Numerals.{add-one}
use native.Mathlib.Omega.{arith}
use mathlib.Core.Bool.{Bool, true, false}
use mathlib.Core.List.{List, [], ◌∷◌, ◌++◌}
use lib.Dec.{ltb}
use lib.ListN.{length, take, drop}
use borrow.Author.Tests.{ltb-true, ltb-false}
use Rattle.base.specs.Bytes.{written}
use Rattle.base.specs.Choice.{pick, odd}
use Rattle.base.proofs.Copying.{length-written}
use Rattle.base.proofs.WrittenLaws.{written-here, written_apart}
use Rattle.tree.specs.Nodes.{Node, node, same_node}
use Rattle.tree.specs.Held.{among}
use Rattle.tree.specs.Labels.{Label}
use Rattle.tree.specs.Openings.{sibling, opening_size}
use Rattle.tree.proofs.Among.{same_node-true, same_node-refl, false-if-not, true-not-false, among-here, among_there}
use Rattle.tree.proofs.OpeningLaws.{sibling-differs}
use Rattle.opening_places.specs.Places.{beside, placed}
use Rattle.run_theory.specs.Reached.{label_of}
use Rattle.run_theory.specs.Openings.{opening_node, out_with}
use Rattle.run_theory.proofs.Step.{label-size}
use Rattle.run_theory.proofs.Parts.{written_behind}

-- the label at place i of an output
abbrev pub cell : List ℕ → ℕ → Label
cell out i = take 32 (drop (32 * i) out)

module _ (out : List ℕ) (label : Label) (size : length label ≡ 32) (j : ℕ) (fits : 32 * (j + 1) ≤ length out) where
  room : 32 * j + length label ≤ length out
  room = omega arith

  cell-here : cell (written out (32 * j) label) j ≡ label
  cell-here = written-here out label (32 * j) room 32 size

  cell_other : (i : ℕ) → (i ≡ j → ⊥) → cell (written out (32 * j) label) i ≡ cell out i
  cell_other i differ = written_apart out label (32 * j) room (32 * i) 32 (go (ltb i j) refl)
    where
      go : (t : Bool) → ltb i j ≡ t → (32 * i + 32 ≤ 32 * j) ⊎ (32 * j + length label ≤ 32 * i)
      go true e = inl (omega (arith, ltb-true i j e))
      go false e = inr (omega (arith, ltb-false i j e, differ))

module _ (n leaf : ℕ) where
  sibling-not-leaf : (h : ℕ) → h < n → node (n - h) (sibling (leaf / 2 ^ h)) ≡ node n leaf → ⊥
  sibling-not-leaf h small e =
      let z : h ≡ 0 = omega (arith, ap (λ (v : Node). v.level) e) in
      let f : sibling (leaf / 2 ^ h) ≡ leaf = ap (λ (v : Node). v.position) e in
      sibling-differs leaf (odd leaf) refl (rw (z, div-one leaf) at f)

  -- a label of the opening goes to its place
  placed_at :
      (out : List ℕ) (label : Label) (i : ℕ) → i ≤ n
      → placed n leaf out (opening_node n leaf i) label ≡ written out (32 * i) label
  unfolding placed opening_node
  placed_at out label zero small = rw (same_node-refl (node n leaf))
  placed_at out label (suc h) small =
      let w : Node = node (n - h) (sibling (leaf / 2 ^ h)) in
      let other : same_node w (node n leaf) ≡ false =
      false-if-not (same_node w (node n leaf)) (λ e. sibling-not-leaf h small (same_node-true w (node n leaf) e)) in
      let height : n - (n - h) ≡ h = omega arith in
      rw (other, height, same_node-refl w, add-one h)

  -- what a label does to the output
  data Placing (out : List ℕ) (w : Node) (label : Label) : Type 0 where
    kept : placed n leaf out w label ≡ out → Placing out w label
    put :
        (j : ℕ) → j ≤ n → opening_node n leaf j ≡ w → placed n leaf out w label ≡ written out (32 * j) label
        → Placing out w label

  placing : (out : List ℕ) (w : Node) (label : Label) → 1 ≤ w.level → w.level ≤ n → Placing out w label
  unfolding placed opening_node
  placing out w label low high =
      go (same_node w (node n leaf)) (same_node w (beside n leaf w.level)) refl refl
    where
      go :
          (s t : Bool) → same_node w (node n leaf) ≡ s → same_node w (beside n leaf w.level) ≡ t → Placing out w label
      go true t e f = put 0 (omega arith) (sym (same_node-true w (node n leaf) e)) (rw e)
      go false true e f =
          let back : n - (n - w.level) ≡ w.level = omega arith in
          put (suc (n - w.level)) (omega arith)
          (rw back (sym (same_node-true w (beside n leaf w.level) f)))
          (rw (e, f, add-one (n - w.level)))
      go false false e f = kept (rw (e, f))

-- each node is on one of levels 1 to n
abbrev pub Within : ℕ → List Node → Type 0
Within n ns = (u : Node) → among ns u ≡ true → (1 ≤ u.level) × (u.level ≤ n)

pick-twice : (s t : Bool) (x y : Label) → pick s x (pick t x y) ≡ pick (pick t true s) x y
pick-twice true true x y = refl
pick-twice true false x y = refl
pick-twice false true x y = refl
pick-twice false false x y = refl

module _ (edition : ℕ) (statement : List ℕ) (n leaf : ℕ) where
  module _ (out : List ℕ) (fits : opening_size n ≤ length out) (w : Node) (low : 1 ≤ w.level) (high : w.level ≤ n) where
    length-placed : length (placed n leaf out w (label_of edition statement n w)) ≡ length out
    length-placed = go (placing n leaf out w (label_of edition statement n w) low high)
      where
        go : Placing n leaf out w (label_of edition statement n w) → length (placed n leaf out w (label_of edition statement n w)) ≡ length out
        go (kept e) = ap length e
        go (put j small e f) =
            ap length f ∙ length-written out (32 * j) (label_of edition statement n w) (omega (arith, label-size edition statement n w))

    beyond-placed : drop (opening_size n) (placed n leaf out w (label_of edition statement n w)) ≡ drop (opening_size n) out
    beyond-placed = go (placing n leaf out w (label_of edition statement n w) low high)
      where
        go :
            Placing n leaf out w (label_of edition statement n w)
            → drop (opening_size n) (placed n leaf out w (label_of edition statement n w)) ≡ drop (opening_size n) out
        go (kept e) = ap (drop (opening_size n)) e
        go (put j small e f) =
            ap (drop (opening_size n)) f
            ∙ written_behind out (label_of edition statement n w) (32 * j) (opening_size n)
            (omega (arith, label-size edition statement n w)) (omega (arith, label-size edition statement n w))

    cell-placed :
        (i : ℕ) → i ≤ n
        → cell (placed n leaf out w (label_of edition statement n w)) i
        ≡ pick (same_node (opening_node n leaf i) w) (label_of edition statement n (opening_node n leaf i)) (cell out i)
    cell-placed i small = go (same_node (opening_node n leaf i) w) refl
      where
        other :
            same_node (opening_node n leaf i) w ≡ false → Placing n leaf out w (label_of edition statement n w)
            → cell (placed n leaf out w (label_of edition statement n w)) i ≡ cell out i
        other differ (kept e) = ap (λ o. cell o i) e
        other differ (put j le e f) =
            ap (λ o. cell o i) f
            ∙ cell_other out (label_of edition statement n w) (label-size edition statement n w) j (omega arith) i
            (λ same. true-not-false (rw (same, e) (same_node-refl w)) differ)

        go :
            (t : Bool) → same_node (opening_node n leaf i) w ≡ t
            → cell (placed n leaf out w (label_of edition statement n w)) i
            ≡ pick (same_node (opening_node n leaf i) w) (label_of edition statement n (opening_node n leaf i)) (cell out i)
        go true e =
            let u : Node = opening_node n leaf i in
            let same : u ≡ w = same_node-true u w e in
            rw (e, ← same)
            (ap (λ o. cell o i) (placed_at n leaf out (label_of edition statement n u) i small)
            ∙ cell-here out (label_of edition statement n u) (label-size edition statement n u) i (omega arith))
        go false e = rw e (other e (placing n leaf out w (label_of edition statement n w) low high))

  pub out_with-append :
      (xs ys : List Node) (out : List ℕ)
      → out_with edition statement n leaf (xs ++ ys) out ≡ out_with edition statement n leaf ys (out_with edition statement n leaf xs out)
  unfolding out_with
  out_with-append [] ys out = refl
  out_with-append (w ∷ xs) ys out = out_with-append xs ys (placed n leaf out w (label_of edition statement n w))

  pub length-with :
      (ns : List Node) (out : List ℕ) → Within n ns → opening_size n ≤ length out
      → length (out_with edition statement n leaf ns out) ≡ length out
  unfolding out_with
  length-with [] out within fits = refl
  length-with (w ∷ ws) out within fits =
      let here : (1 ≤ w.level) × (w.level ≤ n) = within w (among-here w ws) in
      let same : length (placed n leaf out w (label_of edition statement n w)) ≡ length out = length-placed out fits w here.0 here.1 in
      length-with ws (placed n leaf out w (label_of edition statement n w)) (λ u a. within u (among_there w ws u a)) (omega arith) ∙ same

  -- no byte behind the opening changes
  pub beyond-with :
      (ns : List Node) (out : List ℕ) → Within n ns → opening_size n ≤ length out
      → drop (opening_size n) (out_with edition statement n leaf ns out) ≡ drop (opening_size n) out
  unfolding out_with
  beyond-with [] out within fits = refl
  beyond-with (w ∷ ws) out within fits =
      let here : (1 ≤ w.level) × (w.level ≤ n) = within w (among-here w ws) in
      let same : length (placed n leaf out w (label_of edition statement n w)) ≡ length out = length-placed out fits w here.0 here.1 in
      beyond-with ws (placed n leaf out w (label_of edition statement n w)) (λ u a. within u (among_there w ws u a)) (omega arith)
      ∙ beyond-placed out fits w here.0 here.1

  -- each place holds its node's label if that is among the nodes, and else what it held
  pub cell-with :
      (ns : List Node) (out : List ℕ) → Within n ns → opening_size n ≤ length out → (i : ℕ) → i ≤ n
      → cell (out_with edition statement n leaf ns out) i
      ≡ pick (among ns (opening_node n leaf i)) (label_of edition statement n (opening_node n leaf i)) (cell out i)
  unfolding out_with among
  cell-with [] out within fits i small = refl
  cell-with (w ∷ ws) out within fits i small =
      let here : (1 ≤ w.level) × (w.level ≤ n) = within w (among-here w ws) in
      let same : length (placed n leaf out w (label_of edition statement n w)) ≡ length out = length-placed out fits w here.0 here.1 in
      let u : Node = opening_node n leaf i in
      cell-with ws (placed n leaf out w (label_of edition statement n w)) (λ x a. within x (among_there w ws x a)) (omega arith) i small
      ∙ ap (λ c. pick (among ws u) (label_of edition statement n u) c) (cell-placed out fits w here.0 here.1 i small)
      ∙ pick-twice (among ws u) (same_node u w) (label_of edition statement n u) (cell out i)
