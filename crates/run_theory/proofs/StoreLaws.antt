-- The store after k labels: each label of levels 0 to m stands in its slot as soon as it is made, and no other byte changes.
use mathlib.Core.Path.{◌≡◌, refl, ap, ◌∙◌}
use mathlib.Core.Logic.{◌⊎◌, inr}
use Prim.Native.Nat.{ℕ, zero, suc, ◌+◌, ◌≤◌, ◌<◌}
use native.Mathlib.Numerals.{add-one}
use native.Mathlib.Omega.{arith}
use mathlib.Core.Bool.{Bool, true, false}
use mathlib.Core.List.{List, [], ◌∷◌, ◌++◌}
use lib.Dec.{leb, eqb}
use lib.ListN.{length, get_or, take, drop, length-drop}
use lib.Seq.{take-suc, get_or-drop, ext_get_or}
use borrow.Author.Tests.{leb-true, le-leb, eqb-true, eqb-false}
use Rattle.base.specs.Choice.{pick}
use Rattle.base.specs.Bytes.{written}
use Rattle.base.proofs.Copying.{length-written}
use Rattle.base.proofs.WrittenLaws.{written-here, written-else, written_apart}
use Rattle.tree.specs.Nodes.{Node, root, InTree, labelling_order}
use Rattle.tree.specs.Walk.{nodes_in}
use Rattle.tree.specs.Store.{slot, store_size}
use Rattle.tree.proofs.Order.{tree-length, tree-at, tree-has, tree-once}
use Rattle.tree.proofs.Slots.{slots_apart, slot-inside}
use Rattle.labelling.specs.Step.{next_node}
use Rattle.run.specs.Steps.{stored}
use Rattle.run_theory.specs.Reached.{label_of, store_with, store_after}
use Rattle.run_theory.proofs.Step.{label-size}

-- a label is written into its slot or not at all
module _ (m : ℕ) (store : List ℕ) (w : Node) (label : List ℕ) where
  stored-by : (P : List ℕ → Type 0) → (w.level ≤ m → P (written store (slot w) label)) → P store → P (stored m store w label)
  stored-by P low kept = go (leb w.level m) refl
    where
      go : (t : Bool) → leb w.level m ≡ t → P (pick t (written store (slot w) label) store)
      go true e = low (leb-true w.level m e)
      go false e = kept

  pub stored-length : (n : ℕ) → InTree n w → length label ≡ 32 → store_size m ≤ length store → length (stored m store w label) ≡ length store
  stored-length n in_tree size enough =
      stored-by (λ s. length s ≡ length store)
      (λ low. length-written store (slot w) label (omega (arith, slot-inside m w (low, in_tree.1)))) refl

module _ (edition : ℕ) (statement : List ℕ) (n m : ℕ) where
  store_with-append :
      (a b : List Node) (store : List ℕ)
      → store_with edition statement n m (a ++ b) store ≡ store_with edition statement n m b (store_with edition statement n m a store)
  unfolding store_with
  store_with-append [] b store = refl
  store_with-append (w ∷ a) b store = store_with-append a b (stored m store w (label_of edition statement n w))

  -- one label more
  pub store_step :
      (k : ℕ) (store : List ℕ) → k < nodes_in n
      → store_after edition statement n m (k + 1) store
      ≡ stored m (store_after edition statement n m k store) (next_node n root k) (label_of edition statement n (next_node n root k))
  unfolding store_after store_with labelling_order
  store_step k store small =
      rw (add-one k, take-suc (labelling_order n) k root (omega (arith, tree-length n)))
      (store_with-append (take k (labelling_order n)) (next_node n root k ∷ []) store)

  pub store-start : (store : List ℕ) → store_after edition statement n m 0 store ≡ store
  unfolding store_after store_with
  store-start store = refl

  next-in-tree : (k : ℕ) → k < nodes_in n → InTree n (next_node n root k)
  unfolding labelling_order
  next-in-tree k small = tree-at n k small

  -- One label written into a store that is long enough.
  module _ (store : List ℕ) (enough : store_size m ≤ length store) (w : Node) (in_tree : InTree n w) where
    slot-fits : w.level ≤ m → slot w + length (label_of edition statement n w) ≤ length store
    slot-fits low = omega (arith, slot-inside m w (low, in_tree.1), label-size edition statement n w)

    stored_here : w.level ≤ m → take 32 (drop (slot w) (stored m store w (label_of edition statement n w))) ≡ label_of edition statement n w
    stored_here low =
        rw (le-leb w.level m low)
        (written-here store (label_of edition statement n w) (slot w) (slot-fits low) 32 (label-size edition statement n w))

    stored_other :
        (u : Node) → InTree n u → (u ≡ w → ⊥)
        → take 32 (drop (slot u) (stored m store w (label_of edition statement n w))) ≡ take 32 (drop (slot u) store)
    stored_other u in_tree' differ =
        stored-by m store w (label_of edition statement n w) (λ s. take 32 (drop (slot u) s) ≡ take 32 (drop (slot u) store))
        (λ low.
        written_apart store (label_of edition statement n w) (slot w) (slot-fits low) (slot u) 32
        (rw (label-size edition statement n w) (slots_apart u w in_tree'.1 in_tree.1 differ)))
        refl

    stored-else :
        (i : ℕ) → (w.level ≤ m → (i < slot w) ⊎ (slot w + 32 ≤ i))
        → get_or (stored m store w (label_of edition statement n w)) i 0 ≡ get_or store i 0
    stored-else i apart =
        stored-by m store w (label_of edition statement n w) (λ s. get_or s i 0 ≡ get_or store i 0)
        (λ low. written-else store (label_of edition statement n w) (slot w) (slot-fits low) i (rw (label-size edition statement n w) (apart low)))
        refl

  -- The store after k labels.
  module _ (store : List ℕ) (enough : store_size m ≤ length store) where
    pub store_length : (k : ℕ) → k ≤ nodes_in n → length (store_after edition statement n m k store) ≡ length store
    store_length zero small = ap length (store-start store)
    store_length (suc k) small =
        let ih : length (store_after edition statement n m k store) ≡ length store = store_length k (omega arith) in
        rw (← add-one k, store_step k store small)
        (stored-length m (store_after edition statement n m k store) (next_node n root k) (label_of edition statement n (next_node n root k)) n
        (next-in-tree k small) (label-size edition statement n (next_node n root k)) (rw ih enough)
        ∙ ih)

    still-long : (k : ℕ) → k ≤ nodes_in n → store_size m ≤ length (store_after edition statement n m k store)
    still-long k small = omega (arith, store_length k small)

    -- the label at place i of the order, when that at place k is written
    holds-step :
        (k i : ℕ) → k < nodes_in n → i ≤ k → (next_node n root i).level ≤ m
        →
        (i < k
        → take 32 (drop (slot (next_node n root i)) (store_after edition statement n m k store))
        ≡ label_of edition statement n (next_node n root i))
        → (t : Bool) → eqb i k ≡ t
        → take 32 (drop (slot (next_node n root i)) (store_after edition statement n m (k + 1) store)) ≡ label_of edition statement n (next_node n root i)
    unfolding labelling_order
    holds-step k i small before low ih true e =
        let same : i ≡ k = eqb-true i k e in
        rw (store_step k store small, same)
        (stored_here (store_after edition statement n m k store) (still-long k (omega arith)) (next_node n root k) (next-in-tree k small)
        (rw same at low))
    holds-step k i small before low ih false e =
        let differ : i ≡ k → ⊥ = eqb-false i k e in
        rw (store_step k store small)
        (stored_other (store_after edition statement n m k store) (still-long k (omega arith)) (next_node n root k) (next-in-tree k small)
        (next_node n root i) (next-in-tree i (omega arith)) (λ same. differ (tree-once n i k (omega arith) small same))
        ∙ ih (omega arith))

    -- each label made is in its slot
    pub store-holds :
        (k i : ℕ) → i < k → k ≤ nodes_in n → (next_node n root i).level ≤ m
        → take 32 (drop (slot (next_node n root i)) (store_after edition statement n m k store)) ≡ label_of edition statement n (next_node n root i)
    store-holds zero i before small low = absurd (omega arith)
    store-holds (suc k) i before small low =
        rw (← add-one k)
        (holds-step k i small (omega arith) low (λ less. store-holds k i less (omega arith) low) (eqb i k) refl)

    -- a byte in no slot of a label made is as before
    pub store-rest :
        (k i : ℕ) → k ≤ nodes_in n
        → ((j : ℕ) → j < k → (next_node n root j).level ≤ m
        → (i < slot (next_node n root j)) ⊎ (slot (next_node n root j) + 32 ≤ i))
        → get_or (store_after edition statement n m k store) i 0 ≡ get_or store i 0
    store-rest zero i small apart = ap (λ (s : List ℕ). get_or s i 0) (store-start store)
    store-rest (suc k) i small apart =
        rw (← add-one k, store_step k store small)
        (stored-else (store_after edition statement n m k store) (still-long k (omega arith)) (next_node n root k) (next-in-tree k small) i
        (apart k (omega arith))
        ∙ store-rest k i (omega arith) (λ j less. apart j (omega arith)))

    -- bytes beyond the needed ones are untouched
    pub store-beyond :
        (k : ℕ) → k ≤ nodes_in n → drop (store_size m) (store_after edition statement n m k store) ≡ drop (store_size m) store
    store-beyond k small =
        ext_get_or 0 _ _
        (simp (length-drop, store_length k small))
        (λ i short.
        rw (get_or-drop (store_size m) (store_after edition statement n m k store) i 0, get_or-drop (store_size m) store i 0)
        (store-rest k (store_size m + i) small
        (λ j less low. inr (omega (arith, slot-inside m (next_node n root j) (low, (next-in-tree j (omega arith)).1))))))

    -- when all is labelled each node of levels 0 to m has its label in its slot
    pub store-whole :
        (u : Node) → InTree n u → u.level ≤ m
        → take 32 (drop (slot u) (store_after edition statement n m (nodes_in n) store)) ≡ label_of edition statement n u
    unfolding labelling_order
    store-whole u in_tree low =
        let (i, small, here) = tree-has n u in_tree in
        rw (← here) (store-holds (nodes_in n) i small (omega arith) (rw (← here) at low))
