-- Where no two openings of an accepted proof disagree, the chain's hashes: each stands whole in the next input, the last is the root.
use mathlib.Core.Path.{◌≡◌, refl, sym, ◌∙◌}
use Prim.Native.Nat.{ℕ, zero, suc, ◌+◌, ◌≤◌, ◌<◌}
use native.Mathlib.Nat.{div-eq_of_lt}
use native.Mathlib.Omega.{arith}
use mathlib.Core.Bool.{true, false}
use mathlib.Core.List.{List, [], ◌∷◌, map}
use lib.ListN.{length, get_or, length-map}
use Rattle.base.specs.Lists.{EachOf}
use Rattle.tree.specs.Nodes.{Node, root, on_way, parents}
use Rattle.tree.specs.Labels.{Label, ordered, document_input}
use Rattle.tree.specs.Held.{among}
use Rattle.tree.specs.Openings.{known, input_at, Right}
use Rattle.tree.specs.Disagreement.{disagree_at}
use Rattle.tree.proofs.Ordered.{ordered-length, ordered-map, ordered-place}
use Rattle.tree.proofs.DocumentRule.{length-input, label-in-input}
use Rattle.tree.proofs.OpeningLaws.{known-way, on-way, known-hash}
use Rattle.tree.proofs.Clash.{same_inputs}
use Rattle.labelling.specs.Rule.{stamp_rule}
use Rattle.labelling.proofs.RuleLaws.{stamp-hash}
use Rattle.chain_theory.specs.Ways.{chain}
use Rattle.chain_theory.proofs.Lists.{Order, less, same, more, order}
use Rattle.chain_theory.proofs.Parents.{chain-parents, chain-root, among-place}
use Rattle.chain_theory.proofs.Once.{chain-at}
use Rattle.check_theory.specs.IsProof.{IsProof}
use Rattle.draw.specs.Drawing.{leaves_of, proof_edition}
use Rattle.draw_theory.specs.Demand3.{proof_root, opened_leaf, opened_given, Passes, opened_input, opened_hash, disagreeing, NoneDisagree}
use Rattle.draw_theory.specs.Demand3.{drawn_nodes, hashed_parents, StandsWhole, HashChain, EndsAtRoot}
use Rattle.draw_theory.proofs.Openings.{passes-some, right_of, sized_of, leaf-inside, all-inside, some-leaf}
use Rattle.draw_theory.proofs.Parents.{WayChild, parent-way-child, on-way-child, agree-known, parents-sized}

-- what holds of every two openings i < j, of an opening with itself, and the other way round
either_way :
    (P : ℕ → ℕ → Type 0) (t : ℕ) → ((i : ℕ) → P i i) → ((i j : ℕ) → P i j → P j i) → ((i j : ℕ) → 1 ≤ i → i < j → j ≤ t → P i j) →
    (i j : ℕ) → 1 ≤ i → i ≤ t → 1 ≤ j → j ≤ t → P i j
either_way P t self other pairs i j a b c d = go (order i j)
  where
    go : Order i j → P i j
    go (less h) = pairs i j a h d
    go (same h) = rw h (self j)
    go (more h) = other j i (pairs j i c h b)

map_at : (f : Node → Label) (vs : List Node) (k : ℕ) → k < length vs → get_or (map f vs) k [] ≡ f (get_or vs k root)
map_at f [] k h = absurd (omega arith)
map_at f (v ∷ vs) zero h = refl
map_at f (v ∷ vs) (suc k) h = map_at f vs k (omega arith)

module _ (bytes statement : List ℕ) (n t : ℕ) (p : IsProof (proof_edition bytes) bytes statement n t) where
  -- the labels that opening i knows
  knows : ℕ → Node → Label
  knows i = known (stamp_rule (proof_edition bytes) n statement) n (opened_leaf bytes statement n i) (opened_given bytes n i)

  right-at :
      (i : ℕ) → 1 ≤ i → i ≤ t
      → Right (stamp_rule (proof_edition bytes) n statement) n (opened_leaf bytes statement n i) (opened_given bytes n i) (proof_root bytes)
  right-at = right_of bytes statement n t p

  -- of a node that it passes it knows the hash
  knows-hash : (i : ℕ) (v : Node) → Passes bytes statement n t i v → knows i v ≡ opened_hash bytes statement n i v
  unfolding knows opened_input
  knows-hash i v q =
      known-hash (stamp_rule (proof_edition bytes) n statement) n (opened_leaf bytes statement n i) (opened_given bytes n i) (proof_root bytes)
      (right-at i q.positive q.small) v
      q.through

  -- ---- the root
  passes-root : (i : ℕ) → 1 ≤ i → i ≤ t → Passes bytes statement n t i root
  passes-root i positive small =
      record {
        positive = positive;
        small = small;
        through = rw (div-eq_of_lt (leaf-inside bytes statement n t p i)) at (on-way n (opened_leaf bytes statement n i) n 0 (omega arith));
      }

  root-hash : (i : ℕ) → 1 ≤ i → i ≤ t → opened_hash bytes statement n i root ≡ proof_root bytes
  unfolding knows
  root-hash i positive small =
      sym (knows-hash i root (passes-root i positive small))
      ∙ rw (div-eq_of_lt (leaf-inside bytes statement n t p i)) at
      (known-way (stamp_rule (proof_edition bytes) n statement) n (opened_leaf bytes statement n i) (opened_given bytes n i) n 0 (omega arith))
      ∙ (right-at i positive small).root_right

  pub ends-at-root : 1 ≤ length (drawn_nodes bytes statement n t) → EndsAtRoot bytes statement n t (drawn_nodes bytes statement n t)
  ends-at-root some =
      record {
        some = some;
        last = chain-root n (leaves_of bytes statement n t) (all-inside bytes statement n t p) (some-leaf bytes statement n t p) root;
        hash = λ i positive small. (passes-root i positive small, root-hash i positive small);
      }

  -- ---- no two openings disagree
  module _ (none : NoneDisagree bytes statement n t) where
    agree :
        (i j : ℕ) → 1 ≤ i → i < j → j ≤ t → (l : ℕ) →
        disagree_at
        (stamp_rule (proof_edition bytes) n statement)
        n
        (opened_leaf bytes statement n i)
        (opened_given bytes n i)
        (opened_leaf bytes statement n j)
        (opened_given bytes n j)
        l
        ≡ false
    unfolding disagreeing
    agree i j positive ordered small l = none i j l positive ordered small

    -- the same input at a node, and the same label of a node below one that both pass
    SameInput : Node → ℕ → ℕ → Type 0
    SameInput v i j =
        on_way n (opened_leaf bytes statement n i) v ≡ true → on_way n (opened_leaf bytes statement n j) v ≡ true →
        opened_input bytes statement n i v ≡ opened_input bytes statement n j v

    SameLabel : Node → ℕ → ℕ → Type 0
    SameLabel u i j = WayChild n (opened_leaf bytes statement n i) u → WayChild n (opened_leaf bytes statement n j) u → knows i u ≡ knows j u

    input-pair : (v : Node) (i j : ℕ) → 1 ≤ i → i < j → j ≤ t → SameInput v i j
    unfolding SameInput opened_input
    input-pair v i j positive ordered small =
        same_inputs
        (stamp_rule (proof_edition bytes) n statement)
        n
        (opened_leaf bytes statement n i)
        (opened_given bytes n i)
        (opened_leaf bytes statement n j)
        (opened_given bytes n j)
        (λ l inner. agree i j positive ordered small l)
        v

    label-pair : (u : Node) (i j : ℕ) → 1 ≤ i → i < j → j ≤ t → SameLabel u i j
    unfolding SameLabel knows
    label-pair u i j positive ordered small a b =
        agree-known
        (stamp_rule (proof_edition bytes) n statement)
        n
        (opened_leaf bytes statement n i)
        (opened_given bytes n i)
        (opened_leaf bytes statement n j)
        (opened_given bytes n j)
        u
        a
        b
        (agree i j positive ordered small)

    -- 'where no pair disagrees, all openings through a node give the same input'
    one_input :
        (v : Node) (i j : ℕ) → Passes bytes statement n t i v → Passes bytes statement n t j v →
        opened_input bytes statement n i v ≡ opened_input bytes statement n j v
    unfolding SameInput
    one_input v i j a b =
        either_way (SameInput v) t (λ i x y. refl) (λ i j e x y. sym (e y x)) (input-pair v) i j a.positive a.small b.positive b.small
        a.through b.through

    one_label :
        (u : Node) (i j : ℕ) → 1 ≤ i → i ≤ t → 1 ≤ j → j ≤ t → WayChild n (opened_leaf bytes statement n i) u → WayChild n
        (opened_leaf bytes statement n j) u →
        knows i u ≡ knows j u
    unfolding SameLabel
    one_label u = either_way (SameLabel u) t (λ i x y. refl) (λ i j e x y. sym (e y x)) (label-pair u)

    -- ---- a node and a parent of it
    module _ (u v : Node) (i j : ℕ) (a : Passes bytes statement n t i u) (b : Passes bytes statement n t j v) (m : among (parents n v) u ≡ true) where
      -- the second opening knows the first one's hash
      parent-label : knows j u ≡ opened_hash bytes statement n i u
      parent-label =
          let child : WayChild n (opened_leaf bytes statement n j) u = parent-way-child n (opened_leaf bytes statement n j) v u b.through m in
          one_label u j i b.positive b.small a.positive a.small child
          (on-way-child n (opened_leaf bytes statement n i) u a.through (omega (arith, child.level)))
          ∙ knows-hash i u a

      labels : List Label
      labels = map (knows j) (parents n v)

      labels-sized : EachOf 32 labels
      unfolding labels knows
      labels-sized =
          parents-sized
          (stamp_rule (proof_edition bytes) n statement)
          n
          (opened_leaf bytes statement n j)
          (opened_given bytes n j)
          (proof_root bytes)
          (right-at j b.positive b.small)
          (stamp-hash (proof_edition bytes) n statement)
          (sized_of bytes statement n t p j b.positive b.small)
          v
          b.through

      input-labels : opened_input bytes statement n j v ≡ document_input (proof_edition bytes) n statement v labels
      unfolding opened_input input_at labels knows
      input-labels = refl

      labels-count : length labels ≡ length (parents n v)
      unfolding labels
      labels-count = length-map (parents n v) (knows j)

      label_at :
          (k : ℕ) → k < length (parents n v) → get_or (hashed_parents (proof_edition bytes) n v) k root ≡ u
          → get_or (ordered (proof_edition bytes) labels) k [] ≡ opened_hash bytes statement n i u
      unfolding labels
      label_at k h e =
          rw (← ordered-map (proof_edition bytes) (knows j) (parents n v))
          (map_at (knows j) (hashed_parents (proof_edition bytes) n v) k (rw (ordered-length (proof_edition bytes) (parents n v)) h) ∙ rw e parent-label)

      parent-stands : StandsWhole (proof_edition bytes) n u v (opened_hash bytes statement n i u) (opened_input bytes statement n j v)
      parent-stands =
          let at = among-place (parents n v) u root m in
          let there = ordered-place (proof_edition bytes) (parents n v) at.0 root at.1 in
          record {
            size = rw input-labels (length-input (proof_edition bytes) n statement p.statement_size v labels labels-sized ∙ rw labels-count);
            place = there.place;
            is_place = there.inside;
            is_parent = there.there ∙ at.2;
            stands =
                rw input-labels
                (label-in-input (proof_edition bytes) n statement p.statement_size v labels labels-sized there.place (rw labels-count there.inside)
                ∙ label_at there.place there.inside (there.there ∙ at.2));
          }

    pub hash-chain : HashChain bytes statement n t (drawn_nodes bytes statement n t)
    hash-chain =
        let leaves : List ℕ = leaves_of bytes statement n t in
        record {
          passed = λ k h. passes-some bytes statement n t (get_or (chain n leaves) k root) (chain-at n leaves root k h).1;
          one_input = one_input;
          in_next =
              λ k i j h a b.
              parent-stands (get_or (chain n leaves) k root) (get_or (chain n leaves) (k + 1) root) i j a b
              (chain-parents n leaves (all-inside bytes statement n t p) root k h);
        }
