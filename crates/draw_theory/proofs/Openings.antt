-- The leaves and openings that the definition of drawing takes from a proof are the challenged ones, and right where it is accepted.
use mathlib.Core.Path.{◌≡◌, refl, sym, ap, ◌∙◌}
use mathlib.Core.Logic.{◌⊎◌, inl, inr, ⊎_elim}
use Prim.Native.Nat.{ℕ, zero, suc, ◌+◌, ◌-◌, ◌*◌, ◌^◌, ◌≤◌, ◌<◌}
use native.Mathlib.Nat.{add-zero}
use native.Mathlib.Omega.{arith}
use mathlib.Core.Bool.{true, false}
use mathlib.Core.List.{List, [], ◌∷◌}
use lib.ListN.{length, get_or, take}
use lib.Seq.{drop-drop}
use borrow.Author.Tests.{lt-ltb, le-ltb}
use Rattle.base.specs.Choice.{every}
use Rattle.base.proofs.ChoiceLaws.{true-false}
use Rattle.base.proofs.ChoiceLaws.{lt-or-le}
use Rattle.tree.specs.Nodes.{Node, on_way}
use Rattle.tree.specs.Openings.{Right, opening_size}
use Rattle.tree.specs.Disagreement.{Given32, disagree_at}
use Rattle.tree.proofs.Among.{either, either-right}
use Rattle.labelling.specs.Rule.{stamp_rule}
use Rattle.chain_theory.specs.Ways.{on_some_way}
use Rattle.chain_theory.specs.Planning.{is_leaf}
use Rattle.chain_theory.proofs.Lists.{at_every}
use Rattle.opening_check.specs.OpeningCheck.{given_by}
use Rattle.file_head.specs.Challenge.{challenge_leaf}
use Rattle.file_head.specs.Layout.{head_numbers}
use Rattle.file_head.specs.Head.{head_of}
use Rattle.check_theory.specs.IsProof.{IsProof}
use Rattle.file_head.proofs.Leaves.{challenge_leaf-small}
use Rattle.check_theory.proofs.Completeness.{file-head, file-root, file-sized, file-right}
use Rattle.std.specs.Prelude.{None}
use Rattle.compare.specs.FirstPair.{disagree_at_level}
use Rattle.compare.specs.Table.{leaf_of}
use Rattle.compare.specs.Comparison.{given_of, disagreement, first_disagreement}
use Rattle.draw.specs.Drawing.{proof_edition, leaves_from, numbers_end, leaves_of, openings_of, pair_of}
use Rattle.draw_theory.specs.Demand3.{proof_root, opened_leaf, opened_given, Passes, disagreeing, NoneDisagree, SomeDisagree, FirstToDisagree}
use Rattle.draw_theory.proofs.FirstPairs.{pair-agrees, pair-first}

-- ---- leaves
length_from : (edition n : ℕ) (statement root : List ℕ) (i left : ℕ) → length (leaves_from edition n statement root i left) ≡ left
unfolding leaves_from
length_from edition n statement root i zero = refl
length_from edition n statement root i (suc left) = ap suc (length_from edition n statement root (i + 1) left)

leaf-from :
    (edition n : ℕ) (statement root : List ℕ) (i left k : ℕ) → k < left →
    get_or (leaves_from edition n statement root i left) k 0 ≡ challenge_leaf edition n statement root (i + k)
unfolding leaves_from
leaf-from edition n statement root i zero k h = absurd (omega arith)
leaf-from edition n statement root i (suc left) zero h = rw add-zero
leaf-from edition n statement root i (suc left) (suc k) h =
    let next : i + 1 + k ≡ i + suc k = omega arith in
    rw next at (leaf-from edition n statement root (i + 1) left k (omega arith))

-- a node on the way of one of the leaves
some-way :
    (n : ℕ) (leaves : List ℕ) (v : Node) → on_some_way n leaves v ≡ true → (k : ℕ) × (k < length leaves) × (on_way n (get_or leaves k 0) v ≡ true)
unfolding on_some_way
some-way n [] v e = absurd (true-false false e refl)
some-way n (leaf ∷ leaves) v e = go (some-way n leaves v) (either (on_way n leaf v) (on_some_way n leaves v) e)
  where
    go :
        (on_some_way n leaves v ≡ true → (k : ℕ) × (k < length leaves) × (on_way n (get_or leaves k 0) v ≡ true)) →
        (on_way n leaf v ≡ true) ⊎ (on_some_way n leaves v ≡ true) →
        (k : ℕ) × (k < length (leaf ∷ leaves)) × (on_way n (get_or (leaf ∷ leaves) k 0) v ≡ true)
    go later (inl here) = (0, omega arith, here)
    go later (inr rest) = let found = later rest in (suc found.0, omega (arith, found.1), found.2)

way-some : (n : ℕ) (leaves : List ℕ) (v : Node) (k : ℕ) → k < length leaves → on_way n (get_or leaves k 0) v ≡ true → on_some_way n leaves v ≡ true
unfolding on_some_way
way-some n [] v k h e = absurd (omega arith)
way-some n (leaf ∷ leaves) v zero h e = rw e
way-some n (leaf ∷ leaves) v (suc k) h e =
    either-right (on_way n leaf v) (on_some_way n leaves v) (way-some n leaves v k (omega arith) e)

module _ (bytes statement : List ℕ) (n t : ℕ) where
  pub leaves-length : length (leaves_of bytes statement n t) ≡ t
  unfolding leaves_of
  leaves-length = length_from (proof_edition bytes) n statement _ 1 t

  pub leaf-of : (i : ℕ) → 1 ≤ i → i ≤ t → leaf_of (leaves_of bytes statement n t) i ≡ opened_leaf bytes statement n i
  unfolding leaves_of opened_leaf proof_root
  leaf-of i positive small =
      let number : 1 + (i - 1) ≡ i = omega arith in
      leaf-from (proof_edition bytes) n statement _ 1 t (i - 1) (omega arith) ∙ rw number

  leaves-inside : n ≤ 256 → every (is_leaf n) (leaves_of bytes statement n t) ≡ true
  unfolding is_leaf leaves_of proof_root
  leaves-inside deep =
      at_every (is_leaf n) 0 (leaves_of bytes statement n t)
      (λ k small.
      lt-ltb _ (2 ^ n)
      (rw (leaf-from (proof_edition bytes) n statement (proof_root bytes) 1 t k (omega (arith, leaves-length)))
      (challenge_leaf-small (proof_edition bytes) n statement (proof_root bytes) (1 + k) deep)))

  pub given-of : (i : ℕ) → given_of n (openings_of bytes) i ≡ opened_given bytes n i
  unfolding openings_of opened_given
  given-of i =
      ap (λ (part : List ℕ). given_by (take (opening_size n) part)) (drop-drop ((i - 1) * opening_size n) (numbers_end (head_of bytes) + 64) bytes)

  -- a node that an opening passes is on some leaf's way
  pub passes-some : (v : Node) → on_some_way n (leaves_of bytes statement n t) v ≡ true → (i : ℕ) × Passes bytes statement n t i v
  passes-some v e =
      let found = some-way n (leaves_of bytes statement n t) v e in
      let few : found.0 < t = omega (arith, found.1, leaves-length) in
      let number : found.0 + 1 - 1 ≡ found.0 = omega arith in
      let leaf : get_or (leaves_of bytes statement n t) found.0 0 ≡ opened_leaf bytes statement n (found.0 + 1) =
      rw number at (leaf-of (found.0 + 1) (omega arith) (omega arith)) in
      (found.0 + 1, record { positive = omega arith; small = omega arith; through = rw (← leaf) found.2 })

  pub some-passes : (v : Node) (i : ℕ) → Passes bytes statement n t i v → on_some_way n (leaves_of bytes statement n t) v ≡ true
  some-passes v i p =
      way-some n (leaves_of bytes statement n t) v (i - 1) (omega (arith, p.positive, p.small, leaves-length))
      (rw (leaf-of i p.positive p.small) p.through)

  -- ---- disagreement
  disagreement-of :
      (i j l : ℕ) → 1 ≤ i → i ≤ t → 1 ≤ j → j ≤ t →
      disagreement (stamp_rule (proof_edition bytes) n statement) n (leaves_of bytes statement n t) (openings_of bytes) i j l ≡ disagreeing bytes statement n i j l
  unfolding disagreeing
  disagreement-of i j l a b c d = rw (leaf-of i a b, leaf-of j c d, given-of i, given-of j)

  beyond : (i j l : ℕ) → n ≤ l → disagreeing bytes statement n i j l ≡ false
  unfolding disagreeing disagree_at
  beyond i j l h = rw (le-ltb l n h)

  -- all levels, where the inner ones agree
  all-levels : (i j l : ℕ) → (l < n → disagreeing bytes statement n i j l ≡ false) → disagreeing bytes statement n i j l ≡ false
  all-levels i j l inner = ⊎_elim inner (beyond i j l) (lt-or-le l n)

  pub agree-none : pair_of bytes statement n t ≡ None → NoneDisagree bytes statement n t
  unfolding pair_of first_disagreement
  agree-none e i j l positive ordered small =
      all-levels i j l
      (λ inner.
      sym (disagreement-of i j l positive (omega arith) (omega arith) small)
      ∙ pair-agrees (disagreement (stamp_rule (proof_edition bytes) n statement) n (leaves_of bytes statement n t) (openings_of bytes)) n t
      (rw leaves-length at e) i j l positive ordered small inner)

  pub disagree-first : (i j l : ℕ) → pair_of bytes statement n t ≡ disagree_at_level i j l → FirstToDisagree bytes statement n t i j l
  unfolding pair_of first_disagreement
  disagree-first i j l e =
      let f =
      pair-first (disagreement (stamp_rule (proof_edition bytes) n statement) n (leaves_of bytes statement n t) (openings_of bytes)) n t i j l
      (rw leaves-length at e) in
      record {
        positive = f.positive;
        ordered = f.ordered;
        small = f.small;
        disagrees =
            sym (disagreement-of i j l f.positive (omega (arith, f.ordered, f.small)) (omega (arith, f.ordered)) f.small) ∙ f.disagrees;
        first_by_i =
            λ a b k low less order high.
            all-levels a b k
            (λ inner. sym (disagreement-of a b k low (omega arith) (omega arith) high) ∙ f.first_by_i a b k low less order high inner);
        then_by_j =
            λ b k after less.
            all-levels i b k
            (λ inner.
            sym (disagreement-of i b k f.positive (omega (arith, f.small)) (omega arith) (omega (arith, f.small)))
            ∙ f.then_by_j b k after less inner);
        smallest_level =
            λ k less.
            sym (disagreement-of i j k f.positive (omega (arith, f.ordered, f.small)) (omega (arith, f.ordered)) f.small)
            ∙ f.smallest_level k less;
      }

  pub first_some : (i j l : ℕ) → FirstToDisagree bytes statement n t i j l → SomeDisagree bytes statement n t
  first_some i j l f =
      record {
        first = i;
        second = j;
        level = l;
        positive = f.positive;
        ordered = f.ordered;
        small = f.small;
        disagrees = f.disagrees;
      }

  pub some-none : SomeDisagree bytes statement n t → NoneDisagree bytes statement n t → ⊥
  some-none s none =
      true-false (disagreeing bytes statement n s.first s.second s.level) s.disagrees
      (none s.first s.second s.level s.positive s.ordered s.small)

  -- ---- an accepted proof
  module _ (p : IsProof (proof_edition bytes) bytes statement n t) where
    ends : numbers_end (head_of bytes) ≡ length (head_numbers (proof_edition bytes) n t)
    ends = ap numbers_end (file-head (proof_edition bytes) bytes statement n t p)

    root-of : proof_root bytes ≡ p.root
    unfolding proof_root
    root-of = rw ends (file-root (proof_edition bytes) bytes statement n t p)

    pub right_of :
        (i : ℕ) → 1 ≤ i → i ≤ t
        → Right (stamp_rule (proof_edition bytes) n statement) n (opened_leaf bytes statement n i) (opened_given bytes n i) (proof_root bytes)
    unfolding opened_leaf opened_given
    right_of i positive small = rw (root-of, ends) (file-right (proof_edition bytes) bytes statement n t p i positive small)

    pub sized_of : (i : ℕ) → 1 ≤ i → i ≤ t → Given32 n (opened_given bytes n i)
    unfolding opened_given
    sized_of i positive small = rw ends (file-sized (proof_edition bytes) bytes statement n t p i positive small)

    -- its leaves are of the tree, and there is one
    pub leaf-inside : (i : ℕ) → opened_leaf bytes statement n i < 2 ^ n
    unfolding opened_leaf
    leaf-inside i = challenge_leaf-small (proof_edition bytes) n statement (proof_root bytes) i (omega (arith, p.depth.1))

    pub all-inside : every (is_leaf n) (leaves_of bytes statement n t) ≡ true
    all-inside = leaves-inside (omega (arith, p.depth.1))

    pub some-leaf : 1 ≤ length (leaves_of bytes statement n t)
    some-leaf = omega (arith, leaves-length, p.count.0)
