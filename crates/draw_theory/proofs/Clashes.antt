-- The first pair of an accepted proof that disagrees, with its two inputs, is a clash.
use mathlib.Core.Path.{◌≡◌, sym, ap, ◌∙◌}
use Prim.Native.Nat.{ℕ, ◌≤◌}
use native.Mathlib.Omega.{arith}
use mathlib.Core.List.{List}
use lib.ListN.{length}
use Rattle.tree.specs.Nodes.{node}
use Rattle.tree.specs.Disagreement.{way_node, ClashAt}
use Rattle.tree.proofs.DocumentRule.{document-readable}
use Rattle.tree.proofs.Clash.{inner-input-length, shared-position, disagreement-clash}
use Rattle.sha256.specs.Digest.{digest}
use Rattle.labelling.specs.Rule.{stamp_rule}
use Rattle.labelling.proofs.RuleLaws.{stamp-hash}
use Rattle.check_theory.specs.IsProof.{IsProof}
use Rattle.compare.specs.Comparison.{input_of}
use Rattle.draw.specs.Drawing.{proof_edition, leaves_of, openings_of}
use Rattle.draw_theory.specs.Demand3.{proof_root, opened_leaf, opened_given, opened_input, disagreeing, FirstToDisagree, IsClash}
use Rattle.draw_theory.proofs.Openings.{leaf-of, given-of, right_of, sized_of}

module _ (bytes statement : List ℕ) (n t : ℕ) where
  -- the input of opening i at its node of level l, as drawing has it
  input-of :
      (i l : ℕ) → 1 ≤ i → i ≤ t →
      input_of (proof_edition bytes) statement n (leaves_of bytes statement n t) (openings_of bytes) i l ≡
      opened_input bytes statement n i (way_node n (opened_leaf bytes statement n i) l)
  unfolding opened_input
  input-of i l positive small = rw (leaf-of bytes statement n t i positive small, given-of bytes statement n t i)

  module _ (p : IsProof (proof_edition bytes) bytes statement n t) (i j l : ℕ) (first : FirstToDisagree bytes statement n t i j l) where
    small-first : i ≤ t
    small-first = omega (arith, first.ordered, first.small)

    positive-second : 1 ≤ j
    positive-second = omega (arith, first.ordered)

    clash-at :
        ClashAt
        (stamp_rule (proof_edition bytes) n statement)
        n
        (opened_leaf bytes statement n i)
        (opened_given bytes n i)
        (opened_leaf bytes statement n j)
        (opened_given bytes n j)
        l
    unfolding disagreeing
    clash-at =
        disagreement-clash
        (stamp_rule (proof_edition bytes) n statement)
        n
        (opened_leaf bytes statement n i)
        (opened_given bytes n i)
        (opened_leaf bytes statement n j)
        (opened_given bytes n j)
        (document-readable (proof_edition bytes) n statement digest)
        (stamp-hash (proof_edition bytes) n statement)
        (sized_of bytes statement n t p i first.positive small-first)
        (sized_of bytes statement n t p j positive-second first.small)
        (proof_root bytes)
        (right_of bytes statement n t p i first.positive small-first)
        (right_of bytes statement n t p j positive-second first.small)
        l
        (record { disagrees = first.disagrees; before = first.smallest_level })

    same-node : way_node n (opened_leaf bytes statement n i) l ≡ way_node n (opened_leaf bytes statement n j) l
    same-node = ap (node l) (shared-position n (opened_leaf bytes statement n i) (opened_leaf bytes statement n j) l clash-at.shares)

    -- the clash at the second opening's own node
    differ :
        opened_input bytes statement n i (way_node n (opened_leaf bytes statement n i) l) ≡
        opened_input bytes statement n j (way_node n (opened_leaf bytes statement n j) l) → ⊥
    unfolding opened_input
    differ e = clash-at.differ (e ∙ rw same-node)

    same-hash :
        digest (opened_input bytes statement n i (way_node n (opened_leaf bytes statement n i) l)) ≡
        digest (opened_input bytes statement n j (way_node n (opened_leaf bytes statement n j) l))
    unfolding opened_input
    same-hash = clash-at.same_hash ∙ rw same-node

    input-size : (k : ℕ) → 1 ≤ k → k ≤ t → length (opened_input bytes statement n k (way_node n (opened_leaf bytes statement n k) l)) ≡ 105
    unfolding opened_input
    input-size k positive small =
        inner-input-length
        (proof_edition bytes)
        statement
        digest
        n
        (opened_leaf bytes statement n k)
        (opened_given bytes n k)
        p.statement_size
        (stamp-hash (proof_edition bytes) n statement)
        (sized_of bytes statement n t p k positive small)
        l
        clash-at.inner

    is-clash :
        (x y : List ℕ) → x ≡ opened_input bytes statement n i (way_node n (opened_leaf bytes statement n i) l) →
        y ≡ opened_input bytes statement n j (way_node n (opened_leaf bytes statement n j) l) →
        IsClash bytes statement n t i j l x y
    is-clash x y a b =
        record {
          pair = first;
          inner = clash-at.inner;
          shared = same-node;
          first_is = a;
          second_is = b;
          first_size = rw a (input-size i first.positive small-first);
          second_size = rw b (input-size j positive-second first.small);
          differ = λ e. differ (sym a ∙ e ∙ b);
          same_hash = rw (a, b) same-hash;
        }

    pub first-clash :
        IsClash bytes statement n t i j l
        (input_of (proof_edition bytes) statement n (leaves_of bytes statement n t) (openings_of bytes) i l)
        (input_of (proof_edition bytes) statement n (leaves_of bytes statement n t) (openings_of bytes) j l)
    first-clash = is-clash _ _ (input-of i l first.positive small-first) (input-of j l positive-second first.small)
