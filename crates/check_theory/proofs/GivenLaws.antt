-- An opening is right or not by its labels at places 0 to n alone.
use mathlib.Core.Path.{◌≡◌, refl, sym, ap, ◌∙◌}
use Prim.Native.Nat.{ℕ, zero, suc, ◌+◌, ◌-◌, ◌≤◌}
use native.Mathlib.Omega.{arith}
use Rattle.tree.specs.Nodes.{node}
use Rattle.tree.specs.Labels.{Label, Rule}
use Rattle.tree.specs.Openings.{Given, computed, input_at, Right}
use Rattle.tree.specs.TreeOpening.{left_given}
use Rattle.tree.proofs.OpeningLaws.{input-leaf}

module _ (r : Rule) (n leaf : ℕ) (given given' : Given) (same : (i : ℕ) → i ≤ n → given i ≡ given' i) where
  computed_same : (h : ℕ) → h ≤ n → computed r n leaf given h ≡ computed r n leaf given' h
  unfolding computed
  computed_same zero le = same 0 le
  computed_same (suc h) le = rw (computed_same h (omega arith), same (suc h) le)

  left-same : (l : ℕ) → l ≤ n → left_given n leaf given l ≡ left_given n leaf given' l
  unfolding left_given
  left-same zero le = refl
  left-same (suc l) le = rw (left-same l (omega arith), same (n - suc l + 1) (omega arith))

  input-same : input_at r n leaf given (node n leaf) ≡ input_at r n leaf given' (node n leaf)
  input-same = input-leaf r n leaf given ∙ ap (r.input (node n leaf)) (left-same n (omega arith)) ∙ sym (input-leaf r n leaf given')

  pub right-same : (root : Label) → Right r n leaf given root → Right r n leaf given' root
  right-same root right =
      record {
        leaf_right = sym (same 0 (omega arith)) ∙ right.leaf_right ∙ ap r.hash input-same;
        root_right = sym (computed_same n (omega arith)) ∙ right.root_right;
      }
