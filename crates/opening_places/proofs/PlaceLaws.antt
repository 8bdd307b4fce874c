-- Where the nodes of an opening lie, and their labels put in their places.
use mathlib.Core.Path.{◌≡◌, refl}
use mathlib.Core.Logic.{◌⊎◌, ⊎_elim}
use mathlib.Core.Bool.{Bool, true, false}
use mathlib.Core.List.{List}
use Prim.Native.Nat.{ℕ, zero, suc, ◌+◌, ◌-◌, ◌*◌, ◌/◌, ◌^◌, ◌≤◌, ◌<◌}
use native.Mathlib.Numerals.{add-one}
use native.Mathlib.Omega.{arith}
use borrow.Author.Tests.{eq-eqb, ne_eqb}
use lib.ListN.{take, drop}
use lib.Pow.{shr_lt}
use Rattle.base.specs.Choice.{pick, odd}
use Rattle.base.specs.Bytes.{written}
use Rattle.base.proofs.ChoiceLaws.{odd-false}
use Rattle.tree.specs.Nodes.{Node, node, same_node}
use Rattle.tree.specs.Store.{slot}
use Rattle.tree.specs.Openings.{sibling}
use Rattle.opening_places.specs.Places.{label_in, placed, copied, copied_all}

-- the leaf's ancestor on a level, and its sibling, are of the tree
pub way-inside : (n leaf l : ℕ) → l ≤ n → leaf < 2 ^ n → leaf / 2 ^ (n - l) < 2 ^ l
way-inside n leaf l level inside =
    let e : l + (n - l) ≡ n = omega arith in
    shr_lt l (n - l) (rw e inside)

sibling-inside : (l p : ℕ) (t : Bool) → odd p ≡ t → p < 2 ^ suc l → pick t (p - 1) (p + 1) < 2 ^ suc l
sibling-inside l p true e inside = omega arith
sibling-inside l p false e inside = omega (arith, odd-false p e)

pub beside-inside : (n leaf level b : ℕ) → 1 ≤ level → level ≤ n → leaf < 2 ^ n → b ≡ sibling (leaf / 2 ^ (n - level)) → b < 2 ^ level
beside-inside n leaf zero b some deep inside e = absurd (omega arith)
beside-inside n leaf (suc l) b some deep inside e =
    rw e
    (sibling-inside l (leaf / 2 ^ (n - suc l)) (odd (leaf / 2 ^ (n - suc l))) refl (way-inside n leaf (suc l) (omega arith) inside))

-- the part of the store that a node's label takes
pub part_in : (store : List ℕ) (v : Node) (at : ℕ) → at ≡ slot v → take (at + 32 - at) (drop at store) ≡ label_in store v
part_in store v at e = let k : at + 32 - at ≡ 32 = omega arith in rw (k, e)

-- two nodes compared, by level and position
module _ (l p l' p' : ℕ) where
  pub same : l ≡ l' → p ≡ p' → same_node (node l p) (node l' p') ≡ true
  same e f = rw (eq-eqb l l' e, eq-eqb p p' f)

  pub other : ((l ≡ l') × (p ≡ p' → ⊥)) ⊎ (l ≡ l' → ⊥) → same_node (node l p) (node l' p') ≡ false
  other = ⊎_elim (λ (h : (l ≡ l') × (p ≡ p' → ⊥)). rw (eq-eqb l l' h.0, ne_eqb p p' h.1)) (λ (h : l ≡ l' → ⊥). rw (ne_eqb l l' h))

-- a node's label put in its place, by the two tests
module _ (n leaf : ℕ) (out : List ℕ) (w : Node) (label : List ℕ) where
  pub placed-leaf : same_node w (node n leaf) ≡ true → written out 0 label ≡ placed n leaf out w label
  unfolding placed
  placed-leaf e = rw e

  pub placed-beside : (b : ℕ) → b ≡ sibling (leaf / 2 ^ (n - w.level)) → same_node w (node n leaf) ≡ false → same_node w (node w.level b) ≡ true
      → written out (32 * (n - w.level + 1)) label ≡ placed n leaf out w label
  unfolding placed
  placed-beside b s e f = rw (e, ← s, f)

  pub placed-nowhere : (b : ℕ) → b ≡ sibling (leaf / 2 ^ (n - w.level)) → same_node w (node n leaf) ≡ false → same_node w (node w.level b) ≡ false
      → out ≡ placed n leaf out w label
  unfolding placed
  placed-nowhere b s e f = rw (e, ← s, f)

-- one sibling more
copied_more : (n leaf l b : ℕ) (store out₀ out : List ℕ) → out ≡ copied n leaf store out₀ l → b ≡ sibling (leaf / 2 ^ (n - (l + 1)))
    → placed n leaf out (node (l + 1) b) (label_in store (node (l + 1) b)) ≡ copied n leaf store out₀ (l + 1)
unfolding copied
copied_more n leaf l b store out₀ out e s = rw (e, s, add-one l)

-- one sibling more: that of this level
pub copied-level : (n leaf level b : ℕ) (store out₀ out : List ℕ) → 1 ≤ level → out ≡ copied n leaf store out₀ (level - 1)
    → b ≡ sibling (leaf / 2 ^ (n - level)) → placed n leaf out (node level b) (label_in store (node level b)) ≡ copied n leaf store out₀ level
copied-level n leaf zero b store out₀ out some e s = absurd (omega arith)
copied-level n leaf (suc l) b store out₀ out some e s =
    let before : suc l - 1 ≡ l = omega arith in
    rw (add-one l) at (copied_more n leaf l b store out₀ out (rw before at e) (rw (← add-one l) at s))

pub copied_none : (n leaf : ℕ) (store out : List ℕ) → out ≡ copied n leaf store out 0
unfolding copied
copied_none n leaf store out = refl

-- the leaf's own label is in the store when m = n
module _ (n m leaf : ℕ) (store out₀ out : List ℕ) (e : out ≡ copied n leaf store out₀ m) where
  pub copied-with-leaf : m ≡ n → placed n leaf out (node n leaf) (label_in store (node n leaf)) ≡ copied_all n m leaf store out₀
  unfolding copied_all
  copied-with-leaf h = rw (eq-eqb m n h, e)

  pub copied-no-leaf : (m ≡ n → ⊥) → out ≡ copied_all n m leaf store out₀
  unfolding copied_all
  copied-no-leaf h = rw (ne_eqb m n h) e
