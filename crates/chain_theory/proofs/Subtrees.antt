-- The leaves of a subtree: those of the subtree of height h at position p are the positions x with x / 2^h = p.
use mathlib.Core.Path.{◌≡◌, refl, sym, ap, ◌∙◌}
use Prim.Native.Nat.{ℕ, zero, suc, ◌+◌, ◌-◌, ◌*◌, ◌/◌, ◌^◌, ◌≤◌, ◌<◌}
use native.Mathlib.Numerals.{add-one}
use native.Mathlib.Nat.{div-one, div-lt_iff_lt-mul}
use native.Mathlib.Omega.{arith}
use mathlib.Core.Bool.{Bool, true, false, not}
use mathlib.Core.List.{List, [], ◌∷◌, ◌++◌}
use lib.Dec.{ltb, eqb}
use lib.Pow.{pow_pos, shr-shr, shr_mono}
use borrow.Author.Tests.{ltb-true, eqb-true, eqb-false, le-leb, eq-eqb, ne_eqb}
use Rattle.base.specs.Choice.{pick, passing, every}
use Rattle.tree.specs.Nodes.{node, on_way}
use Rattle.chain_theory.specs.Ways.{on_some_way}
use Rattle.chain_theory.specs.Planning.{increasing, is_leaf}
use Rattle.chain_theory.proofs.Lists.{same_test, passing-yes, passing-no, halves, every_first, every_rest, every-imp, every-passing}
use Rattle.chain_theory.proofs.Lists.{increasing-first, increasing-kept}

-- the leaf lies in the subtree of height h at position p
unfoldable pub under : ℕ → ℕ → ℕ → Bool
under h p leaf = eqb (leaf / 2 ^ h) p

-- the leaves below the left child of the node of height h + 1 at position p, and below the right
abbrev pub left_leaves : ℕ → ℕ → List ℕ → List ℕ
left_leaves h p leaves = passing (under h (2 * p)) leaves

abbrev pub right_leaves : ℕ → ℕ → List ℕ → List ℕ
right_leaves h p leaves = passing (under h (2 * p + 1)) leaves

pub under-true : (h p x : ℕ) → under h p x ≡ true → x / 2 ^ h ≡ p
unfolding under
under-true h p x e = eqb-true _ _ e

pub true-under : (h p x : ℕ) → x / 2 ^ h ≡ p → under h p x ≡ true
unfolding under
true-under h p x e = eq-eqb _ _ e

pub halved : (x h : ℕ) → x / 2 ^ suc h ≡ x / 2 ^ h / 2
halved x h = rw (← add-one h) (sym (shr-shr x h 1))

pub div-zero : (x : ℕ) → x / 2 ^ 0 ≡ x
div-zero x = div-one x

-- what lies in a child's subtree lies in the node's
pub under-half : (h p q x : ℕ) → q / 2 ≡ p → under h q x ≡ true → under (suc h) p x ≡ true
under-half h p q x e u = true-under (suc h) p x (halved x h ∙ ap (λ (y : ℕ). y / 2) (under-true h q x u) ∙ e)

-- what lies in a node's subtree lies in that of just one child
pub under-other : (h p x : ℕ) → under (suc h) p x ≡ true → under h (2 * p) x ≡ not (under h (2 * p + 1) x)
unfolding under
under-other h p x u = go (eqb (x / 2 ^ h) (2 * p + 1)) refl
  where
    half : x / 2 ^ h / 2 ≡ p
    half = sym (halved x h) ∙ under-true (suc h) p x u

    go : (b : Bool) → eqb (x / 2 ^ h) (2 * p + 1) ≡ b → eqb (x / 2 ^ h) (2 * p) ≡ not b
    go true e = ne_eqb (x / 2 ^ h) (2 * p) (λ d. omega (arith, eqb-true (x / 2 ^ h) (2 * p + 1) e))
    go false e = eq-eqb (x / 2 ^ h) (2 * p) (omega (arith, half, eqb-false (x / 2 ^ h) (2 * p + 1) e))

pub eqb-sym : (a b : ℕ) → eqb a b ≡ eqb b a
eqb-sym a b = same_test (eqb a b) (eqb b a) (λ t. eq-eqb b a (sym (eqb-true a b t))) (λ t. eq-eqb a b (sym (eqb-true b a t)))

-- a node on a leaf's way is one whose subtree holds the leaf
pub way-under : (n h l p leaf : ℕ) → h + l ≡ n → on_way n leaf (node l p) ≡ under h p leaf
unfolding under
way-under n h l p leaf e = let d : n - l ≡ h = omega arith in rw (le-leb l n (omega arith), d) (eqb-sym p (leaf / 2 ^ h))

abbrev pub non_empty {ℓ} : {A : Type ℓ} → List A → Bool
non_empty [] = false
non_empty (x ∷ xs) = true

pub some_way-under : (n h l p : ℕ) → h + l ≡ n → (leaves : List ℕ) → on_some_way n leaves (node l p) ≡ non_empty (passing (under h p) leaves)
unfolding on_some_way
some_way-under n h l p e [] = unfold passing in refl
some_way-under n h l p e (x ∷ xs) = go (under h p x) refl (some_way-under n h l p e xs)
  where
    go : (b : Bool) → under h p x ≡ b → on_some_way n xs (node l p) ≡ non_empty (passing (under h p) xs)
        → pick (on_way n x (node l p)) true (on_some_way n xs (node l p)) ≡ non_empty (passing (under h p) (x ∷ xs))
    go true u ih = rw (way-under n h l p x e, u, passing-yes (under h p) x xs u)
    go false u ih = rw (way-under n h l p x e, u, passing-no (under h p) x xs u) ih

-- increasing leaves of the subtree of height h at position p
pub record LeavesOf (h p : ℕ) (xs : List ℕ) : Type 0 where
  pub increases : increasing xs ≡ true
  pub inside : every (under h p) xs ≡ true

pub left-leaves : {h p : ℕ} {xs : List ℕ} → LeavesOf (suc h) p xs → LeavesOf h (2 * p) (left_leaves h p xs)
left-leaves {h} {p} {xs} u = record { increases = increasing-kept (under h (2 * p)) xs u.increases; inside = every-passing (under h (2 * p)) xs }

pub right-leaves : {h p : ℕ} {xs : List ℕ} → LeavesOf (suc h) p xs → LeavesOf h (2 * p + 1) (right_leaves h p xs)
right-leaves {h} {p} {xs} u =
    record
    { increases = increasing-kept (under h (2 * p + 1)) xs u.increases; inside = every-passing (under h (2 * p + 1)) xs }

-- they are those of the left child and then those of the right
pub leaves-halves : {h p : ℕ} {xs : List ℕ} → LeavesOf (suc h) p xs → left_leaves h p xs ++ right_leaves h p xs ≡ xs
leaves-halves {h} {p} {xs} u = halves (under (suc h) p) (under h (2 * p)) (under h (2 * p + 1)) (under-other h p) beyond xs u.increases u.inside
  where
    beyond : (x y : ℕ) → ltb x y ≡ true → under h (2 * p + 1) x ≡ true → under (suc h) p y ≡ true → under h (2 * p + 1) y ≡ true
    beyond x y lt ux uy =
        let a = under-true h (2 * p + 1) x ux in
        let b : y / 2 ^ h / 2 ≡ p = sym (halved y h) ∙ under-true (suc h) p y uy in
        let l = ltb-true x y lt in
        let m : x / 2 ^ h ≤ y / 2 ^ h = shr_mono h (omega arith) in
        true-under h (2 * p + 1) y (omega arith)

-- a subtree of height 0 has one
pub single : {p x : ℕ} {xs : List ℕ} → LeavesOf zero p (x ∷ xs) → x ∷ xs ≡ p ∷ []
single {p} {x} {xs} u = go xs (increasing-first x xs u.increases) (every_rest (under zero p) x xs u.inside)
  where
    is : (y : ℕ) → under zero p y ≡ true → y ≡ p
    is y t = sym (div-zero y) ∙ under-true zero p y t

    first : x ≡ p
    first = is x (every_first (under zero p) x xs u.inside)

    go : (ys : List ℕ) → every (ltb x) ys ≡ true → every (under zero p) ys ≡ true → x ∷ ys ≡ p ∷ []
    go [] h k = rw first
    go (y ∷ ys) h k = absurd (omega (arith, first, ltb-true x y (every_first (ltb x) y ys h), is y (every_first (under zero p) y ys k)))

pub div-small : (n x : ℕ) → x < 2 ^ n → x / 2 ^ n ≡ 0
div-small n x h = let l = (div-lt_iff_lt-mul {x = x} {y = 1} (pow_pos n)).1 (omega arith) in omega arith

pub small-div : (n x : ℕ) → x / 2 ^ n ≡ 0 → x < 2 ^ n
small-div n x e = let l = (div-lt_iff_lt-mul {x = x} {y = 1} (pow_pos n)).0 (omega arith) in omega arith

-- all leaves of the tree are those of the subtree at the root
pub leaves-under : (n : ℕ) (leaves : List ℕ) → every (is_leaf n) leaves ≡ true → every (under n 0) leaves ≡ true
unfolding is_leaf
leaves-under n leaves h = every-imp (is_leaf n) (under n 0) (λ x t. true-under n 0 x (div-small n x (ltb-true x (2 ^ n) t))) leaves h
