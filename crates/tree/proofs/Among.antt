-- Laws of 'the node is one of the list' and of choosing from a list by a test.
use mathlib.Core.Path.{◌≡◌, refl, ap, ◌∙◌}
use mathlib.Core.Logic.{◌⊎◌, inl, inr}
use Prim.Native.Nat.{ℕ}
use native.Mathlib.Omega.{arith}
use mathlib.Core.Bool.{Bool, true, false}
use mathlib.Core.List.{List, [], ◌∷◌, ◌++◌}
use lib.Dec.{eqb}
use lib.ListN.{take, drop, take-append-drop}
use borrow.Author.Tests.{eqb-true, eq-eqb}
use Rattle.base.specs.Choice.{pick, both, passing}
use Rattle.tree.specs.Nodes.{Node, node, same_node}
use Rattle.tree.specs.Held.{among}

pub true-not-false : {t : Bool} → t ≡ true → t ≡ false → ⊥
true-not-false a b = let y : ◌≡◌ {A = ℕ} 0 1 = cc in omega arith

pub same_node-true : (v w : Node) → same_node v w ≡ true → v ≡ w
same_node-true v w = go (eqb v.level w.level) (eqb v.position w.position) refl refl
  where
    go :
        (a b : Bool) → eqb v.level w.level ≡ a → eqb v.position w.position ≡ b → both a b ≡ true → v ≡ w
    go true true e f t =
        let g : v.level ≡ w.level = eqb-true v.level w.level e in
        let h : v.position ≡ w.position = eqb-true v.position w.position f in
        let r : node v.level v.position ≡ node w.level w.position = rw (g, h) in
        r
    go true false e f t = absurd (true-not-false t refl)
    go false b e f t = absurd (true-not-false t refl)

pub same_node-refl : (v : Node) → same_node v v ≡ true
same_node-refl v = rw (eq-eqb v.level v.level refl, eq-eqb v.position v.position refl)

pub false-if-not : (t : Bool) → (t ≡ true → ⊥) → t ≡ false
false-if-not true no_way = absurd (no_way refl)
false-if-not false no_way = refl

pub either : (a b : Bool) → pick a true b ≡ true → (a ≡ true) ⊎ (b ≡ true)
either true b e = inl refl
either false b e = inr e

pub either-right : (a b : Bool) → b ≡ true → pick a true b ≡ true
either-right true b e = refl
either-right false b e = e

pub among-append : (xs ys : List Node) (v : Node) → among (xs ++ ys) v ≡ pick (among xs v) true (among ys v)
unfolding among
among-append [] ys v = refl
among-append (x ∷ xs) ys v = go (same_node v x) (among-append xs ys v)
  where
    go :
        (t : Bool) → among (xs ++ ys) v ≡ pick (among xs v) true (among ys v)
        → pick t true (among (xs ++ ys) v) ≡ pick (pick t true (among xs v)) true (among ys v)
    go true e = refl
    go false e = e

pub among_one : (w v : Node) → among (w ∷ []) v ≡ true → v ≡ w
unfolding among
among_one w v e = go (same_node v w) refl e
  where
    go : (t : Bool) → same_node v w ≡ t → pick t true false ≡ true → v ≡ w
    go true f g = same_node-true v w f
    go false f g = absurd (true-not-false g refl)

pub among-here : (w : Node) (ws : List Node) → among (w ∷ ws) w ≡ true
unfolding among
among-here w ws = rw (same_node-refl w)

pub among-nil : (v : Node) → among [] v ≡ true → ⊥
unfolding among
among-nil v e = true-not-false e refl

pub among_there : (w : Node) (ws : List Node) (v : Node) → among ws v ≡ true → among (w ∷ ws) v ≡ true
unfolding among
among_there w ws v e = either-right (same_node v w) (among ws v) e

pub among-left : (xs ys : List Node) (v : Node) → among xs v ≡ true → among (xs ++ ys) v ≡ true
among-left xs ys v e = rw (among-append xs ys v, e)

pub among-right : (xs ys : List Node) (v : Node) → among ys v ≡ true → among (xs ++ ys) v ≡ true
among-right xs ys v e = among-append xs ys v ∙ either-right (among xs v) (among ys v) e

pub among-take : (k : ℕ) (xs : List Node) (v : Node) → among (take k xs) v ≡ true → among xs v ≡ true
among-take k xs v e = rw (take-append-drop k xs) at (among-left (take k xs) (drop k xs) v e)

pub passing-append {ℓ} :
    {A : Type ℓ} (test : A → Bool) (xs ys : List A) → passing test (xs ++ ys) ≡ passing test xs ++ passing test ys
unfolding passing
passing-append test [] ys = refl
passing-append test (x ∷ xs) ys = go (test x) (passing-append test xs ys)
  where
    go :
        (t : Bool) → passing test (xs ++ ys) ≡ passing test xs ++ passing test ys
        → pick t (x ∷ passing test (xs ++ ys)) (passing test (xs ++ ys)) ≡ pick t (x ∷ passing test xs) (passing test xs) ++ passing test ys
    go true e = ap (λ zs. x ∷ zs) e
    go false e = e

-- tests that agree on the list choose the same
pub passing-same :
    (test other : Node → Bool) (xs : List Node) → ((v : Node) → among xs v ≡ true → test v ≡ other v)
    → passing test xs ≡ passing other xs
unfolding passing
passing-same test other [] same = refl
passing-same test other (x ∷ xs) same =
    rw (same x (among-here x xs), passing-same test other xs (λ v e. same v (among_there x xs v e)))
