-- The planned codes are the chain's.
use mathlib.Core.Path.{◌≡◌, refl, sym, ap, subst, ◌∙◌}
use Prim.Native.Nat.{ℕ, zero, suc, ◌+◌, ◌*◌, ◌/◌, ◌^◌}
use native.Mathlib.Omega.{arith}
use native.Mathlib.Nat.{add-mul-div_right, zero-div, add_comm}
use mathlib.Core.Bool.{true}
use mathlib.Core.List.{List, [], ◌∷◌, ◌++◌, map, append-nil, append_assoc}
use Rattle.std.proofs.Math.Nat.{pow-suc, pow-zero, one-mul}
use lib.Pow.{pow_pos, pow-add}
use borrow.Author.Tests.{eq-eqb, ne_eqb}
use Rattle.base.specs.Choice.{every}
use Rattle.tree.specs.Nodes.{Node, node}
use Rattle.chain_theory.specs.Ways.{chain, code, chain_codes}
use Rattle.chain_theory.specs.Planning.{increasing, is_leaf, sorted, climb, next_code, plan_from, plan}
use Rattle.chain_theory.proofs.Lists.{clash, every_first}
use Rattle.chain_theory.proofs.Subtrees.{under, under-true, halved, div-zero, non_empty}
use Rattle.chain_theory.proofs.ChainBelow.{chain_below-none, chain-chain_below, chain-induction}
use Rattle.chain_theory.proofs.Sorting.{increasing-sorted, every-sorted, chain-sorted}

-- the code of a leaf's ancestor at height h
code-above : (n h l x : ℕ) → h + l ≡ n → (2 ^ n + x) / 2 ^ h ≡ 2 ^ l + x / 2 ^ h
code-above n h l x e =
    let s : l + h ≡ n = omega arith in
    rw (← s, pow-add 2 l h, add_comm (2 ^ l * 2 ^ h) x) (add-mul-div_right x (2 ^ l) (pow_pos h) ∙ add_comm (x / 2 ^ h) (2 ^ l))

pub climb-met : (f a b : ℕ) → a ≡ b → climb f a b ≡ []
unfolding climb
climb-met zero a b e = refl
climb-met (suc f) a b e = rw (eq-eqb a b e)

pub climb-on : (f a b : ℕ) → (a ≡ b → ⊥) → climb (suc f) a b ≡ a ∷ climb f (a / 2) (b / 2)
unfolding climb
climb-on f a b ne = rw (ne_eqb a b ne)

map-append : {A B : Type 0} (f : A → B) (xs ys : List A) → map f (xs ++ ys) ≡ map f xs ++ map f ys
map-append f [] ys = refl
map-append f (x ∷ xs) ys = rw (map-append f xs ys)

-- the next leaf's way does not pass the node
abbrev Passed : ℕ → ℕ → ℕ → ℕ → List ℕ → Type 0
Passed n h l p rest = 2 ^ l + p ≡ next_code n rest / 2 ^ h → ⊥

-- The leaves xs of a subtree write the nodes vs of it; the last of them then climbs on from the node above.
abbrev Writes : ℕ → ℕ → ℕ → ℕ → List ℕ → List Node → Type 0
Writes n h l p xs vs =
    (rest : List ℕ) → Passed n h l p rest
    → plan_from n (xs ++ rest) ≡ map code vs ++ (climb l ((2 ^ l + p) / 2) (next_code n rest / 2 ^ suc h) ++ plan_from n rest)

pow-one : (x : ℕ) → x ^ suc zero ≡ x
pow-one x = rw (pow-suc x zero, pow-zero x, one-mul x)

leaf-writes-at : (l p : ℕ) → Writes l zero l p (p ∷ []) (node l p ∷ [])
unfolding plan_from
leaf-writes-at l p rest ne =
    rw (climb-on l (2 ^ l + p) (next_code l rest) (λ d. ne (rw (div-zero (next_code l rest)) d))) (rw (pow-one 2))

leaf-writes : (n l p : ℕ) → zero + l ≡ n → Writes n zero l p (p ∷ []) (node l p ∷ [])
leaf-writes n l p e =
    let en : l ≡ n = omega arith in
    subst (λ (m : ℕ). Writes m zero l p (p ∷ []) (node l p ∷ [])) en (leaf-writes-at l p)

-- the next leaf's ancestor, where a leaf of the subtree is next
next-inside : (n h l p : ℕ) (xs rest : List ℕ) → h + l ≡ n → non_empty xs ≡ true → every (under h p) xs ≡ true
    → next_code n (xs ++ rest) / 2 ^ h ≡ 2 ^ l + p
unfolding next_code
next-inside n h l p [] rest e k u = absurd (clash k refl)
next-inside n h l p (x ∷ xs) rest e k u = code-above n h l x e ∙ ap (λ (q : ℕ). 2 ^ l + q) (under-true h p x (every_first (under h p) x xs u))

-- from a child the climb goes on to the node, and above it
one_writes : (n h l p q : ℕ) (xs : List ℕ) (vs : List Node) → suc h + l ≡ n → q / 2 ≡ p → Writes n h (suc l) q xs vs
    → Writes n (suc h) l p xs (vs ++ node l p ∷ [])
one_writes n h l p q xs vs _ e f rest ne =
    let a : (2 ^ suc l + q) / 2 ≡ 2 ^ l + p = omega arith in
    let child : Passed n h (suc l) q rest = λ d. ne (sym a ∙ ap (λ (c : ℕ). c / 2) d ∙ sym (halved (next_code n rest) h)) in
    f rest child ∙ rw (a, climb-on l (2 ^ l + p) (next_code n rest / 2 ^ suc h) ne, ← halved (next_code n rest) (suc h), map-append) (simp append_assoc)

-- the left child's leaves stop where they meet the right child's
two-writes : (n h l p : ℕ) (xs ys : List ℕ) (vs ws : List Node) → suc h + l ≡ n → non_empty ys ≡ true → every (under h (2 * p + 1)) ys ≡ true
    → Writes n h (suc l) (2 * p) xs vs → Writes n h (suc l) (2 * p + 1) ys ws → Writes n (suc h) l p (xs ++ ys) (vs ++ ws ++ node l p ∷ [])
two-writes n h l p xs ys vs ws e k u f g rest ne =
    let next : next_code n (ys ++ rest) / 2 ^ h ≡ 2 ^ suc l + (2 * p + 1) = next-inside n h (suc l) (2 * p + 1) ys rest (omega arith) k u in
    let met : (2 ^ suc l + 2 * p) / 2 ≡ next_code n (ys ++ rest) / 2 ^ suc h = rw (halved (next_code n (ys ++ rest)) h, next) (omega arith) in
    let right = one_writes n h l p (2 * p + 1) ys ws e (omega arith) g rest ne in
    rw (append_assoc xs ys rest, append_assoc vs ws (node l p ∷ []))
    (f (ys ++ rest) (λ d. omega arith)
    ∙ rw (climb-met (suc l) ((2 ^ suc l + 2 * p) / 2) (next_code n (ys ++ rest) / 2 ^ suc h) met, right, map-append code vs) (simp append_assoc))

-- Increasing leaves write their chain: nothing follows them, and nothing is above the root.
pub plan_from-chain : (n : ℕ) (xs : List ℕ) → increasing xs ≡ true → every (is_leaf n) xs ≡ true → plan_from n xs ≡ chain_codes n xs
unfolding plan_from next_code climb chain_codes
plan_from-chain n [] i h = rw (chain-chain_below n [] h, chain_below-none n 0 0)
plan_from-chain n (x ∷ xs) i h =
    let writes = chain-induction n (Writes n) (leaf-writes n) (one_writes n) (two-writes n) (x ∷ xs) i h refl in
    sym (ap (plan_from n) (append-nil (x ∷ xs))) ∙ writes [] (λ d. omega (arith, zero-div (2 ^ n))) ∙ append-nil (map code (chain n (x ∷ xs)))

-- The plan is the chain, for any leaves, in any order, with repeats.
pub plan-chain : (n : ℕ) (leaves : List ℕ) → every (is_leaf n) leaves ≡ true → plan n leaves ≡ chain_codes n leaves
unfolding plan chain_codes
plan-chain n leaves h = plan_from-chain n (sorted leaves) (increasing-sorted leaves) (every-sorted (is_leaf n) leaves ∙ h) ∙ rw (chain-sorted n leaves)
