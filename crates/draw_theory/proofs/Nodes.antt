-- The nodes of the chain: their number, that they are those on the ways, each once, in labelling order, and their codes in the list.
use mathlib.Core.Path.{◌≡◌, refl, sym, ◌∙◌}
use Prim.Native.Nat.{ℕ, ◌+◌, ◌-◌, ◌^◌, ◌≤◌, ◌<◌}
use native.Mathlib.Nat.{zero-add}
use native.Mathlib.Omega.{arith}
use mathlib.Core.Bool.{Bool, true, false}
use mathlib.Core.List.{List, [], ◌∷◌, map}
use lib.ListN.{length, get_or, take, drop, length-map}
use lib.Pow.{shr_lt, pow_mono}
use lib.Seq.{take_at, drop_at}
use Rattle.base.specs.Limits.{max_depth}
use Rattle.base.specs.Choice.{both, passing}
use Rattle.base.specs.Bytes.{written}
use Rattle.base.proofs.ChoiceLaws.{both_first, both_true}
use Rattle.base.proofs.Copying.{length-written}
use Rattle.tree.specs.Nodes.{Node, root, same_node, InTree, on_way, labelling_order}
use Rattle.tree.specs.Held.{among}
use Rattle.tree.proofs.Among.{passing-same}
use Rattle.tree.proofs.OpeningLaws.{way-position, way-level}
use Rattle.chain_theory.specs.Ways.{on_some_way, chain, code, chain_codes}
use Rattle.chain_theory.specs.Counts.{leaves_opened}
use Rattle.chain_theory.specs.Planning.{sorted}
use Rattle.chain_theory.proofs.Lists.{passing-no, same_test}
use Rattle.chain_theory.proofs.Subtrees.{non_empty}
use Rattle.chain_theory.proofs.OrderLaws.{times, once, is_below, times-at, times-order}
use Rattle.chain_theory.proofs.Sorting.{non_empty-sorted, length-sorted}
use Rattle.chain_theory.proofs.Counting.{chain-count-k}
use Rattle.chain_theory.proofs.Once.{chain-times, below_root, chain-at, chain-different}
use Rattle.chain_theory.proofs.Parents.{among-place}
use Rattle.check_theory.specs.IsProof.{IsProof}
use Rattle.draw.specs.Drawing.{proof_edition, leaves_of}
use Rattle.draw_theory.specs.Demand3.{opened_leaf, Passes, chain_length, drawn_nodes, OnTheWays, ListDrawn}
use Rattle.draw_theory.proofs.Openings.{passes-some, some-passes, leaf-inside, all-inside, some-leaf}

-- ---- a node of a list stands in it at least once
times-among : (v : Node) (ws : List Node) → 1 ≤ times v ws → among ws v ≡ true
times-among v [] h = absurd (unfold passing in omega arith)
times-among v (w ∷ ws) h = go (same_node v w) refl (times-among v ws)
  where
    go : (b : Bool) → same_node v w ≡ b → (1 ≤ times v ws → among ws v ≡ true) → among (w ∷ ws) v ≡ true
    go true e rest = unfold among in rw e
    go false e rest = unfold among in rw e (rest (rw (passing-no (same_node v) w ws e) at h))

among-times : (v : Node) (ws : List Node) → among ws v ≡ true → 1 ≤ times v ws
among-times v ws m =
    let at = among-place ws v root m in
    rw at.2 at (times-at ws root at.0 at.1)

one-true : (b : Bool) → 1 ≤ once b → b ≡ true
one-true true h = refl
one-true false h = absurd (omega arith)

true-one : (b : Bool) → b ≡ true → 1 ≤ once b
true-one b e = rw e (omega arith)

module _ (n : ℕ) (leaves : List ℕ) where
  -- a node is in the chain just when it is of the tree and on some way
  among-chain : (v : Node) → among (chain n leaves) v ≡ true → both (on_some_way n leaves v) (is_below n 0 0 v) ≡ true
  among-chain v m = one-true _ (rw (chain-times n leaves v) at (among-times v (chain n leaves) m))

  chain-among : (v : Node) → on_some_way n leaves v ≡ true → is_below n 0 0 v ≡ true → among (chain n leaves) v ≡ true
  chain-among v a b =
      times-among v (chain n leaves)
      (rw (chain-times n leaves v)
      (true-one (both (on_some_way n leaves v) (is_below n 0 0 v)) (both_true (on_some_way n leaves v) (is_below n 0 0 v) a b)))

  order_below : (v : Node) → among (labelling_order n) v ≡ true → is_below n 0 0 v ≡ true
  unfolding labelling_order
  order_below v m = one-true (is_below n 0 0 v) (rw (times-order v n 0 0) at (among-times v (labelling_order n) m))

  chain-order : chain n leaves ≡ passing (among (chain n leaves)) (labelling_order n)
  chain-order = by-test ∙ sym (passing-same (among (chain n leaves)) (on_some_way n leaves) (labelling_order n) same_tests)
    where
      by-test : chain n leaves ≡ passing (on_some_way n leaves) (labelling_order n)
      by-test = unfold chain in refl

      same_tests : (v : Node) → among (labelling_order n) v ≡ true → among (chain n leaves) v ≡ on_some_way n leaves v
      same_tests v m =
          same_test (among (chain n leaves) v) (on_some_way n leaves v)
          (λ a. both_first (on_some_way n leaves v) (is_below n 0 0 v) (among-chain v a))
          (λ a. chain-among v a (order_below v m))

-- a node on a leaf's way is of the tree
way-in-tree : (n leaf : ℕ) (v : Node) → leaf < 2 ^ n → on_way n leaf v ≡ true → InTree n v
way-in-tree n leaf v inside w =
    let le : v.level ≤ n = way-level n leaf v w in
    let all : v.level + (n - v.level) ≡ n = omega arith in
    (le, rw (way-position n leaf v w) (shr_lt v.level (n - v.level) (rw all inside)))

sorted-some : (xs : List ℕ) → 1 ≤ length xs → 1 ≤ length (sorted xs)
sorted-some xs h = long (sorted xs) (non_empty-sorted xs ∙ filled xs h)
  where
    filled : (ys : List ℕ) → 1 ≤ length ys → non_empty ys ≡ true
    filled [] k = absurd (omega arith)
    filled (y ∷ ys) k = refl

    long : (ys : List ℕ) → non_empty ys ≡ true → 1 ≤ length ys
    long [] e = absurd (let no : ◌≡◌ {A = ℕ} 0 1 = cc in omega arith)
    long (y ∷ ys) e = omega arith

module _ (bytes statement : List ℕ) (n t : ℕ) (p : IsProof (proof_edition bytes) bytes statement n t) where
  -- k is at least 1
  pub leaves-some : 1 ≤ leaves_opened (leaves_of bytes statement n t)
  leaves-some =
      rw (← length-sorted (leaves_of bytes statement n t))
      (sorted-some (leaves_of bytes statement n t) (some-leaf bytes statement n t p))

  pub nodes-count : length (drawn_nodes bytes statement n t) ≡ chain_length bytes statement n t
  nodes-count = chain-count-k n (leaves_of bytes statement n t) (all-inside bytes statement n t p) leaves-some

  passes-in-tree : (v : Node) (i : ℕ) → Passes bytes statement n t i v → InTree n v
  passes-in-tree v i q = way-in-tree n (opened_leaf bytes statement n i) v (leaf-inside bytes statement n t p i) q.through

  pub on-the-ways : OnTheWays bytes statement n t (drawn_nodes bytes statement n t)
  on-the-ways =
      let leaves : List ℕ = leaves_of bytes statement n t in
      record {
        on_ways =
            λ v. (
              λ m. passes-some bytes statement n t v (both_first (on_some_way n leaves v) (is_below n 0 0 v) (among-chain n leaves v m)),
              λ q. chain-among n leaves v (some-passes bytes statement n t v q.0 q.1) (below_root n v (passes-in-tree v q.0 q.1)),
            );
        once = chain-different n leaves root;
        in_order = chain-order n leaves;
      }

  code_fits : (v : Node) → InTree n v → code v < 2 ^ 64
  code_fits v in_tree =
      let up : 2 ^ v.level ≤ 2 ^ max_depth = pow_mono {i = v.level} {j = max_depth} (omega (arith, in_tree.0, p.depth.1)) in
      omega (arith, in_tree.1)

  pub list-drawn : (list : List ℕ) → length (drawn_nodes bytes statement n t) ≤ length list
      → ListDrawn (drawn_nodes bytes statement n t) list (written list 0 (chain_codes n (leaves_of bytes statement n t)))
  unfolding chain_codes
  list-drawn list fits =
      let nodes : List Node = drawn_nodes bytes statement n t in
      let size : length (map code nodes) ≡ length nodes = length-map nodes code in
      record {
        codes = first_part nodes size;
        fit = λ k h. code_fits (get_or nodes k root) (chain-at n (leaves_of bytes statement n t) root k h).0;
        later = later-part nodes size;
        places = length-written list 0 (map code nodes) (omega (arith, size));
      }
    where
      first_part :
          (nodes : List Node) → length (map code nodes) ≡ length nodes
          → take (length nodes) (written list 0 (map code nodes)) ≡ map code nodes
      first_part nodes size = unfold written in take_at (map code nodes) _ (length nodes) size

      later-part :
          (nodes : List Node) → length (map code nodes) ≡ length nodes
          → drop (length nodes) (written list 0 (map code nodes)) ≡ drop (length nodes) list
      later-part nodes size = unfold written in drop_at (map code nodes) _ (length nodes) size ∙ rw (zero-add, size)
