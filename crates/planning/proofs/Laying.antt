-- The texts of a plan: how long they are, and one after the other.
use mathlib.Core.Path.{◌≡◌}
use Prim.Native.Nat.{ℕ, ◌+◌, ◌*◌, ◌≤◌, ◌<◌}
use native.Mathlib.Numerals.{add-one}
use native.Mathlib.Omega.{arith}
use mathlib.Core.List.{List, [], ◌∷◌, ◌++◌}
use lib.ListN.{length, get_or, drop, length-append, drop_of_length-le}
use lib.Seq.{drop-cons}
use Rattle.base.specs.Bytes.{joined}
use Rattle.decimal.specs.Ascii.{ascii}
use Rattle.decimal.specs.Text.{decimal, field}
use Rattle.decimal.proofs.Laying.{decimal-short, field-length}
use Rattle.tree.specs.Nodes.{Node, root}
use Rattle.planning.specs.Output.{node_text, nodes_text}

-- the nodes
pub nodes-turn : (vs : List Node) (i : ℕ) → i < length vs → nodes_text (drop i vs) ≡ node_text (get_or vs i root) ++ nodes_text (drop (i + 1) vs)
unfolding nodes_text joined
nodes-turn vs i h = rw (add-one i, drop-cons vs i root h)

pub nodes-end : (vs : List Node) (i : ℕ) → length vs ≤ i → nodes_text (drop i vs) ≡ []
unfolding nodes_text joined
nodes-end vs i h = rw (drop_of_length-le vs h)

pub node-short : (v : Node) → length (node_text v) ≤ 42
unfolding node_text
node-short v =
    omega (
      arith,
      length-append (decimal v.level ++ field (32 ∷ []) v.position) (10 ∷ []),
      length-append (decimal v.level) (field (32 ∷ []) v.position),
      length-append (32 ∷ []) (decimal v.position),
      decimal-short v.level,
      decimal-short v.position,
    )

pub nodes-short : (vs : List Node) → length (nodes_text vs) ≤ 42 * length vs
unfolding nodes_text joined
nodes-short [] = omega arith
nodes-short (v ∷ vs) = omega (arith, length-append (node_text v) (nodes_text vs), node-short v, nodes-short vs)

-- the lengths of the other texts, from their first part on
abbrev pub depth_word : List ℕ
depth_word = ascii "depth "

abbrev pub leaves_word : List ℕ
leaves_word = ascii " leaves "

abbrev pub chain_word : List ℕ
chain_word = ascii " chain "

abbrev pub refused_word : List ℕ
refused_word = ascii "refused "

pub refused-short : (k : ℕ) → length (field refused_word k ++ 10 ∷ []) ≤ 29
refused-short k = omega (arith, length-append (field refused_word k) (10 ∷ []), field-length refused_word k)

pub head-one : (n k : ℕ) → length (field depth_word n ++ field leaves_word k) ≤ 54
head-one n k = omega (arith, length-append (field depth_word n) (field leaves_word k), field-length depth_word n, field-length leaves_word k)

pub head-two : (n k c : ℕ) → length (field depth_word n ++ field leaves_word k ++ field chain_word c) ≤ 81
head-two n k c = omega (arith, length-append (field depth_word n ++ field leaves_word k) (field chain_word c), head-one n k, field-length chain_word c)

pub head-short : (n k c : ℕ) → length (field depth_word n ++ field leaves_word k ++ field chain_word c ++ 10 ∷ []) ≤ 82
head-short n k c = omega (arith, length-append (field depth_word n ++ field leaves_word k ++ field chain_word c) (10 ∷ []), head-two n k c)

pub node-one : (l p : ℕ) → length (decimal l ++ field (32 ∷ []) p) ≤ 41
node-one l p = omega (arith, length-append (decimal l) (field (32 ∷ []) p), decimal-short l, field-length (32 ∷ []) p)
