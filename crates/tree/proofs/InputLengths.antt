-- Document 01's lengths of hash inputs: a leaf has as many parents as its position has one-bits, and so 41 bytes and 32 for each; an
-- inner node's input has 105.
use mathlib.Core.Path.{◌≡◌, refl, ap, ◌∙◌}
use mathlib.Core.Bool.{Bool, true, false}
use mathlib.Core.List.{List}
use Prim.Native.Nat.{ℕ, ◌+◌, ◌*◌, ◌/◌, ◌%◌, ◌^◌, ◌<◌}
use native.Mathlib.Nat.{mod-lt}
use native.Mathlib.Omega.{arith}
use borrow.Author.Tests.{ltb-true, ltb-false}
use lib.Count.{ones, ones_cat, ones-le}
use lib.Dec.{ltb}
use lib.ListN.{length}
use lib.Pow.{pow_pos, split}
use Rattle.base.specs.Choice.{pick}
use Rattle.base.specs.Lists.{EachOf}
use Rattle.tree.specs.Nodes.{Node, InTree, parents}
use Rattle.tree.specs.Labels.{Label, document_input, input_size}
use Rattle.tree.proofs.Parents.{parents-count, parents-of-inner}
use Rattle.tree.proofs.DocumentRule.{length-input}

pub size-of-leaf : (n : ℕ) (v : Node) → v.level ≡ n → v.position < 2 ^ n → input_size n v ≡ 41 + 32 * ones v.position
unfolding input_size
size-of-leaf n v leaf inside = rw (parents-count n v leaf inside)

pub size-of-inner : (n : ℕ) (v : Node) → v.level < n → input_size n v ≡ 105
unfolding input_size
size-of-inner n v inner = rw (parents-of-inner n v inner)

-- for every node of every depth: the input over labels of 32 bytes, one for each parent, has this length
pub input-lengths :
    (edition : ℕ) (statement : List ℕ) → length statement ≡ 32 → (n : ℕ) (v : Node) → InTree n v → (labels : List Label) → EachOf 32 labels
    → length labels ≡ length (parents n v)
    → (length (document_input edition n statement v labels) ≡ input_size n v)
    × (input_size n v ≡ pick (ltb v.level n) 105 (41 + 32 * ones v.position))
unfolding input_size
input-lengths edition statement size n v in_tree labels each count =
    (length-input edition n statement size v labels each ∙ ap (λ (k : ℕ). 41 + 32 * k) count, go (ltb v.level n) refl)
  where
    go : (t : Bool) → ltb v.level n ≡ t → input_size n v ≡ pick t 105 (41 + 32 * ones v.position)
    go true e = size-of-inner n v (ltb-true v.level n e)
    go false e =
        let leaf : v.level ≡ n = omega (arith, ltb-false v.level n e) in
        size-of-leaf n v leaf (rw leaf at in_tree.1)

-- a position's one-bits: those of the node some levels above, and those below it
pub ones_split : (p j : ℕ) → ones p ≡ ones (p / 2 ^ j) + ones (p % 2 ^ j)
ones_split p j = rw (split p j) at (ones_cat j (p / 2 ^ j) (p % 2 ^ j) (mod-lt p (pow_pos j)))

pub ones-zero : ones 0 ≡ 0
ones-zero = omega (arith, ones-le 0 0 (omega arith))
