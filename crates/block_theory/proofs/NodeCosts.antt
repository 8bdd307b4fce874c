-- W-207, 'An inner node costs 2, a leaf without parents 1, the dearest leaf 21': a node's blocks, by the length of its input.
use mathlib.Core.Path.{◌≡◌, refl, ap, ◌∙◌}
use mathlib.Core.Bool.{Bool, true, false}
use mathlib.Core.List.{[]}
use Prim.Native.Nat.{ℕ, ◌+◌, ◌-◌, ◌*◌, ◌/◌, ◌^◌, ◌≤◌, ◌<◌}
use native.Mathlib.Omega.{arith}
use borrow.Author.Tests.{ltb-true, ltb-false}
use lib.Count.{ones, ones-le, ones-ones}
use lib.Dec.{ltb, lit<}
use Rattle.base.specs.Limits.{max_depth}
use Rattle.sha256.specs.Padding.{blocks_of}
use Rattle.tree.specs.Nodes.{Node, node, InTree, parents}
use Rattle.tree.specs.Labels.{input_size}
use Rattle.tree.proofs.InputLengths.{size-of-leaf, size-of-inner}
use Rattle.labelling.specs.Blocks.{node_blocks, most_blocks}

pub inner-blocks : (n : ℕ) (v : Node) → v.level < n → node_blocks n v ≡ 2
inner-blocks n v inner = ap blocks_of (size-of-inner n v inner)

-- two parents more take one block more
blocks-of-parents : (k : ℕ) → blocks_of (41 + 32 * k) ≡ (k + 1) / 2 + 1
blocks-of-parents k = omega arith

pub leaf-blocks : (n : ℕ) (v : Node) → v.level ≡ n → v.position < 2 ^ n → node_blocks n v ≡ (ones v.position + 1) / 2 + 1
leaf-blocks n v leaf inside = ap blocks_of (size-of-leaf n v leaf inside) ∙ blocks-of-parents (ones v.position)

pub no-parents-blocks : (n : ℕ) (v : Node) → parents n v ≡ [] → node_blocks n v ≡ 1
unfolding input_size
no-parents-blocks n v none = rw none

pub most-blocks : (n : ℕ) (v : Node) → n ≤ max_depth → InTree n v → node_blocks n v ≤ most_blocks
most-blocks n v shallow in_tree = go (ltb v.level n) refl
  where
    go : (t : Bool) → ltb v.level n ≡ t → node_blocks n v ≤ most_blocks
    go true e = omega (arith, inner-blocks n v (ltb-true v.level n e))
    go false e =
        let leaf : v.level ≡ n = omega (arith, ltb-false v.level n e) in
        let inside : v.position < 2 ^ n = rw leaf at in_tree.1 in
        omega (arith, leaf-blocks n v leaf inside, ones-le n v.position inside)

-- its position has 40 one-bits; computing them would go through 2^40 − 1
pub dearest-blocks : node_blocks 40 (node 40 (2 ^ 40 - 1)) ≡ 21
dearest-blocks =
    leaf-blocks 40 (node 40 (2 ^ 40 - 1)) refl (lit< tt) ∙ ap (λ (k : ℕ). (k + 1) / 2 + 1) (ones-ones 40)
