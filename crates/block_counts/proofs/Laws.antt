-- The closed formula as the code takes it, its bounds, and the openings of a file one by one.
use mathlib.Core.Path.{◌≡◌, refl, sym}
use mathlib.Core.List.{List}
use Prim.Native.Nat.{ℕ, ◌+◌, ◌-◌, ◌*◌, ◌/◌, ◌%◌, ◌^◌, ◌≤◌, ◌<◌}
use native.Mathlib.Nat.{zero-add, mul-le-mul}
use native.Mathlib.Numerals.{add-one}
use native.Mathlib.Omega.{arith}
use lib.Count.{ones, ones-le}
use lib.Pow.{pow_mono}
use Rattle.base.specs.Limits.{max_depth, IsDepth, IsMemory}
use Rattle.base.proofs.Powers.{shifted_one}
use Rattle.tree.specs.Nodes.{node, order_below, labelling_order}
use Rattle.opening_places.specs.Possible.{Possible}
use Rattle.file_head.specs.Challenge.{challenge_leaf}
use Rattle.file_head.proofs.Leaves.{challenge_leaf-small}
use Rattle.block_theory.specs.Sums.{blocks_sum, file_nodes, tree_blocks, opening_blocks}
use Rattle.block_theory.proofs.Sums.{sum-append, subtree-formula, opening-topmost}
use Rattle.block_counts.specs.Seal.{seal_blocks}

-- ---- a subtree: the formula's product as the code makes it
abbrev pub product : ℕ → ℕ → ℕ
product h p = (2 * ones p + h + 13) * ((1 * 2 ^ h) % 2 ^ 64)

module _ (h l p : ℕ) (deep : l + h ≤ max_depth) (inside : p < 2 ^ l) where
  shifted : (1 * 2 ^ h) % 2 ^ 64 ≡ 2 ^ h
  shifted = shifted_one h (omega arith)

  pub power-least : 1 ≤ h → 2 ≤ (1 * 2 ^ h) % 2 ^ 64
  power-least some = rw shifted (pow_mono {i = 1} {j = h} some)

  pub product-most : product h p ≤ 133 * 2 ^ 40
  product-most =
      let factor : 2 * ones p + h + 13 ≤ 133 = omega (arith, ones-le l p inside) in
      let shallow : h ≤ max_depth = omega arith in
      rw shifted (mul-le-mul factor (pow_mono shallow))

  pub product-exact : 1 ≤ h → product h p ≡ 4 * (blocks_sum (l + h) (order_below h (node l p)) + 2)
  product-exact some = rw shifted (sym (subtree-formula (l + h) h (node l p) some refl inside))

-- ---- a run and an opening
pub run-blocks : (n : ℕ) → blocks_sum (0 + n) (order_below n (node 0 0)) ≡ tree_blocks n
unfolding labelling_order
run-blocks n = rw (zero-add n)

pub anew-and-topmost :
    (n m leaf : ℕ) → m < n
    → blocks_sum (m + (n - m)) (order_below (n - m) (node m (leaf / 2 ^ (n - m)))) ≡ opening_blocks n m leaf + 2
anew-and-topmost n m leaf low =
    let all : m + (n - m) ≡ n = omega arith in
    rw all (opening-topmost n m leaf low)

-- ---- a file
module _ (edition : ℕ) (statement root : List ℕ) (n m : ℕ) where
  pub no-opening : tree_blocks n ≡ seal_blocks edition statement root n m 0
  unfolding file_nodes blocks_sum
  no-opening = omega arith

  pub opening-more :
      (i blocks more : ℕ) → blocks ≡ seal_blocks edition statement root n m i
      → more ≡ opening_blocks n m (challenge_leaf edition n statement root (i + 1)) → blocks + more ≡ seal_blocks edition statement root n m (i + 1)
  unfolding file_nodes
  opening-more i blocks more e f = rw (e, f, add-one i, sum-append) (omega arith)

  -- what a challenge picks can be opened
  pub challenge-possible :
      (i leaf : ℕ) → IsDepth n → IsMemory n m → leaf ≡ challenge_leaf edition n statement root i → Possible n m leaf
  challenge-possible i leaf depth memory e =
      record {
        some = depth.0;
        deep = depth.1;
        above = omega (arith, memory);
        kept = omega (arith, memory);
        inside = rw e (challenge_leaf-small edition n statement root i (omega (arith, depth.1)));
      }
