-- The head and the first openings: their sizes, and how one more follows.
use mathlib.Core.Path.{◌≡◌, refl, sym}
use Prim.Native.Nat.{ℕ, ◌+◌, ◌-◌, ◌^◌, ◌≤◌, ◌<◌}
use native.Mathlib.Nat.{add-mul, zero-mul, mul-le-mul_right}
use native.Mathlib.Numerals.{add-one}
use native.Mathlib.Omega.{arith}
use mathlib.Core.List.{List, ◌++◌, append_assoc, append-nil}
use lib.ListN.{length, take, drop, length-append, length-drop, take-append-drop}
use lib.Seq.{take_at, length-take-le, drop-drop}
use Rattle.base.specs.Limits.{max_depth, IsEdition, IsDepth, IsCount}
use Rattle.base.specs.Bytes.{joined, written}
use Rattle.tree.specs.Nodes.{root}
use Rattle.tree.specs.Openings.{opening_size}
use Rattle.file_head.specs.Layout.{head, head_size, opening_from, file_size, file}
use Rattle.proof_file.specs.FileCheck.{file_check}
use Rattle.run_theory.proofs.Step.{label-size}
use Rattle.check_theory.specs.TreeFile.{root_of, challenged_opening, tree_openings, tree_file}
use Rattle.file_head.proofs.Leaves.{challenge_leaf-small}
use Rattle.check_theory.proofs.Reading.{length-head}
use Rattle.check_theory.proofs.TreeFile.{openings-grow, openings-length, length-tree_file, tree-accepted}
use Rattle.writing_theory.specs.Filed.{laid, laid_size, leaf_after}

module _ (n t : ℕ) where
  pub size-next : (q : ℕ) → laid_size n t (q + 1) ≡ laid_size n t q + opening_size n
  unfolding laid_size
  size-next q = rw (add-mul q 1 (opening_size n)) (omega arith)

  pub size-all : laid_size n t t ≡ file_size n t
  unfolding laid_size file_size
  size-all = refl

  pub size_fits : (q : ℕ) → q < t → laid_size n t (q + 1) ≤ file_size n t
  unfolding laid_size file_size
  size_fits q few = omega (arith, mul-le-mul_right {m = q + 1} {n = t} (opening_size n) (omega arith))

  -- opening q + 1 begins behind them
  pub size-from : (q : ℕ) → opening_from n (head_size n t) (q + 1) ≡ laid_size n t q
  unfolding laid_size
  size-from q = let e : q + 1 - 1 ≡ q = omega arith in rw e

-- opening q + 1's part of a file, and what lies behind it
module _ (n t : ℕ) (bytes : List ℕ) (q : ℕ) where
  pub part-size : q < t → file_size n t ≤ length bytes → length (take (opening_size n) (drop (laid_size n t q) bytes)) ≡ opening_size n
  part-size few fits =
      length-take-le (opening_size n) (drop (laid_size n t q) bytes)
      (rw length-drop (omega (arith, size-next n t q, size_fits n t q few)))

  pub part-split :
      drop (laid_size n t q) bytes ≡ take (opening_size n) (drop (laid_size n t q) bytes) ++ drop (laid_size n t (q + 1)) bytes
  part-split =
      rw (size-next n t q, ← drop-drop (opening_size n) (laid_size n t q) bytes)
      (sym (take-append-drop (opening_size n) (drop (laid_size n t q) bytes)))

-- its leaf
pub leaf-inside : (edition : ℕ) (statement : List ℕ) (n q : ℕ) → n ≤ max_depth → leaf_after edition statement n q < 2 ^ n
leaf-inside edition statement n q shallow = challenge_leaf-small edition n statement (root_of edition statement n) (q + 1) (omega arith)

module _ (edition : ℕ) (statement : List ℕ) (n t : ℕ) where
  head-size : edition < 128 → length statement ≡ 32 → length (head edition statement (root_of edition statement n) n t) ≡ head_size n t
  head-size small size = length-head edition statement (root_of edition statement n) n t size (label-size edition statement n root) small

  pub laid-length : (q : ℕ) → edition < 128 → length statement ≡ 32 → length (laid edition statement n t q) ≡ laid_size n t q
  unfolding laid laid_size
  laid-length q small size = rw (length-append, head-size small size, openings-length edition statement n q)

  pub laid_next :
      (q : ℕ) → laid edition statement n t q ++ challenged_opening edition statement n (q + 1) ≡ laid edition statement n t (q + 1)
  unfolding laid
  laid_next q = rw (append_assoc, add-one q, openings-grow edition statement n q)

  pub laid-all : laid edition statement n t t ≡ tree_file edition statement n t
  unfolding laid tree_file file
  laid-all = refl

  -- a file with its head written
  pub laid-head :
      (bytes : List ℕ) → edition < 128 → length statement ≡ 32
      → written bytes 0 (head edition statement (root_of edition statement n) n t)
      ≡ laid edition statement n t 0 ++ drop (laid_size n t 0) bytes
  unfolding written laid laid_size tree_openings joined
  laid-head bytes small size =
      let e : 0 + head_size n t ≡ laid_size n t 0 = omega (arith, zero-mul (opening_size n)) in
      rw (append-nil, head-size small size, e)

-- the tree's file of an edition that exists is accepted, whatever lies behind it
pub front-accepted :
    (edition : ℕ) (statement : List ℕ) (n t : ℕ) (rest : List ℕ) → IsEdition edition → length statement ≡ 32 → IsDepth n → IsCount t
    → file_check (take (file_size n t) (tree_file edition statement n t ++ rest)) statement n t ≡ 0
front-accepted edition statement n t rest exists size depth count =
    rw (take_at (tree_file edition statement n t) rest (file_size n t) (length-tree_file edition statement n t (omega arith) size))
    (tree-accepted edition statement n t exists size depth count)
