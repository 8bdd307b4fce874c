-- Document 01's row 'One opening checked' is done just when none of its conditions holds.
use mathlib.Core.Path.{◌≡◌, refl}
use Prim.Native.Nat.{ℕ, ◌^◌, ◌≤◌}
use native.Mathlib.Omega.{arith}
use mathlib.Core.Bool.{Bool, false, not}
use mathlib.Core.List.{List, [], ◌∷◌}
use lib.Dec.{ltb, leb}
use lib.ListN.{length}
use borrow.Author.Tests.{leb-false, lt-leb, ltb-false, le-ltb, not-false}
use Rattle.base.specs.Lists.{same_bytes}
use Rattle.base.specs.Limits.{max_edition, max_depth}
use Rattle.base.proofs.ListsLaws.{test-same, tells-bytes}
use Rattle.base.proofs.RowLaws.{NoneHolds, none-holds}
use Rattle.base.proofs.Ranges.{within, range-of}
use Rattle.base.specs.Row.{outside, no_edition}
use Rattle.tree.specs.Openings.{LeafRight, RootRight, opening_size}
use Rattle.labelling.specs.Rule.{stamp_rule}
use Rattle.opening_check.specs.OpeningCheck.{given_by, leaf_wrong, root_wrong, right_row, opening_row}
use Rattle.check_theory.specs.IsProof.{OpeningRight, RightAlone}

-- a test that two lists are not the same
module _ (x y : List ℕ) where
  same-passes : x ≡ y → not (same_bytes x y) ≡ false
  same-passes e = rw (test-same tells-bytes x y e)

  passes_same : not (same_bytes x y) ≡ false → x ≡ y
  passes_same e = tells-bytes.equal x y (not-false (same_bytes x y) e)

module _ (edition : ℕ) (statement : List ℕ) (n leaf : ℕ) (root bytes : List ℕ) where
  leaf-passes : LeafRight (stamp_rule edition n statement) n leaf (given_by bytes) → leaf_wrong (stamp_rule edition n statement) n leaf bytes ≡ false
  leaf-passes = same-passes _ _

  root-passes :
      RootRight (stamp_rule edition n statement) n leaf (given_by bytes) root
      → root_wrong (stamp_rule edition n statement) n leaf bytes root ≡ false
  root-passes = same-passes _ _

  passes-right :
      leaf_wrong (stamp_rule edition n statement) n leaf bytes ≡ false → root_wrong (stamp_rule edition n statement) n leaf bytes root ≡ false
      → OpeningRight edition statement n leaf root bytes
  passes-right a b = record { leaf_right = passes_same _ _ a; root_right = passes_same _ _ b }

  pub right-done : OpeningRight edition statement n leaf root bytes → right_row edition statement n leaf root bytes ≡ 0
  unfolding right_row
  right-done right = rw (leaf-passes right.leaf_right, root-passes right.root_right)

  pub done-right : right_row edition statement n leaf root bytes ≡ 0 → OpeningRight edition statement n leaf root bytes
  unfolding right_row
  done-right e =
      let row : List (Bool × ℕ) =
      (leaf_wrong (stamp_rule edition n statement) n leaf bytes, 14) ∷ (root_wrong (stamp_rule edition n statement) n leaf bytes root, 15) ∷ [] in
      let none : NoneHolds row = none-holds row refl e in
      passes-right none.0 none.1.0

  pub opening-done : RightAlone edition statement n leaf root bytes → opening_row edition statement n leaf root bytes ≡ 0
  unfolding opening_row
  opening-done alone =
      rw (
        within 1 max_edition edition alone.exists,
        within 1 max_depth n alone.depth,
        lt-leb (2 ^ n) leaf alone.position,
        le-ltb (length bytes) (opening_size n) (omega (arith, alone.size)),
        le-ltb (opening_size n) (length bytes) (omega (arith, alone.size)),
        leaf-passes alone.right.leaf_right,
        root-passes alone.right.root_right,
      )

  pub done-opening : opening_row edition statement n leaf root bytes ≡ 0 → RightAlone edition statement n leaf root bytes
  unfolding opening_row
  done-opening e =
      let row : List (Bool × ℕ) =
      (no_edition edition, 12)
      ∷ (outside 1 max_depth n, 1)
      ∷ (leb (2 ^ n) leaf, 6)
      ∷ (ltb (length bytes) (opening_size n), 10)
      ∷ (ltb (opening_size n) (length bytes), 13)
      ∷ (leaf_wrong (stamp_rule edition n statement) n leaf bytes, 14)
      ∷ (root_wrong (stamp_rule edition n statement) n leaf bytes root, 15)
      ∷ [] in
      let none : NoneHolds row = none-holds row refl e in
      let enough : opening_size n ≤ length bytes = ltb-false (length bytes) (opening_size n) none.1.1.1.0 in
      let no_more : length bytes ≤ opening_size n = ltb-false (opening_size n) (length bytes) none.1.1.1.1.0 in
      record {
        exists = range-of 1 max_edition edition none.0;
        depth = range-of 1 max_depth n none.1.0;
        position = leb-false (2 ^ n) leaf none.1.1.0;
        size = omega arith;
        right = passes-right none.1.1.1.1.1.0 none.1.1.1.1.1.1.0;
      }
