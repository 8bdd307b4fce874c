-- One turn of the loop over the levels, by the table.
use mathlib.Core.Path.{◌≡◌, sym, ap, ◌∙◌}
use mathlib.Core.Bool.{Bool, true, false, not}
use mathlib.Core.List.{List}
use Prim.Native.Nat.{ℕ, ◌+◌, ◌-◌, ◌<◌}
use native.Mathlib.Omega.{arith}
use borrow.Author.Tests.{lt-ltb}
use lib.Dec.{ltb, eqb}
use lib.Pointwise.{pointwise}
use Rattle.base.proofs.ListsLaws.{same_by-pointwise}
use Rattle.base.specs.Lists.{same_bytes}
use Rattle.base.proofs.ChoiceLaws.{both_false}
use Rattle.tree.specs.Disagreement.{shared}
use Rattle.tree.proofs.Clash.{unshared-below}
use Rattle.std.specs.Prelude.{None}
use Rattle.compare.specs.FirstPair.{disagree_at_level, levels_from}
use Rattle.compare.specs.Table.{leaf_of}
use Rattle.compare.specs.Table.{cell, table_disagreement}
use Rattle.compare.proofs.FirstPairLaws.{level-found, level-passed, levels-none}

-- the test and the cells are those that the code has at hand
module _ (n : ℕ) (leaves table : List ℕ) (i j l : ℕ) (h : l < n) (t : Bool) (et : t ≡ shared n (leaf_of leaves i) (leaf_of leaves j) l) where
  pub turn-unshared : t ≡ false → levels_from (table_disagreement n leaves table) i j l (n - l) ≡ None
  unfolding table_disagreement
  turn-unshared e =
      levels-none (table_disagreement n leaves table) i j l (n - l)
      (λ k a b.
      rw (unshared-below n (leaf_of leaves i) (leaf_of leaves j) k l a (omega arith) (sym et ∙ e), both_false (ltb k n)))

  module _ (e : t ≡ true) (a b : List ℕ) (ea : a ≡ cell n table i l) (eb : b ≡ cell n table j l) (differ : Bool)
      (ed : differ ≡ not (pointwise eqb a b)) where
    cells-differ : differ ≡ not (same_bytes (cell n table i l) (cell n table j l))
    cells-differ = ed ∙ ap not (same_by-pointwise eqb a b) ∙ (λ k. not (same_bytes (ea k) (eb k)))

    pub turn-differs : differ ≡ true → levels_from (table_disagreement n leaves table) i j l (n - l) ≡ disagree_at_level i j l
    unfolding table_disagreement
    turn-differs d = level-found (table_disagreement n leaves table) i j n l h (rw (lt-ltb l n h, ← et, e) (sym cells-differ ∙ d))

    pub turn-same : differ ≡ false
        → levels_from (table_disagreement n leaves table) i j l (n - l) ≡ levels_from (table_disagreement n leaves table) i j (l + 1) (n - (l + 1))
    unfolding table_disagreement
    turn-same d = level-passed (table_disagreement n leaves table) i j n l h (rw (lt-ltb l n h, ← et, e) (sym cells-differ ∙ d))
