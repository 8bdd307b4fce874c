-- The planning row: its checks of depth and leaves, then the list.
use mathlib.Core.Path.{◌≡◌, refl, sym, ◌∙◌}
use Prim.Native.Nat.{ℕ, ◌≤◌, ◌<◌}
use native.Mathlib.Omega.{arith}
use mathlib.Core.Bool.{Bool, true, false, ◌&&◌}
use mathlib.Core.List.{List, [], ◌∷◌, ◌++◌}
use lib.Dec.{ltb}
use lib.ListN.{length}
use borrow.Author.Tests.{lt-ltb, le-ltb, not-false}
use Rattle.base.specs.Choice.{pick, both, every}
use Rattle.std.specs.List.{list_all}
use Rattle.base.specs.Bytes.{written}
use Rattle.base.specs.Limits.{max_depth, max_challenges}
use Rattle.base.specs.declared.refusal.Refusal.{Refusal}
use Rattle.base.specs.declared.refusal.Refusal.TheVariants.{ShortList}
use Rattle.base.specs.Number.{number_of}
use Rattle.base.specs.Row.{outside}
use Rattle.base.proofs.Ranges.{range-of}
use Rattle.base.proofs.RowLaws.{NoneHolds, none-holds, row-refused, row-passed, not_done}
use Rattle.chain_theory.specs.Ways.{chain}
use Rattle.chain_theory.specs.Planning.{is_leaf, sorted, plan_from, plan}
use Rattle.chain_theory.proofs.Sorting.{every-sorted, length-sorted}
use Rattle.chain_theory.proofs.Plan.{plan-chain}
use Rattle.chain_theory.proofs.Bound.{leaves_opened-le, plan-length}
use Rattle.chain.specs.PlanRow.{plan_row, planned_count, planned_list}
use Rattle.chain.specs.Leaves.{Leaves, leaves_checks, leaves_row}

-- each exit of the first three checks
module _ (least n : ℕ) (leaves : List ℕ) where
  pub row-depth : outside 1 max_depth n ≡ true → 1 ≡ leaves_row least n leaves
  unfolding leaves_row
  row-depth a = rw a

  pub row_count : outside 1 max_depth n ≡ false → outside least max_challenges (length leaves) ≡ true → 8 ≡ leaves_row least n leaves
  unfolding leaves_row
  row_count a b = rw (a, b)

  pub row-leaf : outside 1 max_depth n ≡ false → outside least max_challenges (length leaves) ≡ false → every (is_leaf n) leaves ≡ false
      → 6 ≡ leaves_row least n leaves
  unfolding leaves_row
  row-leaf a b d = rw (a, b, d)

  pub row_done : outside 1 max_depth n ≡ false → outside least max_challenges (length leaves) ≡ false → every (is_leaf n) leaves ≡ true
      → 0 ≡ leaves_row least n leaves
  unfolding leaves_row
  row_done a b d = rw (a, b, d)

pub passed : (least n : ℕ) (leaves : List ℕ) → leaves_row least n leaves ≡ 0 → NoneHolds (leaves_checks least n leaves)
unfolding leaves_row
passed least n leaves done = none-holds (leaves_checks least n leaves) refl done

pub plan-passed :
    (n : ℕ) (leaves : List ℕ) (list : ℕ) → plan_row n leaves list ≡ 0
    → NoneHolds (leaves_checks 0 n leaves ++ (ltb list (length (chain n leaves)), 16) ∷ [])
unfolding plan_row
plan-passed n leaves list done = none-holds (leaves_checks 0 n leaves ++ (ltb list (length (chain n leaves)), 16) ∷ []) refl done

-- what planning goes on from
module _ (n : ℕ) (leaves : List ℕ) (done : leaves_row 0 n leaves ≡ 0) where
  checked : NoneHolds (leaves_checks 0 n leaves)
  checked = passed 0 n leaves done

  pub leaves-known : Leaves n leaves
  leaves-known =
      record {
        depth = (range-of 1 max_depth n checked.0).1;
        few = (range-of 0 max_challenges (length leaves) checked.1.0).1;
        inside = not-false _ checked.1.1.0;
      }

  -- the list is the last check
  pub list-check : (list : ℕ) → plan_row n leaves list ≡ pick (ltb list (length (chain n leaves))) 16 0
  unfolding plan_row
  list-check list = row-passed (leaves_checks 0 n leaves) ((ltb list (length (chain n leaves)), 16) ∷ []) checked

  pub sorted-known : (xs : List ℕ) → xs ≡ sorted leaves → Leaves n xs
  sorted-known xs e =
      rw e
      (record {
        depth = leaves-known.depth;
        few = omega (arith, leaves-known.few, length-sorted leaves, leaves_opened-le leaves);
        inside = every-sorted (is_leaf n) leaves ∙ leaves-known.inside;
      })

-- what planning answers, and the list afterwards
abbrev pub Answers : ℕ → List ℕ → List ℕ → ℕ → ℕ → List ℕ → Type 0
Answers n leaves list number count after =
    (number ≡ plan_row n leaves (length list)) × ((count ≡ planned_count n leaves (length list)) × (after ≡ planned_list n leaves list))

refused : (n : ℕ) (leaves list : List ℕ) (r : Refusal) → number_of r ≡ plan_row n leaves (length list) → Answers n leaves list (number_of r) 0 list
unfolding planned_count planned_list
refused n leaves list r e = let no = not_done r (plan_row n leaves (length list)) e in (e, (rw no, rw no))

pub leaves-refused : (n : ℕ) (leaves list : List ℕ) (r : Refusal) → number_of r ≡ leaves_row 0 n leaves → Answers n leaves list (number_of r) 0 list
unfolding plan_row leaves_row
leaves-refused n leaves list r e =
    refused n leaves list r
    (e ∙ sym (row-refused (leaves_checks 0 n leaves) ((ltb (length list) (length (chain n leaves)), 16) ∷ []) (not_done r (leaves_row 0 n leaves) e)))

module _ (n : ℕ) (leaves xs list : List ℕ) (count : ℕ) (done : leaves_row 0 n leaves ≡ 0) (e : xs ≡ sorted leaves)
    (k : count ≡ length (plan_from n xs)) where
  chain-count : count ≡ length (chain n leaves)
  unfolding plan
  chain-count = k ∙ rw e (plan-length n leaves (leaves-known n leaves done).inside)

  pub list-refused : length list < count → Answers n leaves list 16 0 list
  list-refused h =
      refused n leaves list ShortList
      (sym (list-check n leaves done (length list) ∙ rw (lt-ltb (length list) (length (chain n leaves)) (omega (arith, chain-count)))))

  pub list_done : (after : List ℕ) → count ≤ length list → after ≡ written list 0 (plan_from n xs) → Answers n leaves list 0 count after
  unfolding planned_count planned_list plan
  list_done after h f =
      let r : plan_row n leaves (length list) ≡ 0 =
      list-check n leaves done (length list) ∙ rw (le-ltb (length list) (length (chain n leaves)) (omega (arith, chain-count))) in
      (sym r, (rw r chain-count, rw r (f ∙ rw (e, plan-chain n leaves (leaves-known n leaves done).inside))))

-- std's test of all elements is the definition's
pub every_all : (t : ℕ → Bool) (xs : List ℕ) → list_all t xs ≡ every t xs
unfolding every
every_all t [] = refl
every_all t (x ∷ xs) = go (t x) (every_all t xs)
  where
    go : (b : Bool) → list_all t xs ≡ every t xs → (b && list_all t xs) ≡ both b (every t xs)
    go true e = e
    go false e = refl
