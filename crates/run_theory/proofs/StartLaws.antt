-- Document 01's rows of a run: a start is done just when its numbers are in their bounds, and then each call of a run of an edition that exists is.
use mathlib.Core.Path.{◌≡◌, refl, ap}
use Prim.Native.Nat.{ℕ, ◌≤◌, min}
use native.Mathlib.Omega.{arith}
use mathlib.Core.List.{List}
use lib.Dec.{leb, lit≤}
use borrow.Author.Tests.{leb-true, le-leb, ltb-false, le-ltb, not-false}
use Rattle.base.specs.Limits.{max_edition, new_edition, IsEdition, max_depth, max_memory}
use Rattle.base.specs.Choice.{pick}
use Rattle.base.proofs.ChoiceLaws.{both_first, both-second}
use Rattle.base.specs.Row.{is_done}
use Rattle.base.proofs.Ranges.{within}
use Rattle.base.proofs.RowLaws.{none-holds, NoneHolds}
use Rattle.tree.specs.Walk.{nodes_in}
use Rattle.tree.specs.Store.{store_size}
use Rattle.run.specs.Rows.{start_checks, start_row, continue_row}
use Rattle.run.specs.Steps.{new_run, no_run, started}
use Rattle.run_theory.specs.Reached.{run_after}
use Rattle.run_theory.specs.Runs.{Startable, LevelsFit}

pub new-exists : IsEdition new_edition
new-exists = (lit≤ tt, lit≤ tt)

-- a start gives a run of the new edition
pub started-done : (n m size : ℕ) (statement : List ℕ) → start_row n m size ≡ 0 → started statement n m size ≡ new_run new_edition statement n m
unfolding started
started-done n m size statement e = ap (λ o. pick (is_done o) (new_run new_edition statement n m) no_run) e

module _ (edition n m size : ℕ) where
  pub start-done : Startable edition n m size → start_row n m size ≡ 0
  unfolding start_row
  start-done s =
      rw
      (le-leb 1 n s.positive, le-leb n max_depth s.shallow, le-ltb (min n max_memory) m s.memory, le-ltb size (store_size m) s.enough)

  pub start-bounds : IsEdition edition → start_row n m size ≡ 0 → Startable edition n m size
  unfolding start_row
  start-bounds exists e =
      let none : NoneHolds (start_checks n m size) = none-holds (start_checks n m size) refl e in
      record {
        exists = exists;
        positive = leb-true 1 n (both_first (leb 1 n) (leb n max_depth) (not-false _ none.0));
        shallow = leb-true n max_depth (both-second (leb 1 n) (leb n max_depth) (not-false _ none.0));
        memory = ltb-false (min n max_memory) m none.1.0;
        enough = ltb-false size (store_size m) none.1.1.0;
      }

  pub levels-fit : Startable edition n m size → LevelsFit n m size
  levels-fit s = record { shallow = s.shallow; below = omega (arith, s.memory); enough = s.enough }

  pub continue-done :
      (statement : List ℕ) (k : ℕ) → Startable edition n m size → k ≤ nodes_in n
      → continue_row (run_after edition statement n m k) size ≡ 0
  unfolding continue_row
  continue-done statement k s small =
      rw (
        within 1 max_edition edition s.exists,
        le-leb 1 n s.positive,
        le-leb n max_depth s.shallow,
        le-ltb (min n max_memory) m s.memory,
        le-ltb (nodes_in n) k small,
        le-ltb size (store_size m) s.enough,
      )
