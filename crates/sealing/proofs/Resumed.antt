-- A seal goes on from what it left on the disk.
use mathlib.Core.Path.{◌≡◌, refl, sym, ◌∙◌}
use mathlib.Core.Bool.{Bool, true, false}
use mathlib.Core.List.{List, ◌++◌, append_assoc}
use mathlib.Core.Logic.{⊎_elim}
use Prim.Native.Nat.{ℕ, zero, suc, ◌+◌, ◌*◌, ◌≤◌, ◌<◌}
use native.Mathlib.Nat.{mul-le-mul_right}
use native.Mathlib.Omega.{arith}
use borrow.Author.Tests.{lt-leb, eqb-false}
use lib.Dec.{eqb}
use lib.ListN.{length, take, drop}
use lib.Seq.{take_at}
use Rattle.base.specs.Bytes.{joined, written}
use Rattle.base.specs.Choice.{pick}
use Rattle.base.specs.Limits.{max_depth, max_challenges}
use Rattle.base.specs.Row.{outside, either}
use Rattle.base.proofs.Copying.{length-written}
use Rattle.base.proofs.WrittenLaws.{drop-written, written-here}
use Rattle.tree.specs.Openings.{opening_size}
use Rattle.tree.specs.Walk.{nodes_in}
use Rattle.run.specs.declared.Run.{Run}
use Rattle.run.specs.Rows.{continue_row}
use Rattle.file_head.specs.Layout.{head_size, file_size}
use Rattle.check_theory.specs.TreeFile.{root_of, tree_openings, tree_file}
use Rattle.check_theory.proofs.TreeFile.{openings-length}
use Rattle.checkpoint.specs.Layout.{checkpoint_of}
use Rattle.checkpoint.specs.Openings.{right_after, openings_taken}
use Rattle.checkpoint.specs.Reading.{size_found}
use Rattle.checkpoint_theory.specs.Back.{Back}
use Rattle.checkpoint_theory.proofs.Openings.{openings-back}
use Rattle.checkpoint_theory.proofs.Resuming.{way-continuable, resumed-on-the-way}
use Rattle.sealing.specs.Front.{Front, Seals}
use Rattle.sealing.specs.Resumed.{Left, Resumable}
use Rattle.sealing.specs.TakenUp.{openings_done, file_taken}

-- no opening is taken of bytes that are shorter than one
module _ (edition : ℕ) (statement root : List ℕ) (n : ℕ) (cut : List ℕ) (short : length cut < opening_size n) where
  none_right : (t : ℕ) → right_after edition statement root n cut 0 t ≡ 0
  unfolding right_after
  none_right zero = refl
  none_right (suc t) = rw (lt-leb ((0 + 1) * opening_size n) (length cut) (omega arith))

  none-by : (t : ℕ) (b : Bool) → pick b 0 (right_after edition statement root n cut 0 t) ≡ 0
  none-by t true = refl
  none-by t false = none_right t

  none-taken : (t : ℕ) → openings_taken edition statement root n t cut ≡ 0
  unfolding openings_taken
  none-taken t = none-by t (either (outside 1 max_depth n) (outside 1 max_challenges t))

module _ (run : Run) (store : List ℕ) (t q : ℕ) (bytes : List ℕ) (left : Left run store t q bytes) where
  abbrev openings : List ℕ
  openings = joined (tree_openings run.edition run.statement run.depth q)

  back : Back bytes run t store (length (checkpoint_of run t store)) (openings ++ left.cut)
  back =
      rw (left.disk ∙ append_assoc (checkpoint_of run t store) openings left.cut)
      (resumed-on-the-way run store left.way t left.count (openings ++ left.cut))

  taken : openings_taken run.edition run.statement (take 32 run.held) run.depth t (openings ++ left.cut) ≡ q
  unfolding tree_openings joined
  taken =
      ⊎_elim
      (λ (none : q ≡ 0). rw none (none-taken run.edition run.statement (take 32 run.held) run.depth left.cut left.short t))
      (λ (all : run.made ≡ nodes_in run.depth).
      openings-back run store left.way all t q left.count left.few left.cut left.short)
      left.labels_first

  by-labels : (b : Bool) → eqb run.made (nodes_in run.depth) ≡ b
      → pick b (openings_taken run.edition run.statement (take 32 run.held) run.depth t (openings ++ left.cut)) 0 ≡ q
  by-labels true e = taken
  by-labels false e = ⊎_elim (λ (none : q ≡ 0). sym none) (λ all. absurd (eqb-false run.made (nodes_in run.depth) e all)) left.labels_first

  found : openings_done bytes ≡ q
  unfolding openings_done
  found = rw (back.is_whole, back.run_back, back.count_back, back.more_back) (by-labels (eqb run.made (nodes_in run.depth)) refl)

  their-bytes : take (q * opening_size run.depth) (drop (size_found bytes) bytes) ≡ openings
  their-bytes =
      rw back.more_back (take_at openings left.cut (q * opening_size run.depth) (openings-length run.edition run.statement run.depth q))

  -- any file that is long enough has room for them
  module _ (file : List ℕ) (fits : file_size run.depth t ≤ length file) where
    abbrev at : ℕ
    at = head_size run.depth t

    inside : (at + length openings ≤ file_size run.depth t) × (at + length openings ≤ length file)
    unfolding file_size
    inside =
        let size : length openings ≡ q * opening_size run.depth = openings-length run.edition run.statement run.depth q in
        let few : q * opening_size run.depth ≤ t * opening_size run.depth =
        mul-le-mul_right {m = q} {n = t} (opening_size run.depth) left.few in
        (omega arith, omega arith)

    put-there : file_taken bytes file ≡ written file at openings
    unfolding file_taken
    put-there = rw (back.is_whole, found, back.run_back, back.count_back, their-bytes)

    still-fits : file_size run.depth t ≤ length (written file at openings)
    still-fits = rw (length-written file at openings inside.1) fits

    front-there : Front run t q (written file at openings)
    front-there =
        written-here file openings at inside.1 (q * opening_size run.depth) (openings-length run.edition run.statement run.depth q)

    tree-sealed : (root sealed_file : List ℕ) → Seals run store t q (written file at openings) root sealed_file
        → (root ≡ root_of run.edition run.statement run.depth)
        × (sealed_file ≡ tree_file run.edition run.statement run.depth t ++ drop (file_size run.depth t) file)
    tree-sealed root sealed_file gives =
        let (is-root, is-file) = gives left.way front-there in (
          is-root,
          is-file ∙ rw (drop-written file openings at (file_size run.depth t) inside.1 inside.0),
        )

  pub left-resumable : Resumable run store t q bytes
  left-resumable =
      let goes : continue_row run (length store) ≡ 0 = (way-continuable run store left.way).goes in
      record {
        whole = back.is_whole;
        same_run = back.run_back;
        same_store = back.store_back;
        same_count = back.count_back;
        same_openings = omega (arith, found);
        asked =
            λ file fits.
            rw (put-there file fits, found, back.run_back, back.store_back, back.count_back)
            (goes, left.count, left.few, still-fits file fits);
        on_the_way = rw (back.run_back, back.store_back) left.way;
        front = λ file fits. rw (put-there file fits, found, back.run_back, back.count_back) (front-there file fits);
        tree_sealed =
            λ file root sealed_file fits gives.
            tree-sealed file fits root sealed_file
            (rw (put-there file fits, found, back.run_back, back.store_back, back.count_back) at gives);
      }
