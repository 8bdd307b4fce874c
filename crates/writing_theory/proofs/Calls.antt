-- Any cut of budgets carries a file to its end, and it is then the tree's at every memory level.
use mathlib.Core.Path.{◌≡◌, sym, ap, ◌∙◌}
use Prim.Native.Nat.{ℕ, ◌+◌, ◌-◌, ◌*◌, ◌≤◌, ◌<◌, min}
use native.Mathlib.Omega.{arith}
use mathlib.Core.List.{List, ◌++◌}
use lib.ListN.{length, take, drop, length-append, length-drop}
use Rattle.tree.specs.Openings.{opening_size}
use Rattle.opening.specs.Rows.{nodes_anew}
use Rattle.machine.specs.Machines.{Goes}
use Rattle.machine.specs.Calls.{total, after_calls}
use Rattle.machine.proofs.CallLaws.{done-after, progress, advanced-after, calls-end}
use Rattle.file_head.specs.Layout.{file_size}
use Rattle.proof_file.specs.FileCheck.{file_check}
use Rattle.run_theory.specs.Openings.{HoldsLabels}
use Rattle.run_theory.proofs.OpeningRun.{length-after}
use Rattle.check_theory.specs.TreeFile.{tree_file}
use Rattle.writing.specs.Rows.{rewrite_row}
use Rattle.writing.specs.Steps.{remaining, writing_machine, steps, labels_in, advanced}
use Rattle.writing_theory.specs.Filed.{Writable, new_file, labels_anew, laid_size, under_way, leaf_after, openings_done, written_at, written_after}
use Rattle.writing_theory.proofs.Laid.{size-next, size_fits, part-size, leaf-inside, laid-length, front-accepted}
use Rattle.writing_theory.proofs.Filing.{stays_at, reached-at, file-written}
use Rattle.writing_theory.proofs.Rows.{rewrite-done}
use Rattle.writing_theory.proofs.Places.{Place, place_found, behind-place}

module _
    (edition : ℕ) (statement : List ℕ) (n m t : ℕ) (store file : List ℕ) (size : length statement ≡ 32)
    (holds : HoldsLabels edition statement n m store) (fits : Writable edition n m t (length store) (length file)) where
  -- ---- the state after k labels
  place : (k : ℕ) → k ≤ labels_anew n m t → Place n m t k (openings_done n m t k)
  place = place_found n m t fits.count.0

  pub file-reached :
      (k : ℕ) → k ≤ labels_anew n m t
      → steps store k (new_file edition statement n m t store file) ≡ written_after edition statement n m t file k
  unfolding written_after
  file-reached k small =
      let q : ℕ = openings_done n m t k in
      let at : Place n m t k q = place k small in
      let whole : q * nodes_anew n m + (k - q * nodes_anew n m) ≡ k = omega (arith, at.begun) in
      ap (λ (j : ℕ). steps store j (new_file edition statement n m t store file)) (sym whole)
      ∙ reached-at edition statement n m t store file size holds fits q (k - q * nodes_anew n m) at.inside at.under

  -- ---- at a place
  module _ (q r : ℕ) (few : q < t) (under : r ≤ nodes_anew n m) where
    length_at : length (written_at edition statement n m t file q r).file ≡ length file
    unfolding written_at under_way
    length_at =
        let b : List ℕ = take (opening_size n) (drop (laid_size n t q) file) in
        let part : length b ≡ opening_size n = part-size n t file q few fits.file_fits in
        rw (
          length-append,
          laid-length edition statement n t q (omega arith) size,
          length-append,
          length-after edition statement n m (leaf_after edition statement n q) b fits.depth.0 (omega arith) (omega arith) r under,
          part,
          length-drop,
        )
        (omega (arith, size-next n t q, size_fits n t q few))

    goes-on-at :
        r < nodes_anew n m + (q + 2 - t)
        → rewrite_row (written_at edition statement n m t file q r).writing (length store)
        (length (written_at edition statement n m t file q r).file) ≡ 0
    unfolding written_at under_way
    goes-on-at small =
        rw length_at
        (rewrite-done (written_at edition statement n m t file q r).writing (length store) (length file) fits under
        (leaf-inside edition statement n q fits.depth.1) (omega arith) (stays_at edition statement n m t store file size holds fits q r small))

    remaining-at : remaining (written_at edition statement n m t file q r).writing ≡ labels_anew n m t - (q * nodes_anew n m + r)
    unfolding written_at under_way
    remaining-at = behind-place t q r (nodes_anew n m) few under

  -- ---- no call is refused, and each makes the smaller of its budget and what remains
  at_place : (k : ℕ) → k ≤ labels_anew n m t → (k - openings_done n m t k * nodes_anew n m ≤ nodes_anew n m)
  at_place k small = let at : Place n m t k (openings_done n m t k) = place k small in omega (arith, at.inside, at.under)

  pub file-length : (k : ℕ) → k ≤ labels_anew n m t → length (steps store k (new_file edition statement n m t store file)).file ≡ length file
  unfolding written_after
  file-length k small = rw (file-reached k small) (length_at _ _ (place k small).inside (at_place k small))

  pub file-goes-on :
      (k : ℕ) → k ≤ labels_anew n m t
      → rewrite_row (steps store k (new_file edition statement n m t store file)).writing (length store)
      (length (steps store k (new_file edition statement n m t store file)).file)
      ≡ 0
  unfolding written_after
  file-goes-on k small = rw (file-reached k small) (goes-on-at _ _ (place k small).inside (at_place k small) (place k small).under)

  pub file-remaining :
      (k : ℕ) → k ≤ labels_anew n m t
      → remaining (steps store k (new_file edition statement n m t store file)).writing ≡ labels_anew n m t - k
  unfolding written_after
  file-remaining k small =
      let q : ℕ = openings_done n m t k in
      let whole : q * nodes_anew n m + (k - q * nodes_anew n m) ≡ k = omega (arith, (place k small).begun) in
      rw (file-reached k small)
      (remaining-at q (k - q * nodes_anew n m) (place k small).inside (at_place k small) ∙ ap (λ (j : ℕ). labels_anew n m t - j) whole)

  -- the laws of calls hold of it
  pub file-goes : Goes (writing_machine store) (new_file edition statement n m t store file) (labels_anew n m t)
  unfolding writing_machine
  file-goes = record { done = file-goes-on; left = file-remaining }

  pub file-labels :
      (k b : ℕ) → k ≤ labels_anew n m t
      → labels_in store (steps store k (new_file edition statement n m t store file)) b ≡ min b (labels_anew n m t - k)
  file-labels = done-after (writing_machine store) (new_file edition statement n m t store file) (labels_anew n m t) file-goes

  pub file-moves-on :
      (k b : ℕ) → k < labels_anew n m t → 1 ≤ b → 1 ≤ labels_in store (steps store k (new_file edition statement n m t store file)) b
  file-moves-on = progress (writing_machine store) (new_file edition statement n m t store file) (labels_anew n m t) file-goes

  pub file-advanced :
      (k b : ℕ) → k ≤ labels_anew n m t
      → advanced store (steps store k (new_file edition statement n m t store file)) b
      ≡ steps store (k + min b (labels_anew n m t - k)) (new_file edition statement n m t store file)
  file-advanced = advanced-after (writing_machine store) (new_file edition statement n m t store file) (labels_anew n m t) file-goes

  -- budgets that suffice end at the tree's file, which is accepted
  pub file-carried :
      (budgets : List ℕ) → labels_anew n m t ≤ total budgets
      → (after_calls (advanced store) (new_file edition statement n m t store file) budgets).file
      ≡ tree_file edition statement n t ++ drop (file_size n t) file
  file-carried budgets enough =
      rw (calls-end (writing_machine store) (new_file edition statement n m t store file) (labels_anew n m t) file-goes budgets enough)
      (file-written edition statement n m t store file size holds fits)

  pub file-carried-accepted :
      (budgets : List ℕ) → labels_anew n m t ≤ total budgets
      → file_check (take (file_size n t) (after_calls (advanced store) (new_file edition statement n m t store file) budgets).file) statement n t ≡ 0
  file-carried-accepted budgets enough =
      rw (file-carried budgets enough) (front-accepted edition statement n t (drop (file_size n t) file) fits.exists size fits.depth fits.count)
