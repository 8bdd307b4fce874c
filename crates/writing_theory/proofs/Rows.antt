-- The rows of writing a file: a start is done just when its six conditions hold, and a call just when it can be continued.
use mathlib.Core.Path.{◌≡◌}
use Prim.Native.Nat.{ℕ, ◌^◌, ◌≤◌, ◌<◌, min}
use mathlib.Core.Bool.{false}
use mathlib.Core.List.{List}
use lib.ListN.{length}
use borrow.Author.Tests.{le-ltb, lt-leb}
use Rattle.base.specs.Limits.{max_edition, max_depth, max_memory, max_challenges, IsEdition, IsDepth, IsCount}
use Rattle.tree.specs.Store.{store_size}
use Rattle.opening.specs.Rows.{nodes_anew}
use Rattle.file_head.specs.Layout.{file_size}
use Rattle.run_theory.specs.Runs.{Startable}
use Rattle.run_theory.proofs.StartLaws.{start-bounds}
use Rattle.base.proofs.Ranges.{within}
use Rattle.file_head.proofs.RowLaws.{done-head}
use Rattle.writing.specs.declared.Writing.{Writing}
use Rattle.writing.specs.Rows.{write_row, rewrite_row}
use Rattle.writing.proofs.RowLaws.{both-done}
use Rattle.writing.specs.Steps.{may_follow, new_writing, started}
use Rattle.writing_theory.specs.Filed.{Writable}

module _ (edition n m t store file : ℕ) where
  pub write_done : Writable edition n m t store file → write_row edition n m t store file ≡ 0
  unfolding write_row
  write_done fits =
      rw (
        within 1 max_edition edition fits.exists,
        within 1 max_depth n fits.depth,
        le-ltb (min n max_memory) m fits.memory,
        le-ltb store (store_size m) fits.store_fits,
        within 1 max_challenges t fits.count,
        le-ltb file (file_size n t) fits.file_fits,
      )

  pub done-write : write_row edition n m t store file ≡ 0 → Writable edition n m t store file
  done-write e =
      let (begun, headed) = both-done edition n m t store file e in
      let head : IsEdition edition × IsDepth n × IsCount t × (file_size n t ≤ file) = done-head edition n t file headed in
      let run : Startable edition n m store = start-bounds edition n m store head.0 begun in
      record {
        exists = head.0;
        depth = head.1;
        memory = run.memory;
        store_fits = run.enough;
        count = head.2;
        file_fits = head.3;
      }

pub started-done :
    (edition : ℕ) (statement root : List ℕ) (n m t : ℕ) (store file : List ℕ) → Writable edition n m t (length store) (length file)
    → started edition statement root n m t store file ≡ new_writing edition statement root n m t store file
unfolding started
started-done edition statement root n m t store file fits = rw (write_done edition n m t (length store) (length file) fits)

-- a continuation over lengths as at the start
pub rewrite-done :
    (w : Writing) (store file : ℕ) → Writable w.opening.edition w.opening.depth w.opening.memory w.count store file
    → w.opening.made ≤ nodes_anew w.opening.depth w.opening.memory → w.opening.leaf < 2 ^ w.opening.depth
    → (1 ≤ w.number) × (w.number ≤ w.count) → may_follow w ≡ false
    → rewrite_row w store file ≡ 0
unfolding rewrite_row
rewrite-done w store file fits few inside number under =
    rw (
      within 1 max_edition w.opening.edition fits.exists,
      within 1 max_depth w.opening.depth fits.depth,
      le-ltb (min w.opening.depth max_memory) w.opening.memory fits.memory,
      le-ltb (nodes_anew w.opening.depth w.opening.memory) w.opening.made few,
      lt-leb (2 ^ w.opening.depth) w.opening.leaf inside,
      within 1 max_challenges w.count fits.count,
      within 1 w.count w.number number,
      under,
      le-ltb store (store_size w.opening.memory) fits.store_fits,
      le-ltb file (file_size w.opening.depth w.count) fits.file_fits,
    )
