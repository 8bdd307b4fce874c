-- A seal's end: the finished run's root and store, its head in the file, and the openings behind it.
use mathlib.Core.Path.{◌≡◌, sym, ap, subst, ◌∙◌}
use Prim.Native.Nat.{ℕ, ◌+◌, ◌*◌, ◌≤◌}
use native.Mathlib.Nat.{zero-mul}
use native.Mathlib.Omega.{arith}
use mathlib.Core.List.{List, ◌++◌, append_assoc, append-nil}
use borrow.Author.Tests.{ltb-false}
use lib.ListN.{length, take, drop, take-append-drop}
use lib.Seq.{drop_at, drop-drop}
use Rattle.base.specs.Bytes.{joined, written}
use Rattle.base.specs.Limits.{max_edition, max_depth, IsEdition, IsDepth, IsCount}
use Rattle.base.proofs.Ranges.{range-of}
use Rattle.base.proofs.WrittenLaws.{drop-written}
use Rattle.machine.proofs.StepLaws.{steps-add}
use Rattle.tree.specs.Openings.{opening_size}
use Rattle.tree.specs.Walk.{nodes_in}
use Rattle.run.specs.declared.Run.{Run}
use Rattle.run.specs.Rows.{continue_row}
use Rattle.run.specs.Steps.{Stamped, stamped, run_machine, steps}
use Rattle.run.proofs.RowLaws.{may-go-on, not-impossible}
use Rattle.file_head.specs.Layout.{head, head_size, file_size, head_written}
use Rattle.file_head.proofs.RowLaws.{head_done}
use Rattle.run_theory.specs.Runs.{LevelsFit, at_start}
use Rattle.run_theory.specs.Openings.{HoldsLabels}
use Rattle.run_theory.proofs.GoesOn.{After, after-steps, goes-possible, all_made}
use Rattle.run_theory.proofs.Step.{label-size}
use Rattle.run_theory.proofs.StartLaws.{levels-fit}
use Rattle.run_theory.proofs.Finished.{finished-holds}
use Rattle.run_record_theory.specs.Pausing.{remaining_of}
use Rattle.check_theory.specs.TreeFile.{root_of, tree_openings, tree_file}
use Rattle.check_theory.proofs.Reading.{length-head}
use Rattle.writing_theory.specs.Filed.{Writable, laid, laid_size}
use Rattle.writing_theory.proofs.Finished.{finished-root}
use Rattle.writing_theory.proofs.Laid.{laid-head, laid-length}
use Rattle.checkpoint_theory.specs.OnTheWay.{OnTheWay}
use Rattle.sealing.specs.Front.{Front, Seals}

-- ---- the run and its store when none of the labels remains
module _ (run : Run) (store : List ℕ) (goes : continue_row run (length store) ≡ 0) (finished : Run) (here : List ℕ)
    (is-run : finished ≡ (steps (remaining_of (stamped run store)) (stamped run store)).run)
    (is_is_store : here ≡ (steps (remaining_of (stamped run store)) (stamped run store)).store) where
  ends : stamped finished here ≡ steps (remaining_of (stamped run store)) (stamped run store)
  ends i = stamped (is-run i) (is_is_store i)

  kept : After (remaining_of (stamped run store)) (stamped run store) (stamped finished here)
  kept =
      subst (λ (s : Stamped). After (remaining_of (stamped run store)) (stamped run store) s) (sym ends)
      (after-steps (stamped run store) goes (remaining_of (stamped run store)) (omega arith))

  -- all its labels are made
  pub end-made : finished.made ≡ nodes_in finished.depth
  end-made = ap (λ (r : Run). r.made) is-run ∙ all_made (stamped run store) goes ∙ ap nodes_in (sym kept.depth)

  -- its file can be written
  pub end-writable : (t file : ℕ) → IsCount t → file_size run.depth t ≤ file
      → Writable finished.edition finished.depth finished.memory t (length here) file
  end-writable t file count fits =
      let (x, d, o, l) = not-impossible run.edition run.depth run.memory run.made (nodes_in run.depth) (goes-possible run (length store) goes) in
      rw (kept.edition, kept.depth, kept.memory, kept.room)
      (record {
        exists = range-of 1 max_edition run.edition x;
        depth = range-of 1 max_depth run.depth d;
        memory = ltb-false _ run.memory o;
        store_fits = (may-go-on run (length store) goes).room;
        count = count;
        file_fits = fits;
      })

  module _ (way : OnTheWay run store) where
    fit : LevelsFit run.depth run.memory (length way.first)
    fit = levels-fit run.edition run.depth run.memory (length way.first) way.startable

    -- it is the run that was started once, finished
    whole : stamped finished here ≡ steps (nodes_in run.depth) (at_start run.edition run.statement run.depth run.memory way.first)
    whole =
        let start : Stamped = at_start run.edition run.statement run.depth run.memory way.first in
        let left : ℕ = remaining_of (stamped run store) in
        let all : run.made + left ≡ nodes_in run.depth = omega (arith, way.few) in
        ends
        ∙ ap (λ (s : Stamped). steps left s) way.reached
        ∙ steps-add run_machine left run.made start
        ∙ ap (λ (k : ℕ). steps k start) all

    pub the-root : (root : List ℕ) → root ≡ take 32 (drop 0 finished.held) → root ≡ root_of run.edition run.statement run.depth
    the-root root e =
        e
        ∙ ap (λ (s : Stamped). take 32 s.run.held) whole
        ∙ finished-root run.edition run.statement run.depth run.memory way.first fit

    pub holds-labels : HoldsLabels run.edition run.statement run.depth run.memory here
    holds-labels =
        subst (HoldsLabels run.edition run.statement run.depth run.memory) (sym (ap (λ (s : Stamped). s.store) whole))
        (finished-holds run.edition run.statement run.depth run.memory way.first fit run.memory (omega arith))

-- ---- the head over the front of a file that has the first q openings
module _ (run : Run) (t q : ℕ) (file : List ℕ) (size : length run.statement ≡ 32) (exists : IsEdition run.edition) (front : Front run t q file)
  where
    abbrev n : ℕ
    n = run.depth

    abbrev openings : List ℕ
    openings = joined (tree_openings run.edition run.statement n q)

    behind : drop (head_size n t) file ≡ openings ++ drop (head_size n t + q * opening_size n) file
    behind =
        sym (take-append-drop (q * opening_size n) (drop (head_size n t) file))
        ∙ rw (front, drop-drop (q * opening_size n) (head_size n t) file)

    head-laid : written file 0 (head run.edition run.statement (root_of run.edition run.statement n) n t)
        ≡ laid run.edition run.statement n t q ++ drop (laid_size n t q) file
    unfolding laid laid_size tree_openings joined
    head-laid =
        let e : head_size n t + 0 * opening_size n ≡ head_size n t = omega (arith, zero-mul (opening_size n)) in
        laid-head run.edition run.statement n t file (omega arith) size
        ∙ rw (append-nil, e, behind)
        (sym (append_assoc (head run.edition run.statement (root_of run.edition run.statement n) n t) openings _))

    module _ (root next : List ℕ) (is-root : root ≡ root_of run.edition run.statement n)
        (put : next ≡ head_written run.edition run.statement root n t file) (depth : IsDepth n) (count : IsCount t)
        (fits : file_size n t ≤ length file) where
      laid-over : next ≡ laid run.edition run.statement n t q ++ drop (laid_size n t q) file
      unfolding head_written
      laid-over = put ∙ rw (head_done run.edition n t (length file) exists depth count fits, is-root) head-laid

      pub laid-begun : next ≡ laid run.edition run.statement n t q ++ drop (laid_size n t q) next
      laid-begun =
          laid-over
          ∙ ap (λ (l : List ℕ). laid run.edition run.statement n t q ++ l)
          (sym (ap (drop (laid_size n t q)) laid-over
          ∙ drop_at (laid run.edition run.statement n t q) _ (laid_size n t q) (laid-length run.edition run.statement n t q (omega arith) size)))

      head-size : length (head run.edition run.statement root n t) ≡ head_size n t
      head-size =
          rw is-root
          (length-head run.edition run.statement (root_of run.edition run.statement n) n t size
          (label-size run.edition run.statement n _) (omega arith))

      pub behind-file : drop (file_size n t) next ≡ drop (file_size n t) file
      unfolding head_written file_size
      behind-file =
          ap (drop (file_size n t)) put
          ∙ rw (head_done run.edition n t (length file) exists depth count fits)
          (drop-written file (head run.edition run.statement root n t) 0 (file_size n t) (omega (arith, head-size)) (omega (arith, head-size)))

-- ---- all of it: what the openings give over the finished run's store is the tree's file
module _ (run : Run) (store : List ℕ) (goes : continue_row run (length store) ≡ 0) (finished : Run) (here : List ℕ)
    (is-run : finished ≡ (steps (remaining_of (stamped run store)) (stamped run store)).run)
    (is_is_store : here ≡ (steps (remaining_of (stamped run store)) (stamped run store)).store)
    (size : length run.statement ≡ 32) (t q : ℕ) (count : IsCount t) (file root next after : List ℕ)
    (fits : file_size run.depth t ≤ length file)
    (held : root ≡ take 32 (drop 0 finished.held))
    (put : next ≡ head_written run.edition run.statement root run.depth t file)
    (opened : root ≡ root_of finished.edition finished.statement finished.depth
    → HoldsLabels finished.edition finished.statement finished.depth finished.memory here
    → next ≡ laid finished.edition finished.statement finished.depth t q ++ drop (laid_size finished.depth t q) next
    → after ≡ tree_file finished.edition finished.statement finished.depth t ++ drop (file_size finished.depth t) next) where
  pub sealed : Seals run store t q file root after
  sealed way front =
      let k = kept run store goes finished here is-run is_is_store in
      let is-root = the-root run store goes finished here is-run is_is_store way root held in
      let depth : IsDepth run.depth = (way.startable.positive, way.startable.shallow) in
      let all = rw (k.edition, k.statement, k.depth, k.memory) at opened in (
        is-root,
        all is-root (holds-labels run store goes finished here is-run is_is_store way)
            (laid-begun run t q file size way.startable.exists front root next is-root put depth count fits)
            ∙ rw (behind-file run t q file size way.startable.exists front root next is-root put depth count fits),
      )
