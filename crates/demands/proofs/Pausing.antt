-- W-201, each sentence with its proof.
use mathlib.Core.Path.{◌≡◌, refl, sym, ap, ◌∙◌}
use Prim.Native.Nat.{ℕ, ◌+◌, ◌-◌, ◌^◌, ◌≤◌, ◌<◌, min}
use native.Mathlib.Nat.{zero-add}
use native.Mathlib.Omega.{arith}
use mathlib.Core.Bool.{false}
use mathlib.Core.List.{List, ◌++◌}
use lib.ListN.{length, take, drop, get_or, take-append-drop}
use lib.Seq.{drop_at, length-take-le}
use borrow.Author.Tests.{le-ltb, ltb-false}
use Rattle.base.specs.Limits.{max_edition, max_depth, max_memory}
use Rattle.base.specs.Bytes.{joined, written}
use Rattle.base.proofs.Ranges.{within, range-of}
use Rattle.machine.specs.Calls.{total}
use Rattle.machine.proofs.CallLaws.{calls-end}
use Rattle.groups.specs.Groups.{groups}
use Rattle.tree.specs.Nodes.{root}
use Rattle.tree.specs.Labels.{label}
use Rattle.tree.specs.Walk.{nodes_in}
use Rattle.labelling.specs.Rule.{stamp_rule}
use Rattle.run.specs.declared.Run.{Run}
use Rattle.run.specs.Steps.{run_of, Stamped, run_machine, steps}
use Rattle.run.proofs.RowLaws.{Possible, possible, not-impossible}
use Rattle.run_theory.specs.Runs.{Startable, at_start, called}
use Rattle.run_theory.proofs.RunLaws.{run-goes}
use Rattle.run_theory.proofs.GoesOn.{goes_on, all_made}
use Rattle.run_record.specs.Layout.{held_length, record_numbers, record_of, no_such_run, record_row, record_size, record_written}
use Rattle.run_record.specs.Reading.{numbers, numbers_of, rest_row, resume_row, resumed}
use Rattle.run_record_theory.specs.Pausing.{HasArrays, Continuable, remaining_of, tidied, called_pausing}
use Rattle.run_record_theory.proofs.Tidy.{held-inside, tidied-record}
use Rattle.run_record_theory.proofs.TidySteps.{shallow-run, few-made, called-continuable}
use Rattle.run_record_theory.proofs.Reading.{record-back, IsRecord, is-record}
use Rattle.run_record_theory.proofs.Sizes.{record-length, finished-record, finished-root, longest-record}
use Rattle.run_record_theory.proofs.Pausing.{pausing-state, pausing-continuable, pausing-goes-on, pausing-labels, pausing-same, pausing-end, pausing-start}
use Rattle.demands.specs.Demand1.{AnEdition, InBounds, run_at_start}
use Rattle.demands.specs.Pausing.{AreBytes, PossibleRun, UnusedZero, RecordIs, ReadBack, PausedAnywhere, Pausing}
use Rattle.demands.proofs.Carrying.{startable}
use Rattle.demands.proofs.MemoryLimit.{level-refused}

-- ---- possible runs, and runs whose unused places are zero
pub has-arrays : (run : Run) → length run.statement ≡ 32 → length run.held ≡ 1312 → HasArrays run
has-arrays run statement places = record { statement_size = omega (arith, statement); places_size = omega (arith, places) }

unused-tidy : (run : Run) → UnusedZero run → tidied run ≡ run
unfolding tidied
unused-tidy run unused =
    let size : ℕ = held_length run.depth run.made in
    ap (run_of run.edition run.statement run.depth run.memory run.made)
    (ap (λ (l : List ℕ). take size run.held ++ l) (sym unused) ∙ take-append-drop size run.held)

module _
    (run : Run) (arrays : HasArrays run) (can : no_such_run run.edition run.depth run.memory run.made ≡ false) where
  possible-run : PossibleRun run
  unfolding nodes_in
  possible-run =
      let (known, depth, memory, made) =
      not-impossible run.edition run.depth run.memory run.made (nodes_in run.depth) can in
      let range = range-of 1 max_depth run.depth depth in
      record {
        statement = omega (arith, arrays.statement_size);
        places = omega (arith, arrays.places_size);
        edition = range-of 1 max_edition run.edition known;
        depth = (omega (arith, range.0), omega (arith, range.1));
        memory = omega (arith, ltb-false (min run.depth max_memory) run.memory memory);
        made = omega (arith, ltb-false (nodes_in run.depth) run.made made);
      }

  tidy-unused : tidied run ≡ run → UnusedZero run
  unfolding tidied
  tidy-unused tidy =
      let size : ℕ = held_length run.depth run.made in
      let bounds : Possible run.edition run.depth run.memory run.made =
      possible run.edition run.depth run.memory run.made can in
      ap (λ (r : Run). drop size r.held) (sym tidy)
      ∙ drop_at (take size run.held) _ size
      (length-take-le size run.held (held-inside run arrays bounds.depth bounds.made-few))

-- ---- records, written and read back
module _ (run : Run) (can : PossibleRun run) where
  arrays-of : HasArrays run
  arrays-of = has-arrays run can.statement can.places

  such-run : no_such_run run.edition run.depth run.memory run.made ≡ false
  unfolding nodes_in
  such-run =
      rw (
        within 1 max_edition run.edition can.edition,
        within 1 max_depth run.depth (omega (arith, can.depth.0), omega (arith, can.depth.1)),
        le-ltb (min run.depth max_memory) run.memory (omega (arith, can.memory)),
        le-ltb (nodes_in run.depth) run.made (omega (arith, can.made)),
      )

  fits-row : (out : ℕ) → length (record_of run) ≤ out → record_row run out ≡ 0
  unfolding record_row
  fits-row out fits = rw (such-run, le-ltb out (length (record_of run)) fits)

  fits-written : (out : List ℕ) → length (record_of run) ≤ length out → record_written run out ≡ record_of run ++ drop (length (record_of run)) out
  unfolding record_written written
  fits-written out fits = rw (fits-row (length out) fits, zero-add (length (record_of run)))

  fits-size : (out : ℕ) → length (record_of run) ≤ out → record_size run out ≡ length (record_of run)
  unfolding record_size
  fits-size out fits = rw (fits-row out fits)

  record_is : (out : List ℕ) → RecordIs run out
  unfolding record_of record_numbers
  record_is out =
      record {
        layout = refl;
        written = fits-written out;
        size = fits-size (length out);
        longest = omega (arith, record-length run arrays-of such-run);
      }

  read_back : ReadBack run
  unfolding tidied
  read_back =
      let (done, back) = record-back run arrays-of such-run in
      record {
        accepted = done;
        statement = ap (λ (r : Run). r.statement) back;
        edition = ap (λ (r : Run). r.edition) back;
        numbers = (ap (λ (r : Run). r.depth) back, ap (λ (r : Run). r.memory) back, ap (λ (r : Run). r.made) back);
        held = ap (λ (r : Run). r.held) back;
        whole = λ unused. back ∙ unused-tidy run unused;
      }

-- ---- the record of a finished run
record-finished :
    (run : Run) → run.made ≡ nodes_in run.depth
    → record_of run
    ≡ groups 2 run.edition ++ groups 2 run.depth ++ groups 2 run.memory ++ groups 6 run.made ++ run.statement ++ take 32 run.held
unfolding record_numbers
record-finished = finished-record

root-finished :
    (edition : ℕ) (statement : List ℕ) (n m : ℕ) (store budgets : List ℕ) → AnEdition edition → InBounds n m (length store)
    → nodes_in n ≤ total budgets
    → record_of (called (run_at_start edition statement n m store) budgets).run
    ≡ groups 2 edition ++ groups 2 n ++ groups 2 m ++ groups 6 (2 ^ (n + 1) - 1) ++ statement ++ label (stamp_rule edition n statement) n root
unfolding at_start nodes_in record_numbers
root-finished edition statement n m store budgets exists bounds enough =
    let s : Startable edition n m (length store) = startable edition n m (length store) exists bounds in
    ap (λ (end : Stamped). record_of end.run)
    (calls-end run_machine (at_start edition statement n m store) (nodes_in n) (run-goes edition statement n m store s) budgets enough)
    ∙ finished-root edition statement n m store s.shallow

-- ---- what is read
as_bytes : (bytes : List ℕ) → AreBytes bytes → (j : ℕ) → get_or bytes j 0 < 256
as_bytes bytes small j = omega (arith, small j)

read-record :
    (bytes : List ℕ) → AreBytes bytes → resume_row bytes ≡ 0
    → (record_of (resumed bytes) ≡ bytes) × (PossibleRun (resumed bytes) × UnusedZero (resumed bytes))
read-record bytes small done =
    let r : IsRecord bytes (resumed bytes) = is-record bytes (as_bytes bytes small) done in (
      r.written,
      (possible-run (resumed bytes) r.arrays r.possible, tidy-unused (resumed bytes) r.arrays r.possible r.tidy),
    )

one-record : (a b : List ℕ) → AreBytes a → AreBytes b → resume_row a ≡ 0 → resume_row b ≡ 0 → resumed a ≡ resumed b → a ≡ b
one-record a b small-a small_b done-a done-b e =
    sym (read-record a small-a done-a).0 ∙ ap record_of e ∙ (read-record b small_b done-b).0

level-four : (bytes : List ℕ) (e n m made at : ℕ) → numbers_of bytes ≡ numbers e n m made at → min n max_memory < m → resume_row bytes ≡ 4
unfolding resume_row rest_row
level-four bytes e n m made at is over = rw (is, level-refused e n m made (nodes_in n) over)

-- ---- pauses
module _ (s : Stamped) (can : Continuable s) (portions : List (List ℕ)) where
  record_same : record_of (called_pausing s portions).run ≡ record_of (called s (joined portions)).run
  record_same =
      let p : Stamped = called_pausing s portions in
      let q : Stamped = called s (joined portions) in
      let cp : Continuable p = pausing-continuable s can portions in
      let cq : Continuable q = called-continuable s can (joined portions) in
      sym (tidied-record p.run cp.arrays (shallow-run p cp) (few-made p cp))
      ∙ ap (λ (t : Stamped). record_of t.run) (pausing-state s can portions)
      ∙ tidied-record q.run cq.arrays (shallow-run q cq) (few-made q cq)

  module _ (enough : 2 ^ (s.run.depth + 1) - 1 ≤ s.run.made + total (joined portions)) where
    covers : remaining_of s ≤ total (joined portions)
    unfolding nodes_in
    covers = omega arith

    called-end : called s (joined portions) ≡ steps (remaining_of s) s
    called-end = calls-end run_machine s (remaining_of s) (goes_on s can.goes) (joined portions) covers

    end-made : (called_pausing s portions).run.made ≡ 2 ^ (s.run.depth + 1) - 1
    unfolding tidied nodes_in
    end-made =
        ap (λ (t : Stamped). t.run.made) (pausing-state s can portions)
        ∙ ap (λ (t : Stamped). t.run.made) called-end
        ∙ omega (arith, all_made s can.goes)

    end-root : take 32 (called_pausing s portions).run.held ≡ take 32 (called s (joined portions)).run.held
    end-root = (pausing-end s can portions covers).0 ∙ ap (λ (t : Stamped). take 32 t.run.held) (sym called-end)

  paused-anywhere : PausedAnywhere s portions
  paused-anywhere =
      record {
        not_refused = pausing-goes-on s can portions;
        labels = pausing-labels s can portions;
        same_store = ap (λ (t : Stamped). t.store) (pausing-state s can portions);
        same_record = record_same;
        same_run = λ unused. pausing-same s can (unused-tidy s.run unused) portions;
        same_root = λ enough. (end-made enough, end-root enough);
      }

paused-from-start :
    (edition : ℕ) (statement : List ℕ) (n m : ℕ) (store : List ℕ) (portions : List (List ℕ)) → AnEdition edition → length statement ≡ 32
    → InBounds n m (length store)
    → called_pausing (run_at_start edition statement n m store) portions ≡ called (run_at_start edition statement n m store) (joined portions)
unfolding at_start
paused-from-start edition statement n m store portions exists size bounds =
    pausing-start edition statement n m store (startable edition n m (length store) exists bounds) (omega (arith, size)) portions

pub pausing : Pausing
unfolding nodes_in
pausing =
    record {
      record_is = λ run out can. record_is run can out;
      finished_record = λ run all. record-finished run (omega (arith, all));
      finished_root = λ edition statement n m store budgets exists bounds enough.
          root-finished edition statement n m store budgets exists bounds (omega (arith, enough));
      longest_met = λ edition statement places m exists a b low.
          omega (arith, longest-record edition statement places m exists (omega (arith, a)) (omega (arith, b)) (omega (arith, low)));
      read_back = read_back;
      read_is_record = read-record;
      one_record = one-record;
      paused_anywhere = λ s portions statement places goes.
          paused-anywhere s (record { arrays = has-arrays s.run statement places; goes = goes }) portions;
      paused_from_start = paused-from-start;
      level_refused = λ bytes e n m made at is over. level-four bytes e n m made at is (omega (arith, over));
    }
