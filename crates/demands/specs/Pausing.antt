-- W-201, 'Pausing when shore power goes', sentence by sentence.
use Rattle.std.specs.Prelude.{◌≡◌, ℕ, ◌+◌, ◌-◌, ◌*◌, ◌^◌, ◌≤◌, ◌<◌, min, List, ◌++◌, length, take, drop, get_or}
use Rattle.base.specs.Bytes.{zeros, joined}
use Rattle.machine.specs.Calls.{total}
use Rattle.groups.specs.Groups.{groups}
use Rattle.tree.specs.Nodes.{root}
use Rattle.tree.specs.Labels.{label}
use Rattle.tree.specs.Held.{held}
use Rattle.labelling.specs.Rule.{stamp_rule}
use Rattle.run.specs.declared.Run.{Run}
use Rattle.run.specs.Rows.{continue_row}
use Rattle.run.specs.Steps.{run_of, Stamped}
use Rattle.run_theory.specs.Runs.{called, reported}
use Rattle.run_record.specs.Layout.{record_of, record_size, record_written}
use Rattle.run_record.specs.Reading.{numbers, numbers_of, resume_row, resumed}
use Rattle.run_record_theory.specs.Pausing.{called_pausing, reported_pausing}
use Rattle.demands.specs.Demand1.{AnEdition, InBounds, run_at_start}

-- any bytes
abbrev pub AreBytes : List ℕ → Type 0
AreBytes bytes = (j : ℕ) → get_or bytes j 0 < 256

-- a run's arrays, and numbers that continuing a run does not refuse with 4
pub record PossibleRun (run : Run) : Type 0 where
  pub statement : length run.statement ≡ 32
  pub places : length run.held ≡ 1312
  pub edition : AnEdition run.edition
  pub depth : (1 ≤ run.depth) × (run.depth ≤ 40)
  pub memory : run.memory ≤ min run.depth 14
  pub made : run.made ≤ 2 ^ (run.depth + 1) - 1

-- its unused places are zero: those behind the labels that the tree holds after so many
abbrev pub UnusedZero : Run → Type 0
UnusedZero run = let size : ℕ = 32 * length (held run.depth run.made) in drop size run.held ≡ zeros (1312 - size)

-- 'edition, depth, memory level and labels made in seven-bit groups (labels made may take six), then the statement, then the held
-- labels only, in the order made'
pub record RecordIs (run : Run) (out : List ℕ) : Type 0 where
  pub layout :
      record_of run
      ≡ groups 2 run.edition ++ groups 2 run.depth ++ groups 2 run.memory ++ groups 6 run.made ++ run.statement
      ++ take (32 * length (held run.depth run.made)) run.held
  -- it is what is written, where it fits, with its length, and no other byte is touched
  pub written : length (record_of run) ≤ length out → record_written run out ≡ record_of run ++ drop (length (record_of run)) out
  pub size : length (record_of run) ≤ length out → record_size run (length out) ≡ length (record_of run)
  pub longest : length (record_of run) ≤ 1353

-- a possible run's record is read back as that run, its unused places zero
pub record ReadBack (run : Run) : Type 0 where
  pub accepted : resume_row (record_of run) ≡ 0
  pub statement : (resumed (record_of run)).statement ≡ run.statement
  pub edition : (resumed (record_of run)).edition ≡ run.edition
  pub numbers :
      ((resumed (record_of run)).depth ≡ run.depth) × ((resumed (record_of run)).memory ≡ run.memory) × ((resumed (record_of run)).made ≡ run.made)
  pub held :
      let size : ℕ = 32 * length (held run.depth run.made) in
      (resumed (record_of run)).held ≡ take size run.held ++ zeros (1312 - size)
  pub whole : UnusedZero run → resumed (record_of run) ≡ run

-- 'paused after any label and resumed', any number of times, in any cut of budgets: a pause after each portion of the budgets
pub record PausedAnywhere (s : Stamped) (portions : List (List ℕ)) : Type 0 where
  pub not_refused : continue_row (called_pausing s portions).run (length (called_pausing s portions).store) ≡ 0
  pub labels : reported_pausing s portions ≡ reported s (joined portions)
  pub same_store : (called_pausing s portions).store ≡ (called s (joined portions)).store
  -- statement, numbers and held labels are the same; with unused places zero the whole run is
  pub same_record : record_of (called_pausing s portions).run ≡ record_of (called s (joined portions)).run
  pub same_run : UnusedZero s.run → called_pausing s portions ≡ called s (joined portions)
  -- 'must end with the same root and store as one never paused'
  pub same_root :
      2 ^ (s.run.depth + 1) - 1 ≤ s.run.made + total (joined portions)
      → ((called_pausing s portions).run.made ≡ 2 ^ (s.run.depth + 1) - 1)
      × (take 32 (called_pausing s portions).run.held ≡ take 32 (called s (joined portions)).run.held)

-- ---- the request
pub record Pausing : Type 0 where
  pub record_is : (run : Run) (out : List ℕ) → PossibleRun run → RecordIs run out
  -- 'A finished run holds just the root.'
  pub finished_record :
      (run : Run) → run.made ≡ 2 ^ (run.depth + 1) - 1
      → record_of run
      ≡ groups 2 run.edition ++ groups 2 run.depth ++ groups 2 run.memory ++ groups 6 run.made ++ run.statement ++ take 32 run.held
  pub finished_root :
      (edition : ℕ) (statement : List ℕ) (n m : ℕ) (store budgets : List ℕ) → AnEdition edition → InBounds n m (length store)
      → 2 ^ (n + 1) - 1 ≤ total budgets
      → record_of (called (run_at_start edition statement n m store) budgets).run
      ≡ groups 2 edition ++ groups 2 n ++ groups 2 m ++ groups 6 (2 ^ (n + 1) - 1) ++ statement ++ label (stamp_rule edition n statement) n root
  -- 1,353 bytes do occur: 41 labels are held after the last leaf of depth 40
  pub longest_met :
      (edition : ℕ) (statement places : List ℕ) (m : ℕ) → AnEdition edition → length statement ≡ 32 → length places ≡ 1312 → m ≤ 14
      → length (record_of (run_of edition statement 40 m (2 ^ 41 - 41) places)) ≡ 1353
  pub read_back : (run : Run) → PossibleRun run → ReadBack run
  -- bytes that are read as a run are exactly that run's record, which is a possible one
  pub read_is_record :
      (bytes : List ℕ) → AreBytes bytes → resume_row bytes ≡ 0
      → (record_of (resumed bytes) ≡ bytes) × (PossibleRun (resumed bytes) × UnusedZero (resumed bytes))
  -- 'no two records give the same run'
  pub one_record :
      (a b : List ℕ) → AreBytes a → AreBytes b → resume_row a ≡ 0 → resume_row b ≡ 0 → resumed a ≡ resumed b → a ≡ b
  -- of every state that is not refused, reached or not
  pub paused_anywhere :
      (s : Stamped) (portions : List (List ℕ)) → length s.run.statement ≡ 32 → length s.run.held ≡ 1312
      → continue_row s.run (length s.store) ≡ 0 → PausedAnywhere s portions
  -- and so of a run from its start: the same run and store, of which demand 2 says what they hold
  pub paused_from_start :
      (edition : ℕ) (statement : List ℕ) (n m : ℕ) (store : List ℕ) (portions : List (List ℕ)) → AnEdition edition
      → length statement ≡ 32 → InBounds n m (length store)
      → called_pausing (run_at_start edition statement n m store) portions ≡ called (run_at_start edition statement n m store) (joined portions)
  -- W-209: 'a paused record with 15 to 20 is refused with 4, as a run with such a level is'
  pub level_refused :
      (bytes : List ℕ) (e n m made at : ℕ) → numbers_of bytes ≡ numbers e n m made at → min n 14 < m → resume_row bytes ≡ 4
