-- W-201: 'A run paused after any label and resumed must end with the same root and store as one never paused, given the same store.'
use Rattle.std.specs.Prelude.{◌≡◌, ℕ, ◌+◌, ◌-◌, List, [], ◌∷◌, ◌++◌, length}
use Rattle.base.specs.Limits.{held_size}
use Rattle.base.specs.Bytes.{zeros}
use Rattle.tree.specs.Walk.{nodes_in}
use Rattle.run.specs.declared.Run.{Run}
use Rattle.run.specs.Rows.{continue_row}
use Rattle.run.specs.Steps.{run_of, Stamped, stamped}
use Rattle.run_theory.specs.Runs.{called, reported}
use Rattle.run_record.specs.Layout.{held_length, held_labels, record_of}
use Rattle.run_record.specs.Reading.{resumed}

-- a run's two arrays, of any bytes
pub record HasArrays (run : Run) : Type 0 where
  pub statement_size : length run.statement ≡ 32
  pub places_size : length run.held ≡ held_size

-- a run of any bytes and a store, which a call does not refuse
pub record Continuable (s : Stamped) : Type 0 where
  pub arrays : HasArrays s.run
  pub goes : continue_row s.run (length s.store) ≡ 0

-- the labels that remain
abbrev pub remaining_of : Stamped → ℕ
remaining_of s = nodes_in s.run.depth - s.run.made

-- the run with its unused places zero, as every run that a start and calls give has them
unfoldable pub tidied : Run → Run
tidied run =
    run_of run.edition run.statement run.depth run.memory run.made
    (held_labels run ++ zeros (held_size - held_length run.depth run.made))

abbrev pub tidied_at : Stamped → Stamped
tidied_at s = stamped (tidied s.run) s.store

-- written out as bytes and taken up elsewhere; 'the store travels separately'
unfoldable pub paused : Stamped → Stamped
paused s = stamped (resumed (record_of s.run)) s.store

-- calls with the budgets of each portion, and a pause after each portion
unfoldable pub called_pausing : Stamped → List (List ℕ) → Stamped
called_pausing s [] = s
called_pausing s (budgets ∷ portions) = called_pausing (paused (called s budgets)) portions

-- the labels that these calls report, added up
unfoldable pub reported_pausing : Stamped → List (List ℕ) → ℕ
reported_pausing s [] = 0
reported_pausing s (budgets ∷ portions) = reported s budgets + reported_pausing (paused (called s budgets)) portions
