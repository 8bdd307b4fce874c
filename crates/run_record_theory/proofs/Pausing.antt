-- W-201: 'A run paused after any label and resumed must end with the same root and store as one never paused, given the same store.'
use mathlib.Core.Path.{◌≡◌, refl, sym, ap, ◌∙◌}
use mathlib.Core.List.{List, [], ◌∷◌, ◌++◌}
use Prim.Native.Nat.{ℕ, ◌+◌, ◌≤◌}
use native.Mathlib.Nat.{zero-add}
use native.Mathlib.Omega.{arith}
use lib.ListN.{length, take}
use Rattle.base.specs.Bytes.{joined}
use Rattle.machine.specs.Machines as machines
use Rattle.machine.specs.Calls.{total, after_calls, labels_over}
use Rattle.machine.proofs.CallLaws.{calls-end}
use Rattle.tree.specs.Walk.{nodes_in}
use Rattle.run.specs.declared.Run.{Run}
use Rattle.run.specs.Rows.{continue_row}
use Rattle.run.specs.Steps.{Stamped, stamped, run_machine, steps, advanced}
use Rattle.run_theory.specs.Runs.{Startable, at_start, called, reported}
use Rattle.run_theory.proofs.RunLaws.{run-reached, continue-reached}
use Rattle.run_record_theory.specs.Pausing.{HasArrays, Continuable, remaining_of, tidied, tidied_at, paused, called_pausing, reported_pausing}
use Rattle.run_record_theory.proofs.Tidy.{kept-front, tidied-places}
use Rattle.run_theory.proofs.Editions.{run-calls-keep-edition}
use Rattle.run_theory.proofs.GoesOn.{goes-possible, goes_on, after-steps, all_made}
use Rattle.run_record_theory.proofs.Reading.{record-back}
use Rattle.run_record_theory.proofs.Sizes.{finished-length}
use Rattle.run_record_theory.proofs.TidySteps.{run_after-tidy, run_after-arrays, tidied-continuable, tidied_at-twice, steps-arrays}
use Rattle.run_record_theory.proofs.TidySteps.{called-continuable, tidy-called, tidy-reported}

-- ---- calls with the budgets of two lists, one after the other
called-append : (s : Stamped) (a b : List ℕ) → called s (a ++ b) ≡ called (called s a) b
unfolding after_calls
called-append s [] b = refl
called-append s (x ∷ a) b = called-append (advanced s x) a b

reported-append : (s : Stamped) (a b : List ℕ) → reported s (a ++ b) ≡ reported s a + reported (called s a) b
unfolding after_calls labels_over
reported-append s [] b = sym (zero-add (reported s b))
reported-append s (x ∷ a) b = omega (arith, reported-append (advanced s x) a b)

-- ---- one pause
module _ (s : Stamped) (can : Continuable s) where
  -- a pause tidies
  pub paused-tidied : paused s ≡ tidied_at s
  unfolding paused
  paused-tidied =
      ap (λ (r : Run). stamped r s.store)
      (record-back s.run can.arrays (goes-possible s.run (length s.store) can.goes)).1

  pub paused-continuable : Continuable (paused s)
  paused-continuable = rw paused-tidied (tidied-continuable s can)

  -- W-206: a record has the run's edition, and reading gives it back
  pub paused-keeps-edition : (paused s).run.edition ≡ s.run.edition
  unfolding tidied
  paused-keeps-edition = ap (λ (t : Stamped). t.run.edition) paused-tidied

-- ---- a portion of calls with a pause after it
after-portion : (s : Stamped) (can : Continuable s) (budgets : List ℕ) → paused (called s budgets) ≡ tidied_at (called s budgets)
after-portion s can budgets = paused-tidied (called s budgets) (called-continuable s can budgets)

portion-continuable : (s : Stamped) (can : Continuable s) (budgets : List ℕ) → Continuable (paused (called s budgets))
portion-continuable s can budgets = paused-continuable (called s budgets) (called-continuable s can budgets)

-- ---- any portions
-- whatever bytes the run holds, all but the unused places is that of the run never paused
state-next : (s : Stamped) (can : Continuable s) (budgets rest : List ℕ) (end : Stamped)
    → tidied_at end ≡ tidied_at (called (paused (called s budgets)) rest) → tidied_at end ≡ tidied_at (called s (budgets ++ rest))
state-next s can budgets rest end e =
    let t : Stamped = called s budgets in
    let good : Continuable t = called-continuable s can budgets in
    e
    ∙ ap (λ (u : Stamped). tidied_at (called u rest)) (after-portion s can budgets)
    ∙ ap tidied_at (sym (tidy-called t good rest))
    ∙ tidied_at-twice (called t rest) (called-continuable t good rest)
    ∙ ap tidied_at (sym (called-append s budgets rest))

pub pausing-state : (s : Stamped) → Continuable s → (portions : List (List ℕ))
    → tidied_at (called_pausing s portions) ≡ tidied_at (called s (joined portions))
unfolding called_pausing joined after_calls
pausing-state s can [] = refl
pausing-state s can (budgets ∷ portions) =
    state-next s can budgets (joined portions) (called_pausing (paused (called s budgets)) portions)
    (pausing-state (paused (called s budgets)) (portion-continuable s can budgets) portions)

-- it is not refused after them
pub pausing-continuable : (s : Stamped) → Continuable s → (portions : List (List ℕ)) → Continuable (called_pausing s portions)
unfolding called_pausing
pausing-continuable s can [] = can
pausing-continuable s can (budgets ∷ portions) =
    pausing-continuable (paused (called s budgets)) (portion-continuable s can budgets) portions

pub pausing-goes-on : (s : Stamped) → Continuable s → (portions : List (List ℕ))
    → continue_row (called_pausing s portions).run (length (called_pausing s portions).store) ≡ 0
pausing-goes-on s can portions = (pausing-continuable s can portions).goes

-- the labels that the calls report are those of the run never paused
labels_next : (s : Stamped) (can : Continuable s) (budgets rest : List ℕ) (more : ℕ)
    → more ≡ reported (paused (called s budgets)) rest → reported s budgets + more ≡ reported s (budgets ++ rest)
labels_next s can budgets rest more e =
    let t : Stamped = called s budgets in
    let f : more ≡ reported t rest =
    e
    ∙ ap (λ (u : Stamped). reported u rest) (after-portion s can budgets)
    ∙ tidy-reported t (called-continuable s can budgets) rest in
    rw f (sym (reported-append s budgets rest))

pub pausing-labels : (s : Stamped) → Continuable s → (portions : List (List ℕ)) → reported_pausing s portions ≡ reported s (joined portions)
unfolding reported_pausing joined labels_over
pausing-labels s can [] = refl
pausing-labels s can (budgets ∷ portions) =
    labels_next s can budgets (joined portions) (reported_pausing (paused (called s budgets)) portions)
    (pausing-labels (paused (called s budgets)) (portion-continuable s can budgets) portions)

-- the edition is the run's through any calls and pauses
edition-next : (s : Stamped) (can : Continuable s) (budgets : List ℕ) (end : Stamped)
    → end.run.edition ≡ (paused (called s budgets)).run.edition → end.run.edition ≡ s.run.edition
edition-next s can budgets end e =
    e ∙ paused-keeps-edition (called s budgets) (called-continuable s can budgets) ∙ run-calls-keep-edition budgets s

pub pausing-keeps-edition : (s : Stamped) → Continuable s → (portions : List (List ℕ))
    → (called_pausing s portions).run.edition ≡ s.run.edition
unfolding called_pausing
pausing-keeps-edition s can [] = refl
pausing-keeps-edition s can (budgets ∷ portions) =
    edition-next s can budgets (called_pausing (paused (called s budgets)) portions)
    (pausing-keeps-edition (paused (called s budgets)) (portion-continuable s can budgets) portions)

-- ---- a tidy run: pausing changes nothing at all
module _ (s : Stamped) (can : Continuable s) (tidy : tidied s.run ≡ s.run) (budgets : List ℕ) where
  called-tidy : tidied_at (called s budgets) ≡ called s budgets
  called-tidy = tidy-called s can budgets ∙ ap (λ (r : Run). called (stamped r s.store) budgets) tidy

  portion-same : paused (called s budgets) ≡ called s budgets
  portion-same = after-portion s can budgets ∙ called-tidy

same_next : (s : Stamped) (can : Continuable s) (tidy : tidied s.run ≡ s.run) (budgets rest : List ℕ) (end : Stamped)
    → end ≡ called (paused (called s budgets)) rest → end ≡ called s (budgets ++ rest)
same_next s can tidy budgets rest end e =
    e ∙ ap (λ (u : Stamped). called u rest) (portion-same s can tidy budgets) ∙ sym (called-append s budgets rest)

portion-tidy : (s : Stamped) (can : Continuable s) (tidy : tidied s.run ≡ s.run) (budgets : List ℕ)
    → tidied (paused (called s budgets)).run ≡ (paused (called s budgets)).run
portion-tidy s can tidy budgets =
    rw (portion-same s can tidy budgets) (ap (λ (t : Stamped). t.run) (called-tidy s can tidy budgets))

pub pausing-same : (s : Stamped) → Continuable s → tidied s.run ≡ s.run → (portions : List (List ℕ))
    → called_pausing s portions ≡ called s (joined portions)
unfolding called_pausing joined after_calls
pausing-same s can tidy [] = refl
pausing-same s can tidy (budgets ∷ portions) =
    same_next s can tidy budgets (joined portions) (called_pausing (paused (called s budgets)) portions)
    (pausing-same (paused (called s budgets)) (portion-continuable s can budgets) (portion-tidy s can tidy budgets) portions)

-- ---- the end
-- a finished run holds the root's label alone, so tidying keeps it
tidied-root : (run : Run) → HasArrays run → run.made ≡ nodes_in run.depth → take 32 (tidied run).held ≡ take 32 run.held
tidied-root run arrays e =
    rw (tidied-places run, e, finished-length run.depth) (kept-front 32 run.held (omega (arith, arrays.places_size)))

same-root : (a b : Run) → HasArrays a → HasArrays b → tidied a ≡ tidied b → b.made ≡ nodes_in b.depth → take 32 a.held ≡ take 32 b.held
unfolding tidied
same-root a b arrays-a arrays-b same e =
    let made : a.made ≡ b.made = ap (λ (r : Run). r.made) same in
    let depth : a.depth ≡ b.depth = ap (λ (r : Run). r.depth) same in
    sym (tidied-root a arrays-a (rw (made, depth) e)) ∙ ap (λ (r : Run). take 32 r.held) same ∙ tidied-root b arrays-b e

module _ (s : Stamped) (can : Continuable s) where
  finished-made : (steps (remaining_of s) s).run.made ≡ nodes_in (steps (remaining_of s) s).run.depth
  finished-made = rw (after-steps s can.goes (remaining_of s) (omega arith)).depth (all_made s can.goes)

  -- budgets that suffice: the root's label and the store are those of the run never paused, all labels made
  pub pausing-end : (portions : List (List ℕ)) → remaining_of s ≤ total (joined portions)
      → (take 32 (called_pausing s portions).run.held ≡ take 32 (steps (remaining_of s) s).run.held)
      × ((called_pausing s portions).store ≡ (steps (remaining_of s) s).store)
  pausing-end portions enough =
      let end : Stamped = steps (remaining_of s) s in
      let same : tidied_at (called_pausing s portions) ≡ tidied_at end =
      pausing-state s can portions
      ∙ ap tidied_at (calls-end run_machine s (remaining_of s) (goes_on s can.goes) (joined portions) enough) in (
        same-root (called_pausing s portions).run end.run (pausing-continuable s can portions).arrays
            (steps-arrays s can (remaining_of s) (omega arith)) (ap (λ (t : Stamped). t.run) same) finished-made,
        ap (λ (t : Stamped). t.store) same,
      )

-- ---- runs from a start
module _ (edition : ℕ) (statement : List ℕ) (n m : ℕ) (store : List ℕ) (startable : Startable edition n m (length store))
    (size : length statement ≡ 32) where
  pub reached-tidy : (k : ℕ) → k ≤ nodes_in n → tidied (steps k (at_start edition statement n m store)).run ≡ (steps k (at_start edition statement n m store)).run
  reached-tidy k few = rw (run-reached edition statement n m store startable.shallow k few) (run_after-tidy edition statement n m k)

  pub reached-continuable : (k : ℕ) → k ≤ nodes_in n → Continuable (steps k (at_start edition statement n m store))
  reached-continuable k few =
      record {
        arrays =
            rw (run-reached edition statement n m store startable.shallow k few) (run_after-arrays edition statement n m k size startable.shallow few);
        goes = continue-reached edition statement n m store startable k few;
      }

  -- a run after any labels, then called with pauses, is the run never paused
  pub pausing-reached : (k : ℕ) → k ≤ nodes_in n → (portions : List (List ℕ))
      → called_pausing (steps k (at_start edition statement n m store)) portions ≡ called (steps k (at_start edition statement n m store)) (joined portions)
  pausing-reached k few = pausing-same (steps k (at_start edition statement n m store)) (reached-continuable k few) (reached-tidy k few)

  pub pausing-start : (portions : List (List ℕ))
      → called_pausing (at_start edition statement n m store) portions ≡ called (at_start edition statement n m store) (joined portions)
  unfolding machines.steps
  pausing-start = pausing-reached 0 (omega arith)
