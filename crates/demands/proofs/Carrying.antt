-- Calls that are carried to an end: one law for labelling, opening and writing, which are machines.
use mathlib.Core.Path.{◌≡◌, refl, sym, subst}
use Prim.Native.Nat.{ℕ, ◌+◌, ◌*◌, ◌^◌, ◌≤◌, ◌<◌}
use native.Mathlib.Omega.{arith}
use mathlib.Core.List.{List}
use lib.ListN.{length}
use Rattle.base.specs.Limits.{new_edition, IsMemory, IsCount}
use Rattle.machine.specs.Machines as machines
use Rattle.machine.specs.Machines.{Machine, Goes}
use Rattle.machine.proofs.CallLaws.{calls-report, calls-done, calls-next}
use Rattle.tree.specs.Walk.{nodes_in}
use Rattle.run.specs.Steps.{Stamped, run_machine, labels_in, advanced}
use Rattle.file_head.specs.Layout.{file_size}
use Rattle.run_theory.specs.Runs.{Startable, at_start}
use Rattle.run_theory.specs.Openings.{Openable}
use Rattle.run_theory.proofs.StartLaws.{new-exists, start-done, started-done}
use Rattle.run_theory.proofs.RunLaws.{run-goes}
use Rattle.writing_theory.specs.Filed.{Writable}
use Rattle.demands.specs.Demand1.{AnEdition, CarriedOut, started_run, run_at_start, InBounds, LabellingEnds}

-- a machine that goes on from its start is carried to its end
pub carried-out :
    {S : Type 0} (machine : Machine S) (start : S) (all : ℕ) → Goes machine start all
    → CarriedOut machine.row (machines.done_in machine) (machines.advanced machine) start all
carried-out machine start all goes =
    record {
      not_refused = calls-done machine start all goes;
      made = calls-report machine start all goes;
      next = calls-next machine start all goes;
    }

-- ---- what is in bounds can be started, in an edition that exists
module _ (edition n m store : ℕ) (exists : AnEdition edition) (bounds : InBounds n m store) where
  allowed : IsMemory n m
  allowed = omega (arith, bounds.memory)

  pub startable : Startable edition n m store
  startable =
      record { exists = exists; positive = bounds.depth.0; shallow = bounds.depth.1; memory = allowed; enough = bounds.room }

  pub can-open : (leaf out : ℕ) → leaf < 2 ^ n → 32 * (n + 1) ≤ out → Openable edition n m leaf store out
  can-open leaf out inside fits =
      record { exists = exists; depth = bounds.depth; memory = allowed; store_fits = bounds.room; position = inside; out_fits = fits }

  pub can_write : (t file : ℕ) → IsCount t → file_size n t ≤ file → Writable edition n m t store file
  can_write t file count fits =
      record { exists = exists; depth = bounds.depth; memory = allowed; store_fits = bounds.room; count = count; file_fits = fits }

-- ---- labelling
pub run-at-start :
    (edition : ℕ) (statement : List ℕ) (n m : ℕ) (store : List ℕ) → run_at_start edition statement n m store ≡ at_start edition statement n m store
unfolding at_start
run-at-start edition statement n m store = refl

-- a run that is started is of the newest edition
pub run-started :
    (statement : List ℕ) (n m : ℕ) (store : List ℕ) → InBounds n m (length store)
    → started_run statement n m store ≡ run_at_start new_edition statement n m store
run-started statement n m store bounds =
    rw (started-done n m (length store) statement
    (start-done new_edition n m (length store) (startable new_edition n m (length store) new-exists bounds)))

pub labelling-ends :
    (edition : ℕ) (statement : List ℕ) (n m : ℕ) (store : List ℕ) → AnEdition edition → InBounds n m (length store)
    → LabellingEnds edition statement n m store
unfolding nodes_in run_machine
labelling-ends edition statement n m store exists bounds =
    let s : Startable edition n m (length store) = startable edition n m (length store) exists bounds in
    record {
      starts = (start-done edition n m (length store) s, run-started statement n m store bounds);
      ends =
          subst (λ (start : Stamped). CarriedOut run_machine.row labels_in advanced start (nodes_in n))
          (sym (run-at-start edition statement n m store))
          (carried-out run_machine (at_start edition statement n m store) (nodes_in n) (run-goes edition statement n m store s));
    }
