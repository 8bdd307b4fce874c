-- What is known of a run that may be started or continued, and of a row that begins with a start's checks.
use mathlib.Core.Path.{◌≡◌, refl, sym, ap, ◌∙◌}
use mathlib.Core.Bool.{Bool, false}
use mathlib.Core.List.{List, ◌++◌}
use Prim.Native.Nat.{ℕ, ◌-◌, ◌≤◌, min}
use borrow.Author.Tests.{ltb-false}
use lib.Dec.{ltb, lit≤}
use lib.ListN.{length}
use Rattle.base.specs.Limits.{max_depth, max_memory, max_edition, IsEdition, IsDepth}
use Rattle.base.specs.declared.refusal.Refusal.{Refusal}
use Rattle.std.specs.Prelude.{Result, Ok, Err, IsErrAnd}
use Rattle.base.specs.Number.{number_of, outcome_number}
use Rattle.base.specs.Row.{first_of, outside, either, is_done, memory_over, no_edition}
use Rattle.base.proofs.Ranges.{range-of, depth-inside, memory-inside, neither}
use Rattle.base.proofs.RowLaws.{passed, none-holds, row-refused, row-passed, not_done, refused-number}
use Rattle.machine.proofs.StepLaws as machines
use Rattle.machine.proofs.StepLaws.{done-some, done_refused}
use Rattle.tree.specs.Walk.{nodes_in}
use Rattle.tree.specs.Store.{store_size}
use Rattle.run.specs.declared.Run.{Run}
use Rattle.run.specs.Rows.{start_checks, impossible, start_row, continue_row}
use Rattle.run.specs.Steps.{stamped, steps, labels_in, step_blocks, blocks_over, blocks_in, advanced, run_machine}

-- a refusal that `?` hands on keeps its number
pub handed-on : {A : Type 0} (o : Result A Refusal) (r : Refusal) → IsErrAnd o (λ e. e ≡ r) → outcome_number o ≡ number_of r
handed-on (Ok value) r e = absurd e
handed-on (Err why) r e = ap number_of e

module _ (n m store : ℕ) where
  pub start-depth : start_row n m store ≡ 0 → IsDepth n
  unfolding start_row
  start-depth e = range-of 1 max_depth n (none-holds (start_checks n m store) refl e).0

  -- a row that goes on with more conditions: refused by a start's, or left to the others
  pub start-refuses : {A : Type 0} (o : Result A Refusal) (r : Refusal) (more : List (Bool × ℕ)) → outcome_number o ≡ start_row n m store → o ≡ Err r
      → number_of r ≡ first_of (start_checks n m store ++ more)
  unfolding start_row
  start-refuses o r more e is =
      let number : number_of r ≡ start_row n m store = refused-number o (start_row n m store) r e is in
      number ∙ sym (row-refused (start_checks n m store) more (not_done r (start_row n m store) number))

  pub start-passes : (more : List (Bool × ℕ)) (number : ℕ) → start_row n m store ≡ 0 → number ≡ first_of more
      → number ≡ first_of (start_checks n m store ++ more)
  unfolding start_row
  start-passes more number done e = e ∙ sym (row-passed (start_checks n m store) more (none-holds (start_checks n m store) refl done))

-- a state that is not impossible: none of its four conditions holds
pub not-impossible : (edition n m made all : ℕ) → impossible edition n m made all ≡ false
    → (no_edition edition ≡ false) × (outside 1 max_depth n ≡ false) × (memory_over n m ≡ false) × (ltb all made ≡ false)
not-impossible edition n m made all e =
    let (x, g) = neither (no_edition edition) (either (outside 1 max_depth n) (either (memory_over n m) (ltb all made))) e in
    let (d, f) = neither (outside 1 max_depth n) (either (memory_over n m) (ltb all made)) g in
    let (o, l) = neither (memory_over n m) (ltb all made) f in
    (x, d, o, l)

-- a run that can be
pub record Possible (edition n m made : ℕ) : Type 0 where
  pub exists : IsEdition edition
  pub depth : n ≤ max_depth
  pub memory : m ≤ max_memory
  pub made-few : made ≤ nodes_in n

pub possible : (edition n m made : ℕ) → impossible edition n m made (nodes_in n) ≡ false → Possible edition n m made
possible edition n m made e =
    let (x, d, o, l) = not-impossible edition n m made (nodes_in n) e in
    record {
      exists = range-of 1 max_edition edition x;
      depth = depth-inside n d;
      memory = memory-inside n m o;
      made-few = ltb-false (nodes_in n) made l;
    }

pub record Whole (run : Run) (store : ℕ) : Type 0 where
  pub possible : Possible run.edition run.depth run.memory run.made
  pub room : store_size run.memory ≤ store

pub may-go-on : (run : Run) (store : ℕ) → continue_row run store ≡ 0 → Whole run store
unfolding continue_row
may-go-on run store e =
    let (a, f) = passed (impossible run.edition run.depth run.memory run.made (nodes_in run.depth)) 4 _ (lit≤ tt) e in
    let (b, g) = passed (ltb store (store_size run.memory)) 3 0 (lit≤ tt) f in
    record {
      possible = possible run.edition run.depth run.memory run.made a;
      room = ltb-false store (store_size run.memory) b;
    }

-- what a call gives, by its answer
module _ (run : Run) (store : List ℕ) (budget : ℕ) where
  pub labels-done : continue_row run (length store) ≡ 0 → min budget (nodes_in run.depth - run.made) ≡ labels_in (stamped run store) budget
  unfolding run_machine
  labels-done e = sym (done-some run_machine (stamped run store) budget e)

  pub labels-refused : is_done (continue_row run (length store)) ≡ false → 0 ≡ labels_in (stamped run store) budget
  unfolding run_machine
  labels-refused e = sym (done_refused run_machine (stamped run store) budget e)

  pub advanced-by : (k : ℕ) (run' : Run) (store' : List ℕ) → k ≡ labels_in (stamped run store) budget
      → run' ≡ (steps k (stamped run store)).run → store' ≡ (steps k (stamped run store)).store
      → (run' ≡ (advanced (stamped run store) budget).run) × (store' ≡ (advanced (stamped run store) budget).store)
  advanced-by k run' store' e a b =
      let f : steps k (stamped run store) ≡ advanced (stamped run store) budget = machines.advanced-by run_machine (stamped run store) budget k e in
      (rw (← f) a, rw (← f) b)

  pub blocks-by : (k blocks : ℕ) → k ≡ labels_in (stamped run store) budget → blocks ≡ blocks_over k (stamped run store)
      → blocks ≡ blocks_in (stamped run store) budget
  blocks-by = machines.cost-by run_machine (stamped run store) budget step_blocks

  pub unchanged : 0 ≡ labels_in (stamped run store) budget
      → (run ≡ (advanced (stamped run store) budget).run) × (store ≡ (advanced (stamped run store) budget).store)
  unchanged e = let f = machines.unchanged run_machine (stamped run store) budget (sym e) in (rw f, rw f)
