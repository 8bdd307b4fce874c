-- A run that a call does not refuse goes on to its end, whatever bytes it holds: no later call of it is refused, and what remains
-- falls by one with each label.
use mathlib.Core.Path.{◌≡◌, refl, sym, ◌∙◌}
use mathlib.Core.Bool.{false}
use mathlib.Core.List.{List, []}
use Prim.Native.Nat.{ℕ, zero, suc, ◌+◌, ◌-◌, ◌≤◌, ◌<◌}
use native.Mathlib.Nat.{add-zero}
use native.Mathlib.Numerals.{add-one}
use native.Mathlib.Omega.{arith}
use borrow.Author.Tests.{le-ltb}
use lib.Dec.{lit≤}
use lib.ListN.{length}
use Rattle.base.proofs.RowLaws.{passed}
use Rattle.machine.specs.Machines as machines
use Rattle.machine.specs.Machines.{Goes}
use Rattle.tree.specs.Nodes.{root, labelling_order}
use Rattle.tree.specs.Walk.{nodes_in}
use Rattle.tree.specs.Store.{store_size}
use Rattle.tree.proofs.Order.{tree-at}
use Rattle.labelling.specs.Step.{next_node, next_label}
use Rattle.labelling.proofs.RuleLaws.{stamp-hash}
use Rattle.run.specs.declared.Run.{Run}
use Rattle.run.specs.Rows.{impossible, continue_row}
use Rattle.run.specs.Steps.{Stamped, stepped, run_machine, steps}
use Rattle.run.proofs.RowLaws.{not-impossible, may-go-on}
use Rattle.run_theory.proofs.StoreLaws.{stored-length}

-- a state that can be still can be with another number of labels made
pub still-possible : (edition n m made made' : ℕ) → impossible edition n m made (nodes_in n) ≡ false → made' ≤ nodes_in n
    → impossible edition n m made' (nodes_in n) ≡ false
still-possible edition n m made made' e few =
    let (x, d, o, l) = not-impossible edition n m made (nodes_in n) e in
    rw (x, d, o, le-ltb (nodes_in n) made' few)

-- what a call does not refuse is possible
pub goes-possible : (run : Run) (store : ℕ) → continue_row run store ≡ 0
    → impossible run.edition run.depth run.memory run.made (nodes_in run.depth) ≡ false
unfolding continue_row
goes-possible run store e = (passed (impossible run.edition run.depth run.memory run.made (nodes_in run.depth)) 4 _ (lit≤ tt) e).0

-- a possible run with a store that is long enough is not refused
pub not-refused : (run : Run) (store : ℕ) → impossible run.edition run.depth run.memory run.made (nodes_in run.depth) ≡ false
    → store_size run.memory ≤ store → continue_row run store ≡ 0
unfolding continue_row
not-refused run store e room = rw (e, le-ltb store (store_size run.memory) room)

-- what k labels leave as it is, and how they count
pub record After (k : ℕ) (s t : Stamped) : Type 0 where
  pub statement : t.run.statement ≡ s.run.statement
  pub edition : t.run.edition ≡ s.run.edition
  pub depth : t.run.depth ≡ s.run.depth
  pub memory : t.run.memory ≡ s.run.memory
  pub made : t.run.made ≡ s.run.made + k
  pub room : length t.store ≡ length s.store

-- a new label has 32 bytes, whatever is held
pub next-size : (edition : ℕ) (statement : List ℕ) (n : ℕ) (places : List ℕ) (k : ℕ) → length (next_label edition statement n root [] places k) ≡ 32
unfolding next_label
next-size edition statement n places k = (stamp-hash edition (root.level + n) statement).hash_length _

after_none : (s : Stamped) → After 0 s s
after_none s = record { statement = refl; edition = refl; depth = refl; memory = refl; made = sym (add-zero s.run.made); room = refl }

after-step : (t : Stamped) → t.run.made < nodes_in t.run.depth → store_size t.run.memory ≤ length t.store → After 1 t (stepped t)
unfolding stepped labelling_order
after-step t few enough =
    record {
      statement = refl;
      edition = refl;
      depth = refl;
      memory = refl;
      made = refl;
      room =
          stored-length t.run.memory t.store (next_node t.run.depth root t.run.made) _ t.run.depth
          (tree-at t.run.depth t.run.made few)
          (next-size t.run.edition t.run.statement t.run.depth t.run.held t.run.made) enough;
    }

after_both : (j k : ℕ) (s t u : Stamped) → After k s t → After j t u → After (k + j) s u
after_both j k s t u a b =
    record {
      statement = b.statement ∙ a.statement;
      edition = b.edition ∙ a.edition;
      depth = b.depth ∙ a.depth;
      memory = b.memory ∙ a.memory;
      made = omega arith;
      room = b.room ∙ a.room;
    }

next-after : (k : ℕ) (s t : Stamped) → store_size s.run.memory ≤ length s.store → k < nodes_in s.run.depth - s.run.made
    → After k s t → After (suc k) s (stepped t)
next-after k s t enough few a =
    rw (add-one k) at
    (after_both 1 k s t (stepped t) a
    (after-step t (rw (a.depth, a.made) (omega arith)) (rw (a.memory, a.room) enough)))

pub steps-after : (s : Stamped) → store_size s.run.memory ≤ length s.store
    → (k : ℕ) → k ≤ nodes_in s.run.depth - s.run.made → After k s (steps k s)
unfolding run_machine machines.steps
steps-after s enough zero few = after_none s
steps-after s enough (suc k) few = next-after k s (steps k s) enough few (steps-after s enough k (omega arith))

module _ (s : Stamped) (goes : continue_row s.run (length s.store) ≡ 0) where
  pub after-steps : (k : ℕ) → k ≤ nodes_in s.run.depth - s.run.made → After k s (steps k s)
  after-steps = steps-after s (may-go-on s.run (length s.store) goes).room

  -- when none remains all labels are made
  pub all_made : (steps (nodes_in s.run.depth - s.run.made) s).run.made ≡ nodes_in s.run.depth
  all_made =
      let a : After (nodes_in s.run.depth - s.run.made) s (steps (nodes_in s.run.depth - s.run.made) s) =
      after-steps (nodes_in s.run.depth - s.run.made) (omega arith) in
      omega (arith, a.made, (may-go-on s.run (length s.store) goes).possible.made-few)

  -- after any number of labels a call is not refused
  pub still-goes : (k : ℕ) → k ≤ nodes_in s.run.depth - s.run.made → continue_row (steps k s).run (length (steps k s).store) ≡ 0
  still-goes k few =
      let a : After k s (steps k s) = after-steps k few in
      let w = may-go-on s.run (length s.store) goes in
      not-refused (steps k s).run (length (steps k s).store)
      (rw (a.edition, a.depth, a.memory)
      (still-possible s.run.edition s.run.depth s.run.memory s.run.made (steps k s).run.made
      (goes-possible s.run (length s.store) goes) (omega (arith, w.possible.made-few))))
      (rw (a.memory, a.room) w.room)

  pub goes_on : Goes run_machine s (nodes_in s.run.depth - s.run.made)
  unfolding run_machine
  goes_on =
      record {
        done = still-goes;
        left = λ k few. let a : After k s (steps k s) = after-steps k few in rw a.depth (omega arith);
      }
