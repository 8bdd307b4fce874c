-- How long a record is: at most 1,353 bytes, a bound that is met; and what the record of a finished run is.
use mathlib.Core.Path.{◌≡◌, refl, ap, ◌∙◌}
use mathlib.Core.Bool.{false}
use mathlib.Core.List.{List, ◌++◌}
use Prim.Native.Nat.{ℕ, ◌+◌, ◌-◌, ◌^◌, ◌≤◌, ◌<◌, min}
use native.Mathlib.Omega.{arith}
use borrow.Author.Tests.{le-ltb}
use lib.Count.{ones-ones}
use lib.Dec.{lit<}
use lib.ListN.{length, take}
use lib.Seq.{take_at}
use Rattle.base.specs.Limits.{max_edition, IsEdition, max_depth, max_memory, held_size, max_record}
use Rattle.base.proofs.Ranges.{within}
use Rattle.groups.specs.Groups.{groups}
use Rattle.groups.proofs.Steps.{groups-last}
use Rattle.groups.proofs.Sizes.{length-groups-le}
use Rattle.tree.specs.Nodes.{node, root, labelling_order}
use Rattle.tree.specs.Held.{held}
use Rattle.tree.specs.Walk.{nodes_in}
use Rattle.tree.proofs.Order.{nodes_in-suc, order-place}
use Rattle.tree.proofs.HeldLaws.{held-count, held-done}
use Rattle.labelling.specs.Step.{next_node}
use Rattle.run.specs.declared.Run.{Run}
use Rattle.run.specs.Steps.{run_of, steps}
use Rattle.run.proofs.RowLaws.{Possible, possible}
use Rattle.run_theory.specs.Reached.{label_of, run_after}
use Rattle.run_theory.specs.Runs.{at_start}
use Rattle.run_theory.proofs.Step.{label-size, held-top}
use Rattle.run_theory.proofs.RunLaws.{run-reached}
use Rattle.run_record.specs.Layout.{made_groups, held_length, record_numbers, record_of, no_such_run}
use Rattle.run_record_theory.specs.Pausing.{HasArrays}
use Rattle.run_record.proofs.HeldCounts.{held_fits}
use Rattle.run_record_theory.proofs.Reading.{record-size}

-- edition, depth and memory level take a byte each, the labels made at most six
numbers-size : (edition n m made : ℕ) → Possible edition n m made → length (record_numbers edition n m made) ≡ 3 + length (groups made_groups made)
unfolding record_numbers
numbers-size edition n m made can =
    rw (groups-last 1 edition (omega arith), groups-last 1 n (omega arith), groups-last 1 m (omega arith)) (omega arith)

pub record-length : (run : Run) → HasArrays run → no_such_run run.edition run.depth run.memory run.made ≡ false
    → length (record_of run) ≤ max_record
record-length run arrays can =
    let b : Possible run.edition run.depth run.memory run.made =
    possible run.edition run.depth run.memory run.made can in
    omega (
      arith,
      record-size run arrays can,
      numbers-size run.edition run.depth run.memory run.made b,
      length-groups-le made_groups run.made,
      held_fits run.depth run.made b.depth b.made-few,
    )

-- ---- the record of a finished run: its numbers, the statement, and one label
pub finished-length : (n : ℕ) → held_length n (nodes_in n) ≡ 32
finished-length n = rw (held-done n)

pub finished-record : (run : Run) → run.made ≡ nodes_in run.depth
    → record_of run ≡ record_numbers run.edition run.depth run.memory run.made ++ run.statement ++ take 32 run.held
unfolding record_of
finished-record run e =
    let size : held_length run.depth run.made ≡ 32 = rw e (finished-length run.depth) in
    ap (λ (c : ℕ). record_numbers run.edition run.depth run.memory run.made ++ run.statement ++ take c run.held) size

-- of a run reached from a start that label is the tree's root label
pub finished-root : (edition : ℕ) (statement : List ℕ) (n m : ℕ) (store : List ℕ) → n ≤ max_depth
    → record_of (steps (nodes_in n) (at_start edition statement n m store)).run
    ≡ record_numbers edition n m (nodes_in n) ++ statement ++ label_of edition statement n root
finished-root edition statement n m store shallow =
    rw (run-reached edition statement n m store shallow (nodes_in n) (omega arith))
    (finished-record (run_after edition statement n m (nodes_in n)) refl
    ∙ ap (λ (l : List ℕ). record_numbers edition n m (nodes_in n) ++ statement ++ l)
    (ap (take 32) (held-top edition statement n n root)
    ∙ take_at (label_of edition statement n root) _ 32 (label-size edition statement n root)))

-- ---- the longest record: in a tree of depth 40 the last node of level 39 comes next, and 41 labels are held
abbrev pub longest_made : ℕ
longest_made = 2 ^ 41 - 41

longest-few : longest_made < nodes_in 40
longest-few = omega (arith, nodes_in-suc 40)

longest-next : next_node 40 root longest_made ≡ node 39 (2 ^ 39 - 1)
longest-next = order-place 39 1 root (2 ^ 39 - 1) longest_made (lit< tt) (omega (arith, ones-ones 39))

longest-held : length (held 40 longest_made) ≡ 41
unfolding labelling_order
longest-held = held-count 40 longest_made (node 39 (2 ^ 39 - 1)) longest-few longest-next ∙ ap (λ (c : ℕ). c + 2) (ones-ones 39)

pub longest-record : (edition : ℕ) (statement places : List ℕ) (m : ℕ) → IsEdition edition → length statement ≡ 32 → length places ≡ held_size → m ≤ max_memory
    → length (record_of (run_of edition statement 40 m longest_made places)) ≡ max_record
unfolding groups
longest-record edition statement places m exists a b low =
    let can : no_such_run edition 40 m longest_made ≡ false =
    rw (
      within 1 max_edition edition exists,
      le-ltb (min 40 max_memory) m low,
      le-ltb (nodes_in 40) longest_made (omega (arith, longest-few)),
    ) in
    omega (
      arith,
      record-size (run_of edition statement 40 m longest_made places) (record { statement_size = a; places_size = b }) can,
      numbers-size edition 40 m longest_made (possible edition 40 m longest_made can),
      longest-held,
    )
