-- What is known of a writing that may be started or continued, and what a call gives by its answer.
use mathlib.Core.Path.{◌≡◌, refl, sym}
use mathlib.Core.Bool.{Bool, false}
use mathlib.Core.List.{List, ◌∷◌, ◌++◌}
use Prim.Native.Nat.{ℕ, ◌^◌, ◌≤◌, ◌<◌, min}
use borrow.Author.Tests.{ltb-false, leb-false}
use lib.Dec.{leb}
use lib.ListN.{length}
use Rattle.base.specs.Limits.{max_edition, max_depth, max_memory, max_challenges, IsEdition, IsDepth, IsCount}
use Rattle.base.specs.Row.{outside, no_edition, is_done}
use Rattle.base.proofs.RowLaws.{NoneHolds, none-holds}
use Rattle.run.specs.Rows.{start_checks, start_row, impossible}
use Rattle.run.proofs.RowLaws.{not-impossible}
use Rattle.base.proofs.Ranges.{neither}
use Rattle.machine.proofs.StepLaws as machines
use Rattle.machine.proofs.StepLaws.{done-some, done_refused}
use Rattle.opening.specs.declared.Opening.{Opening}
use Rattle.opening.specs.Rows.{nodes_anew}
use Rattle.base.proofs.Ranges.{range-of}
use Rattle.writing.specs.declared.Writing.{Writing}
use Rattle.file_head.specs.Layout.{head_row}
use Rattle.writing.specs.Rows.{file_checks, write_row, rewrite_row}
use Rattle.writing.specs.Possible.{state_outside, written_of}
use Rattle.writing.specs.Steps.{may_follow, new_writing, no_writing, started, remaining, writing_machine, steps, labels_in, advanced}
use Rattle.writing.specs.Steps.{step_blocks, blocks_over, blocks_in}

-- a start's row is that of a run's start and that of the head
pub both-done :
    (edition n m t store file : ℕ) → write_row edition n m t store file ≡ 0 → (start_row n m store ≡ 0) × (head_row edition n t file ≡ 0)
unfolding write_row start_row head_row
both-done edition n m t store file e =
    let row : List (Bool × ℕ) = (no_edition edition, 12) ∷ start_checks n m store ++ file_checks n t file in
    let none : NoneHolds row = none-holds row refl e in
    let rest = none.1 in
    (rw (rest.0, rest.1.0, rest.1.1.0), rw (none.0, rest.0, rest.1.1.1.0, rest.1.1.1.1.0))

-- what the first condition of continuing leaves
pub record Bounded (w : Writing) : Type 0 where
  pub exists : IsEdition w.opening.edition
  pub depth : IsDepth w.opening.depth
  pub memory : w.opening.memory ≤ min w.opening.depth max_memory
  pub few : w.opening.made ≤ nodes_anew w.opening.depth w.opening.memory
  pub position : w.opening.leaf < 2 ^ w.opening.depth
  pub count : IsCount w.count
  pub number : (1 ≤ w.number) × (w.number ≤ w.count)
  pub under : may_follow w ≡ false

pub state-bounds : (w : Writing) → state_outside w ≡ false → Bounded w
state-bounds w e =
    let o : Opening = w.opening in
    let n : ℕ = o.depth in
    let m : ℕ = o.memory in
    let anew : ℕ = nodes_anew n m in
    let (a, b) = neither (impossible o.edition n m o.made anew) _ e in
    let (x, d, l, k) = not-impossible o.edition n m o.made anew a in
    let (p, q) = neither (leb (2 ^ n) o.leaf) _ b in
    let (t, r) = neither (outside 1 max_challenges w.count) _ q in
    let (i, u) = neither (outside 1 w.count w.number) (may_follow w) r in
    record {
      exists = range-of 1 max_edition o.edition x;
      depth = range-of 1 max_depth n d;
      memory = ltb-false (min n max_memory) m l;
      few = ltb-false anew o.made k;
      position = leb-false (2 ^ n) o.leaf p;
      count = range-of 1 max_challenges w.count t;
      number = range-of 1 w.count w.number i;
      under = u;
    }

-- ---- what a start and a call give, by their answers
module _ (edition : ℕ) (statement root : List ℕ) (n m t : ℕ) (store file : List ℕ) where
  pub start-done :
      write_row edition n m t (length store) (length file) ≡ 0
      → new_writing edition statement root n m t store file ≡ started edition statement root n m t store file
  unfolding started
  start-done e = rw e

  pub start-refused :
      is_done (write_row edition n m t (length store) (length file)) ≡ false
      → (no_writing ≡ (started edition statement root n m t store file).writing) × (file ≡ (started edition statement root n m t store file).file)
  unfolding started
  start-refused e = (rw e, rw e)

module _ (w : Writing) (store file : List ℕ) (budget : ℕ) where
  pub labels-done :
      rewrite_row w (length store) (length file) ≡ 0 → min budget (remaining w) ≡ labels_in store (written_of w file) budget
  unfolding writing_machine
  labels-done e = sym (done-some (writing_machine store) (written_of w file) budget e)

  pub labels-refused :
      is_done (rewrite_row w (length store) (length file)) ≡ false → 0 ≡ labels_in store (written_of w file) budget
  unfolding writing_machine
  labels-refused e = sym (done_refused (writing_machine store) (written_of w file) budget e)

  pub advanced-by :
      (k : ℕ) (w' : Writing) (file' : List ℕ) → k ≡ labels_in store (written_of w file) budget
      → w' ≡ (steps store k (written_of w file)).writing → file' ≡ (steps store k (written_of w file)).file
      → (w' ≡ (advanced store (written_of w file) budget).writing) × (file' ≡ (advanced store (written_of w file) budget).file)
  advanced-by k w' file' e a b =
      let f : steps store k (written_of w file) ≡ advanced store (written_of w file) budget =
      machines.advanced-by (writing_machine store) (written_of w file) budget k e in
      (rw (← f) a, rw (← f) b)

  pub blocks-by :
      (k blocks : ℕ) → k ≡ labels_in store (written_of w file) budget → blocks ≡ blocks_over store k (written_of w file)
      → blocks ≡ blocks_in store (written_of w file) budget
  blocks-by = machines.cost-by (writing_machine store) (written_of w file) budget (step_blocks store)

  pub unchanged :
      0 ≡ labels_in store (written_of w file) budget
      → (w ≡ (advanced store (written_of w file) budget).writing) × (file ≡ (advanced store (written_of w file) budget).file)
  unchanged e = let f = machines.unchanged (writing_machine store) (written_of w file) budget (sym e) in (rw f, rw f)
