-- What is known of an opening that may be started or continued, and what a call gives by its answer.
use mathlib.Core.Path.{◌≡◌, sym}
use mathlib.Core.Bool.{false}
use mathlib.Core.List.{List}
use Prim.Native.Nat.{ℕ, ◌-◌, ◌^◌, ◌≤◌, min}
use native.Mathlib.Omega.{arith}
use borrow.Author.Tests.{ltb-false, leb-false}
use lib.Dec.{ltb, leb, lit≤}
use lib.ListN.{length}
use Rattle.base.specs.Limits.{max_depth}
use Rattle.base.specs.Row.{outside, either, is_done, memory_over}
use Rattle.machine.proofs.StepLaws as machines
use Rattle.machine.proofs.StepLaws.{done-some, done_refused}
use Rattle.tree.specs.Walk.{nodes_in}
use Rattle.tree.specs.Store.{store_size}
use Rattle.tree.specs.Openings.{opening_size}
use Rattle.run.specs.Rows.{impossible}
use Rattle.run.proofs.RowLaws.{not-impossible}
use Rattle.base.proofs.RowLaws.{passed}
use Rattle.base.proofs.Ranges.{depth-some, depth-inside, memory-below, memory-inside, neither}
use Rattle.opening.specs.declared.Opening.{Opening}
use Rattle.opening.specs.Rows.{nodes_anew, open_row, reopen_row}
use Rattle.opening_places.specs.Possible.{Possible}
use Rattle.opening.specs.Names.{open_of}
use Rattle.opening_places.specs.Places.{copied_all}
use Rattle.opening.specs.Steps.{new_opening, no_opening, started, started_out, opening_machine, steps, labels_in, step_blocks, blocks_over, blocks_in, advanced}

-- the number of nodes, as it is computed
pub anew-nodes : (n m : ℕ) → nodes_in (n - m) - 1 ≡ nodes_anew n m
unfolding nodes_in
anew-nodes n m = omega arith

pub possible : (n m leaf : ℕ) → outside 1 max_depth n ≡ false → memory_over n m ≡ false → leb (2 ^ n) leaf ≡ false → Possible n m leaf
possible n m leaf d o l =
    record {
      some =
          depth-some n d;
      deep = depth-inside n d;
      above = memory-below n m o;
      kept = memory-inside n m o;
      inside = leb-false
          (2 ^ n) leaf l;
    }

-- an opening that can be, with a store and an output that are long enough
pub record Ready (n m leaf store out : ℕ) : Type 0 where
  pub possible : Possible n m leaf
  pub room : store_size m ≤ store
  pub out_room : opening_size n ≤ out

-- what is known if the state can be continued
pub can-be : (edition n m made leaf : ℕ) → either (impossible edition n m made (nodes_anew n m)) (leb (2 ^ n) leaf) ≡ false
    → Possible n m leaf × (made ≤ nodes_anew n m)
can-be edition n m made leaf e =
    let (i, l) = neither (impossible edition n m made (nodes_anew n m)) (leb (2 ^ n) leaf) e in
    let (x, d, o, k) = not-impossible edition n m made (nodes_anew n m) i in
    (possible n m leaf d o l, ltb-false (nodes_anew n m) made k)

-- what a row of 0 tells
pub continue-ready : (o : Opening) (store out : ℕ) → reopen_row o store out ≡ 0
    → Ready o.depth o.memory o.leaf store out × (o.made ≤ nodes_anew o.depth o.memory)
unfolding reopen_row
continue-ready o store out e =
    let n = o.depth in
    let m = o.memory in
    let (i, e₁) = passed (either (impossible o.edition n m o.made (nodes_anew n m)) (leb (2 ^ n) o.leaf)) 4 _ (lit≤ tt) e in
    let (s, e₂) = passed (ltb store (store_size m)) 3 _ (lit≤ tt) e₁ in
    let (p, e₃) = passed (ltb out (opening_size n)) 7 0 (lit≤ tt) e₂ in
    let (q, k) = can-be o.edition n m o.made o.leaf i in
    (record { possible = q; room = ltb-false store (store_size m) s; out_room = ltb-false out (opening_size n) p }, k)

module _ (edition : ℕ) (statement : List ℕ) (n m leaf : ℕ) (store out : List ℕ) where
  pub start-done : open_row edition n m leaf (length store) (length out) ≡ 0
      → (new_opening edition statement n m leaf ≡ started edition statement n m leaf (length store) (length out))
      × (copied_all n m leaf store out ≡ started_out edition n m leaf store out)
  unfolding started started_out
  start-done e = (rw e, rw e)

  pub start-refused : is_done (open_row edition n m leaf (length store) (length out)) ≡ false
      → (no_opening ≡ started edition statement n m leaf (length store) (length out)) × (out ≡ started_out edition n m leaf store out)
  unfolding started started_out
  start-refused e = (rw e, rw e)

module _ (o : Opening) (store out : List ℕ) (budget : ℕ) where
  pub labels-done : reopen_row o (length store) (length out) ≡ 0
      → min budget (nodes_anew o.depth o.memory - o.made) ≡ labels_in store (open_of o out) budget
  unfolding opening_machine
  labels-done e = sym (done-some (opening_machine store) (open_of o out) budget e)

  pub labels-refused : is_done (reopen_row o (length store) (length out)) ≡ false → 0 ≡ labels_in store (open_of o out) budget
  unfolding opening_machine
  labels-refused e = sym (done_refused (opening_machine store) (open_of o out) budget e)

  pub advanced-by : (k : ℕ) (o' : Opening) (out' : List ℕ) → k ≡ labels_in store (open_of o out) budget
      → o' ≡ (steps store k (open_of o out)).opening → out' ≡ (steps store k (open_of o out)).out
      → (o' ≡ (advanced store (open_of o out) budget).opening) × (out' ≡ (advanced store (open_of o out) budget).out)
  advanced-by k o' out' e a b =
      let f : steps store k (open_of o out) ≡ advanced store (open_of o out) budget =
      machines.advanced-by (opening_machine store) (open_of o out) budget k e in
      (rw (← f) a, rw (← f) b)

  pub blocks-by : (k blocks : ℕ) → k ≡ labels_in store (open_of o out) budget → blocks ≡ blocks_over store k (open_of o out)
      → blocks ≡ blocks_in store (open_of o out) budget
  blocks-by = machines.cost-by (opening_machine store) (open_of o out) budget (step_blocks store)

  pub unchanged : 0 ≡ labels_in store (open_of o out) budget
      → (o ≡ (advanced store (open_of o out) budget).opening) × (out ≡ (advanced store (open_of o out) budget).out)
  unchanged e = let f = machines.unchanged (opening_machine store) (open_of o out) budget (sym e) in (rw f, rw f)
