-- An opening is carried to its end whatever the store holds: no step changes its numbers but the count, or the output's length.
use mathlib.Core.Path.{◌≡◌, refl, ◌∙◌}
use Prim.Native.Nat.{ℕ, zero, suc, ◌+◌, ◌-◌, ◌*◌, ◌/◌, ◌^◌, ◌≤◌, ◌<◌}
use native.Mathlib.Numerals.{add-one}
use native.Mathlib.Omega.{arith}
use mathlib.Core.Bool.{Bool, true, false}
use mathlib.Core.List.{List}
use lib.Dec.{eqb}
use lib.ListN.{length, drop, length-drop}
use lib.Seq.{length-take-le}
use borrow.Author.Tests.{eqb-true}
use Rattle.base.specs.Limits.{held_size}
use Rattle.base.specs.Choice.{pick}
use Rattle.base.specs.Bytes.{zeros, written}
use Rattle.base.proofs.Copying.{length-written}
use Rattle.machine.specs.Machines as machines
use Rattle.tree.specs.Nodes.{Node, node, same_node, InTree}
use Rattle.tree.specs.Store.{slot, store_size}
use Rattle.tree.specs.Walk.{nodes_in}
use Rattle.tree.specs.Labels.{Label}
use Rattle.tree.proofs.Slots.{slot-inside}
use Rattle.tree.specs.Openings.{opening_size}
use Rattle.labelling.specs.Step.{next_node, next_label, held_with}
use Rattle.sha256.proofs.Digests.{digest-length}
use Rattle.labelling.proofs.OneStep.{next_level}
use Rattle.opening.specs.Rows.{nodes_anew, reopen_row}
use Rattle.opening_places.specs.Places.{label_in, ancestor, beside, placed, copied, copied_all, front}
use Rattle.opening.specs.Steps.{Open, opening_of, stepped, steps, opening_machine}
use Rattle.opening.specs.Names.{open_of}
use Rattle.opening.proofs.StepLaws.{anew-few, next-below}
use Rattle.run_theory.specs.Openings.{Openable}
use Rattle.run_theory.proofs.Anew.{beside-inside}
use Rattle.run_theory.proofs.OpeningCalls.{open-fits, reopen-fits, started-fits, started_out-fits}
use Rattle.demands.specs.Demand1.{AnEdition, started_opening, InBounds, OpeningEnds}
use Rattle.demands.proofs.Carrying.{carried-out, can-open}

-- ---- lengths
-- a label put in its place
pub length-placed :
    (n leaf : ℕ) (out : List ℕ) (w : Node) (label : Label) → 1 ≤ w.level → w.level ≤ n → opening_size n ≤ length out → length label ≡ 32
    → length (placed n leaf out w label) ≡ length out
unfolding placed
length-placed n leaf out w label low high fits size =
    go (same_node w (node n leaf)) (same_node w (beside n leaf w.level))
  where
    go :
        (s t : Bool) → length (pick s (written out 0 label) (pick t (written out (32 * (n - w.level + 1)) label) out)) ≡ length out
    go true t = length-written out 0 label (omega arith)
    go false true = length-written out (32 * (n - w.level + 1)) label (omega arith)
    go false false = refl

pub next-size :
    (edition : ℕ) (statement : List ℕ) (h : ℕ) (v : Node) (aboves held : List ℕ) (k : ℕ)
    → length (next_label edition statement h v aboves held k) ≡ 32
unfolding next_label
next-size edition statement h v aboves held k = digest-length _

stored-size : (store : List ℕ) (m : ℕ) (w : Node) → store_size m ≤ length store → InTree m w → length (label_in store w) ≡ 32
stored-size store m w enough in_tree = length-take-le 32 (drop (slot w) store) (rw length-drop (omega (arith, slot-inside m w in_tree)))

module _
    (n m leaf : ℕ) (store : List ℕ) (deep : 1 ≤ n) (le : m ≤ n) (inside : leaf < 2 ^ n) (enough : store_size m ≤ length store) (out : List ℕ)
    (fits : opening_size n ≤ length out) where
  length-copied : (l : ℕ) → l ≤ m → length (copied n leaf store out l) ≡ length out
  unfolding copied
  length-copied zero small = refl
  length-copied (suc l) small =
      let before : length (copied n leaf store out l) ≡ length out = length-copied l (omega arith) in
      let w : Node = beside n leaf (suc l) in
      length-placed n leaf (copied n leaf store out l) w (label_in store w) (omega arith) (omega arith) (omega arith)
      (stored-size store m w enough (small, beside-inside n leaf l inside (omega arith)))
      ∙ before

  pub length-copied-all : length (copied_all n m leaf store out) ≡ length out
  unfolding copied_all
  length-copied-all = go (eqb m n) refl
    where
      go :
          (t : Bool) → eqb m n ≡ t
          → length
          (pick t (placed n leaf (copied n leaf store out m) (node n leaf) (label_in store (node n leaf)))
          (copied n leaf store out m)) ≡ length out
      go true e =
          let before : length (copied n leaf store out m) ≡ length out = length-copied m (omega arith) in
          let same : m ≡ n = eqb-true m n e in
          length-placed n leaf (copied n leaf store out m) (node n leaf) (label_in store (node n leaf)) deep (omega arith) (omega arith)
          (stored-size store m (node n leaf) enough (omega arith, inside))
          ∙ before
      go false e = length-copied m (omega arith)

-- ---- the state after k labels
pub record OpeningAt (edition : ℕ) (statement : List ℕ) (n m leaf size k : ℕ) (s : Open) : Type 0 where
  pub held : List ℕ
  pub out : List ℕ
  pub is : s ≡ open_of (opening_of edition statement n m leaf k held) out
  pub length : length out ≡ size

pub opening-more :
    (edition : ℕ) (statement : List ℕ) (n m leaf size : ℕ) (store : List ℕ) (k : ℕ) (s : Open) → m ≤ n → opening_size n ≤ size → k < nodes_anew n m
    → OpeningAt edition statement n m leaf size k s → OpeningAt edition statement n m leaf size (suc k) (stepped store s)
unfolding stepped
opening-more edition statement n m leaf size store k s le fits few at =
    let h : ℕ = n - m in
    let v : Node = ancestor n leaf m in
    let w : Node = next_node h v k in
    let label : Label = next_label edition statement h v (front n m leaf store) at.held k in
    let small : k + 1 < nodes_in h = anew-few n m k few in
    let lower : m < w.level = next-below h k v w small refl in
    let inside : (m ≤ w.level) × (w.level ≤ m + h) = next_level h m (leaf / 2 ^ (n - m)) k w.level w.position (omega arith) refl in
    record {
      held = held_with h v at.held w label;
      out = placed n leaf at.out w label;
      is = rw (at.is, ← add-one k);
      length =
          length-placed n leaf at.out w label (omega arith) (omega (arith, inside.1)) (omega (arith, at.length))
          (next-size edition statement h v (front n m leaf store) at.held k)
          ∙ at.length;
    }

module _
    (edition : ℕ) (statement : List ℕ) (n m leaf : ℕ) (store out : List ℕ) (exists : AnEdition edition)
    (bounds : InBounds n m (length store)) (inside : leaf < 2 ^ n) (fits : 32 * (n + 1) ≤ length out) where
  openable : Openable edition n m leaf (length store) (length out)
  openable = can-open edition n m (length store) exists bounds leaf (length out) inside fits

  abbrev start : Open
  start = started_opening edition statement n m leaf store out

  start-at : OpeningAt edition statement n m leaf (length out) 0 start
  start-at =
      record {
        held = zeros held_size;
        out = copied_all n m leaf store out;
        is = rw (started-fits edition statement n m leaf (length store) (length out) openable, started_out-fits edition n m leaf store out openable);
        length = length-copied-all n m leaf store bounds.depth.0 (omega (arith, bounds.memory)) inside bounds.room out fits;
      }

  steps-at : (k : ℕ) → k ≤ nodes_anew n m → OpeningAt edition statement n m leaf (length out) k (steps store k start)
  unfolding machines.steps opening_machine
  steps-at zero small = start-at
  steps-at (suc k) small =
      opening-more edition statement n m leaf (length out) store k (steps store k start) (omega (arith, bounds.memory)) fits small (steps-at k (omega arith))

  goes_on : (k : ℕ) → k ≤ nodes_anew n m → reopen_row (steps store k start).opening (length store) (length (steps store k start).out) ≡ 0
  goes_on k small =
      let at : OpeningAt edition statement n m leaf (length out) k (steps store k start) = steps-at k small in
      rw (at.is, at.length)
      (reopen-fits (opening_of edition statement n m leaf k at.held) (length store) (length out) openable small)

  left_at :
      (k : ℕ) → k ≤ nodes_anew n m
      → nodes_anew (steps store k start).opening.depth (steps store k start).opening.memory - (steps store k start).opening.made
      ≡ nodes_anew n m - k
  left_at k small = rw (steps-at k small).is

  pub opening-ends : OpeningEnds edition statement n m leaf store out
  unfolding opening_machine
  opening-ends =
      record {
        starts = open-fits edition n m leaf (length store) (length out) openable;
        ends = carried-out (opening_machine store) start (nodes_anew n m) (record { done = goes_on; left = left_at });
      }
