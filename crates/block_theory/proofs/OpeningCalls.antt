-- The blocks that an opening's calls report are those of the nodes labelled anew in them, of every opening that a call does not refuse
-- and whatever the store holds.
use mathlib.Core.Path.{◌≡◌, refl, ◌∙◌}
use mathlib.Core.Bool.{Bool}
use mathlib.Core.List.{List}
use Prim.Native.Nat.{ℕ, zero, suc, ◌+◌, ◌-◌, ◌/◌, ◌^◌, ◌≤◌, ◌<◌, min}
use native.Mathlib.Omega.{arith}
use lib.Dec.{leb, lit≤}
use lib.ListN.{length}
use Rattle.base.specs.Limits.{max_edition, held_size, IsEdition, IsDepth, IsMemory}
use Rattle.base.specs.Row.{either}
use Rattle.base.proofs.RowLaws.{passed}
use Rattle.base.proofs.Ranges.{range-of, neither}
use Rattle.machine.specs.Machines as machines
use Rattle.machine.specs.Machines.{Goes}
use Rattle.machine.specs.Calls.{total}
use Rattle.sha256.proofs.Digests.{digest-length}
use Rattle.tree.specs.Nodes.{Node, node}
use Rattle.tree.specs.Store.{store_size}
use Rattle.labelling.specs.Step.{next_node, next_label}
use Rattle.labelling.specs.Blocks.{node_blocks}
use Rattle.labelling.proofs.HeldSize.{held-size}
use Rattle.labelling.proofs.BlockLaws.{next-blocks}
use Rattle.run.specs.Rows.{impossible}
use Rattle.run.proofs.RowLaws.{not-impossible}
use Rattle.opening_places.specs.Places.{ancestor, front}
use Rattle.opening_places.proofs.PlaceLaws.{way-inside}
use Rattle.opening_places.proofs.AboveLaws.{front_length}
use Rattle.opening.specs.declared.Opening.{Opening}
use Rattle.opening.specs.Rows.{nodes_anew, reopen_row}
use Rattle.opening.specs.Steps.{Open, stepped, opening_machine, steps, labels_in, next_blocks_of, step_blocks, blocks_over, blocks_in}
use Rattle.opening.proofs.RowLaws.{continue-ready}
use Rattle.opening.proofs.StepLaws.{anew-few}
use Rattle.run_theory.specs.Openings.{Openable}
use Rattle.run_theory.proofs.OpeningCalls.{reopen-fits}
use Rattle.run_theory.proofs.Anew.{anew-count}
use Rattle.writing.proofs.OpenLaws.{edition-kept, statement-kept, depth-kept, memory_kept, leaf-kept, made_after, anew-kept, steps-length}
use Rattle.block_theory.specs.Sums.{blocks_sum, next_nodes_anew, reported_blocks_anew}
use Rattle.block_theory.proofs.StepSums.{steps-sum, call-sum, calls-sum}

-- ---- an opening of any bytes that can be labelled over a store of so many bytes
pub record Labellable (o : Opening) (store : ℕ) : Type 0 where
  pub depth : IsDepth o.depth
  pub memory : IsMemory o.depth o.memory
  pub store_fits : store_size o.memory ≤ store
  pub position : o.leaf < 2 ^ o.depth
  pub statement_size : length o.statement ≡ 32
  pub places_size : length o.held ≡ held_size

-- the next label's blocks are its node's
label-blocks :
    (store : List ℕ) (o : Opening) → Labellable o (length store) → o.made < nodes_anew o.depth o.memory
    → next_blocks_of store o
    ≡ node_blocks o.depth (next_node (o.depth - o.memory) (ancestor o.depth o.leaf o.memory) o.made)
unfolding next_blocks_of
label-blocks store o can few =
    let n : ℕ = o.depth in
    let m : ℕ = o.memory in
    let above : m ≤ n = omega (arith, can.memory) in
    let all : m + (n - m) ≡ n = omega arith in
    let w : Node = next_node (n - m) (ancestor n o.leaf m) o.made in
    rw all at
    (next-blocks (n - m) m (o.leaf / 2 ^ (n - m)) o.made w.level w.position (omega (arith, anew-few n m o.made few)) refl
    (way-inside n o.leaf m above can.position) o.edition o.statement (front n m o.leaf store) o.held can.statement_size
    (omega (arith, can.depth)) (front_length n o.leaf m store above can.position can.store_fits m (omega arith)) can.places_size)

-- a step keeps the length of the held labels
stepped-places :
    (store : List ℕ) (s : Open) → Labellable s.opening (length store) → s.opening.made < nodes_anew s.opening.depth s.opening.memory
    → length (stepped store s).opening.held ≡ held_size
unfolding stepped next_label
stepped-places store s can few =
    let o : Opening = s.opening in
    let h : ℕ = o.depth - o.memory in
    let p : ℕ = o.leaf / 2 ^ h in
    held-size h o.memory p o.made (omega (arith, can.depth, can.memory)) (omega (arith, anew-few o.depth o.memory o.made few))
    o.held (next_label o.edition o.statement h (node o.memory p) (front o.depth o.memory o.leaf store) o.held o.made)
    can.places_size (digest-length _)

-- an opening that a call does not refuse has an edition that exists
edition-exists : (o : Opening) (store out : ℕ) → reopen_row o store out ≡ 0 → IsEdition o.edition
unfolding reopen_row
edition-exists o store out e =
    let n : ℕ = o.depth in
    let cannot : Bool = impossible o.edition n o.memory o.made (nodes_anew n o.memory) in
    let (state, _) = passed (either cannot (leb (2 ^ n) o.leaf)) 4 _ (lit≤ tt) e in
    let (can, _) = neither cannot (leb (2 ^ n) o.leaf) state in
    range-of 1 max_edition o.edition (not-impossible o.edition n o.memory o.made (nodes_anew n o.memory) can).0

-- an opening of any bytes with its output, which a call does not refuse
pub record Reopenable (store : List ℕ) (s : Open) : Type 0 where
  pub statement_size : length s.opening.statement ≡ 32
  pub places_size : length s.opening.held ≡ held_size
  pub goes : reopen_row s.opening (length store) (length s.out) ≡ 0

module _ (store : List ℕ) (s : Open) where
  abbrev n : ℕ
  n = s.opening.depth

  abbrev m : ℕ
  m = s.opening.memory

  -- the labels that remain, and the blocks of the next k
  abbrev left : ℕ
  left = nodes_anew n m - s.opening.made

  abbrev next_sum : ℕ → ℕ
  next_sum k = blocks_sum n (next_nodes_anew n m s.opening.leaf s.opening.made k)

  -- ---- several labels
  module _ (can : Labellable s.opening (length store)) where
    labellable-with :
        (k : ℕ) → length (steps store k s).opening.held ≡ held_size → Labellable (steps store k s).opening (length store)
    labellable-with k places =
        record {
          depth = rw (depth-kept store s k) can.depth;
          memory = rw (depth-kept store s k, memory_kept store s k) can.memory;
          store_fits = rw (memory_kept store s k) can.store_fits;
          position = rw (depth-kept store s k, leaf-kept store s k) can.position;
          statement_size = rw (statement-kept store s k) can.statement_size;
          places_size = places;
        }

    some_left :
        (k : ℕ) → k < left
        → (steps store k s).opening.made < nodes_anew (steps store k s).opening.depth (steps store k s).opening.memory
    some_left k few = omega (arith, made_after store s k, anew-kept store s k)

    places-after : (k : ℕ) → k ≤ left → length (steps store k s).opening.held ≡ held_size
    unfolding machines.steps opening_machine
    places-after zero few = can.places_size
    places-after (suc k) few =
        stepped-places store (steps store k s) (labellable-with k (places-after k (omega arith))) (some_left k few)

    step-blocks :
        (k : ℕ) → k < left
        → step_blocks store (steps store k s) ≡ node_blocks n (next_node (n - m) (ancestor n s.opening.leaf m) (s.opening.made + k))
    step-blocks k few =
        label-blocks store (steps store k s).opening (labellable-with k (places-after k (omega arith))) (some_left k few)
        ∙ rw (depth-kept store s k, memory_kept store s k, leaf-kept store s k, made_after store s k)

    pub opening-blocks : s.opening.made ≤ nodes_anew n m → (k : ℕ) → k ≤ left → blocks_over store k s ≡ next_sum k
    opening-blocks some =
        steps-sum (opening_machine store) (step_blocks store) s n (n - m) (ancestor n s.opening.leaf m) s.opening.made left
        (omega (arith, anew-count n m)) step-blocks

  -- ---- an opening that a call does not refuse goes on to its end, whatever bytes it holds
  module _ (goes : reopen_row s.opening (length store) (length s.out) ≡ 0) where
    few-made : s.opening.made ≤ nodes_anew n m
    few-made = (continue-ready s.opening (length store) (length s.out) goes).1

    openable : Openable s.opening.edition n m s.opening.leaf (length store) (length s.out)
    openable =
        let ready = (continue-ready s.opening (length store) (length s.out) goes).0 in
        record {
          exists = edition-exists s.opening (length store) (length s.out) goes;
          depth = (ready.possible.some, ready.possible.deep);
          memory = omega (arith, ready.possible.above, ready.possible.kept);
          store_fits = ready.room;
          position = ready.possible.inside;
          out_fits = ready.out_room;
        }

    still-goes : (k : ℕ) → k ≤ left → reopen_row (steps store k s).opening (length store) (length (steps store k s).out) ≡ 0
    still-goes k few =
        let size : length (steps store k s).out ≡ length s.out =
        steps-length store s k (omega (arith, few-made)) openable.depth.0 openable.out_fits in
        reopen-fits (steps store k s).opening (length store) (length (steps store k s).out)
        (rw (edition-kept store s k, depth-kept store s k, memory_kept store s k, leaf-kept store s k, size) openable)
        (omega (arith, made_after store s k, anew-kept store s k, few-made))

    pub goes_on : Goes (opening_machine store) s left
    unfolding opening_machine
    goes_on = record { done = still-goes; left = λ k few. rw (anew-kept store s k, made_after store s k) (omega arith) }

  -- ---- calls
  module _ (can : Reopenable store s) where
    labellable : Labellable s.opening (length store)
    labellable =
        let fits = openable can.goes in
        record {
          depth = fits.depth;
          memory = fits.memory;
          store_fits = fits.store_fits;
          position = fits.position;
          statement_size = can.statement_size;
          places_size = can.places_size;
        }

    sums : (k : ℕ) → k ≤ left → blocks_over store k s ≡ next_sum k
    sums = opening-blocks labellable (few-made can.goes)

    pub opening-call : (budget : ℕ) → blocks_in store s budget ≡ next_sum (labels_in store s budget)
    opening-call = call-sum (opening_machine store) (step_blocks store) s left (goes_on can.goes) next_sum sums

    pub opening-calls : (budgets : List ℕ) → reported_blocks_anew store s budgets ≡ next_sum (min (total budgets) left)
    opening-calls = calls-sum (opening_machine store) (step_blocks store) s left (goes_on can.goes) next_sum sums
