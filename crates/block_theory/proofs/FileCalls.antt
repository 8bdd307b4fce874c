-- The blocks of the first k labels that a file takes are those of the first k nodes of its openings, whatever store and root are.
use mathlib.Core.Path.{◌≡◌, refl, sym, ap, ◌∙◌}
use mathlib.Core.Logic.{⊎_elim}
use mathlib.Core.List.{List, [], ◌++◌}
use Prim.Native.Nat.{ℕ, zero, suc, ◌+◌, ◌-◌, ◌*◌, ◌≤◌, ◌<◌}
use native.Mathlib.Nat.{zero-mul, suc-mul}
use native.Mathlib.Numerals.{add-one}
use native.Mathlib.Omega.{arith}
use borrow.Author.Tests.{eq-eqb, ne_eqb, lt-ltb}
use lib.ListN.{length, take, length-append}
use lib.Seq.{length-take-le, take_all, take-take, take-append-le, take-append-add}
use Rattle.base.specs.Limits.{IsDepth, IsMemory}
use Rattle.base.proofs.ChoiceLaws.{lt-or-le}
use Rattle.machine.specs.Machines as machines
use Rattle.machine.proofs.StepLaws.{steps-add, cost-add}
use Rattle.tree.specs.Nodes.{Node, order_below}
use Rattle.tree.specs.Store.{store_size}
use Rattle.tree.proofs.Order.{order-length}
use Rattle.opening_places.specs.Places.{ancestor}
use Rattle.opening.specs.declared.Opening.{Opening}
use Rattle.opening.specs.Rows.{nodes_anew}
use Rattle.opening.specs.Steps as openings
use Rattle.opening.specs.Names.{open_of}
use Rattle.run_theory.proofs.Anew.{anew-count}
use Rattle.file_head.specs.Challenge.{challenge_leaf}
use Rattle.file_head.proofs.Leaves.{challenge_leaf-small}
use Rattle.writing.specs.declared.Writing.{Writing}
use Rattle.writing.specs.Possible.{writing_of, written_of}
use Rattle.writing.specs.Steps.{Written, begun, followed, new_writing, stepped, writing_machine, steps, step_blocks, blocks_over}
use Rattle.writing.proofs.OpenLaws.{opening-after}
use Rattle.writing.proofs.StepLaws.{followed-stays}
use Rattle.writing.proofs.BlockLaws.{writing-under, blocks-under}
use Rattle.block_theory.specs.Sums.{blocks_sum, next_nodes_anew, file_nodes}
use Rattle.block_theory.proofs.Sums.{sum-append}
use Rattle.block_theory.proofs.OpeningCalls.{Labellable, opening-blocks}

-- ---- how many nodes openings have
anew-length : (n m leaf : ℕ) → length (next_nodes_anew n m leaf 0 (nodes_anew n m)) ≡ nodes_anew n m
anew-length n m leaf =
    let v : Node = ancestor n leaf m in
    length-take-le (nodes_anew n m) (order_below (n - m) v) (omega (arith, order-length (n - m) v, anew-count n m))

pub nodes-length : (edition : ℕ) (statement root : List ℕ) (n m t : ℕ) → length (file_nodes edition statement root n m t) ≡ t * nodes_anew n m
unfolding file_nodes
nodes-length edition statement root n m zero = sym (zero-mul (nodes_anew n m))
nodes-length edition statement root n m (suc t) =
    let leaf : ℕ = challenge_leaf edition n statement root (suc t) in
    length-append (file_nodes edition statement root n m t) (next_nodes_anew n m leaf 0 (nodes_anew n m))
    ∙ omega (arith, nodes-length edition statement root n m t, anew-length n m leaf, suc-mul t (nodes_anew n m))

-- the first nodes of two lists, all of the one and j of the other
sum_over :
    (n j k : ℕ) (us ws : List Node) → length us + j ≡ k → blocks_sum n (take k (us ++ ws)) ≡ blocks_sum n us + blocks_sum n (take j ws)
sum_over n j k us ws e = rw (← e, take-append-add us ws j, sum-append n us (take j ws))

module _ (edition : ℕ) (statement root : List ℕ) (n m t : ℕ) (store : List ℕ) where
  abbrev anew : ℕ
  anew = nodes_anew n m

  -- opening i as it is begun
  abbrev first : ℕ → Opening
  first i = openings.new_opening edition statement n m (challenge_leaf edition n statement root i)

  abbrev begins : ℕ → Writing
  begins i = writing_of root t i (first i)

  -- the nodes of opening i, and of the first i openings
  abbrev own : ℕ → List Node
  own i = next_nodes_anew n m (first i).leaf 0 anew

  abbrev nodes : ℕ → List Node
  nodes i = file_nodes edition statement root n m i

  nodes-size : (i : ℕ) → length (nodes i) ≡ i * anew
  nodes-size = nodes-length edition statement root n m

  -- ---- from an opening to the next
  module _ (more : 0 < anew) where
    begun-stays : (left i : ℕ) (file : List ℕ) → followed store left (written_of (begins i) file) ≡ written_of (begins i) file
    begun-stays left i file = followed-stays store left (written_of (begins i) file) (rw (ne_eqb 0 anew (omega arith)))

    -- an opening with all its labels made, not the last, is followed by the next one
    next-begun :
        (left i leaf made : ℕ) (held file : List ℕ) → 1 ≤ left → i < t → made ≡ anew
        → (followed store left (written_of (writing_of root t i (openings.opening_of edition statement n m leaf made held)) file)).writing ≡ begins (i + 1)
    unfolding followed begun
    next-begun zero i leaf made held file some few done = absurd (omega arith)
    next-begun (suc left) i leaf made held file some few done =
        rw (eq-eqb made anew done, lt-ltb i t few) (ap (λ (s : Written). s.writing) (begun-stays left (i + 1) _))

    last-label :
        (i leaf made : ℕ) (held file : List ℕ) → i < t → made + 1 ≡ anew
        → (stepped store (written_of (writing_of root t i (openings.opening_of edition statement n m leaf made held)) file)).writing ≡ begins (i + 1)
    unfolding stepped openings.stepped
    last-label i leaf made held file few done = next-begun t i leaf (made + 1) _ _ (omega arith) few done

    labels-made :
        (k i : ℕ) (file : List ℕ) → i < t → suc k ≡ anew → (steps store (suc k) (written_of (begins i) file)).writing ≡ begins (suc i)
    unfolding machines.steps writing_machine
    labels-made k i file few all =
        let s : Written = written_of (begins i) file in
        let under : (steps store k s).writing ≡ writing_of root t i (openings.opening_of edition statement n m (first i).leaf (0 + k) _) =
        writing-under store s [] k (omega arith) ∙ ap (writing_of root t i) (opening-after store (open_of (first i) []) k) in
        ap (λ (w : Writing). (stepped store (written_of w (steps store k s).file)).writing) under
        ∙ last-label i (first i).leaf (0 + k) _ (steps store k s).file few (omega arith)
        ∙ ap begins (add-one i)

    next-opening : (i : ℕ) (s : Written) → s.writing ≡ begins i → i < t → (steps store anew s).writing ≡ begins (suc i)
    next-opening i s is few =
        let all : suc (anew - 1) ≡ anew = omega arith in
        ap (λ (w : Writing). (steps store anew (written_of w s.file)).writing) is
        ∙ rw all at (labels-made (anew - 1) i s.file few all)

    -- opening i + 1 is begun once the i before it are done
    opening-begun :
        (file : List ℕ) (i : ℕ) → i < t → (steps store (i * anew) (new_writing edition statement root n m t store file)).writing ≡ begins (suc i)
    unfolding new_writing begun machines.steps
    opening-begun file zero few = rw (zero-mul anew) (ap (λ (s : Written). s.writing) (begun-stays t 1 _))
    opening-begun file (suc i) few =
        let start : Written = new_writing edition statement root n m t store file in
        rw (suc-mul i anew, ← steps-add (writing_machine store) anew (i * anew) start)
        (next-opening (suc i) (steps store (i * anew) start) (opening-begun file i (omega arith)) few)

  -- ---- any number of labels
  module _ (size : length statement ≡ 32) (depth : IsDepth n) (memory : IsMemory n m) (room : store_size m ≤ length store) where
    first-labellable : (i : ℕ) → Labellable (first i) (length store)
    first-labellable i =
        record {
          depth = depth;
          memory = memory;
          store_fits = room;
          position = challenge_leaf-small edition n statement root i (omega (arith, depth));
          statement_size = size;
          places_size = refl;
        }

    own-blocks : (i j : ℕ) (s : Written) → s.writing ≡ begins i → j ≤ anew → blocks_over store j s ≡ blocks_sum n (take j (own i))
    own-blocks i j s is few =
        ap (λ (w : Writing). blocks_over store j (written_of w s.file)) is
        ∙ blocks-under store (written_of (begins i) s.file) [] j (omega arith)
        ∙ opening-blocks store (open_of (first i) []) (first-labellable i) (omega arith) j (omega arith)
        ∙ ap (blocks_sum n) (sym (take-take j anew (order_below (n - m) (ancestor n (first i).leaf m)) few))

    module _ (file : List ℕ) where
      abbrev start : Written
      start = new_writing edition statement root n m t store file

      -- i whole openings and j labels of the next
      blocks-beyond :
          (i j k : ℕ) → blocks_over store (i * anew) start ≡ blocks_sum n (take (i * anew) (nodes i)) → 0 < anew → i < t → j ≤ anew
          → i * anew + j ≡ k → blocks_over store k start ≡ blocks_sum n (take k (nodes i ++ own (suc i)))
      blocks-beyond i j k before more few some sum =
          let all : take (i * anew) (nodes i) ≡ nodes i = take_all (i * anew) (nodes i) (omega (arith, nodes-size i)) in
          let here : blocks_over store j (steps store (i * anew) start) ≡ blocks_sum n (take j (own (suc i))) =
          own-blocks (suc i) j (steps store (i * anew) start) (opening-begun more file i few) some in
          omega (
            arith,
            rw all at before,
            here,
            rw sum at (cost-add (writing_machine store) (step_blocks store) j (i * anew) start),
            sum_over n j k (nodes i) (own (suc i)) (omega (arith, nodes-size i)),
          )

      blocks_to : (i k : ℕ) → i ≤ t → k ≤ i * anew → blocks_over store k start ≡ blocks_sum n (take k (nodes i))
      unfolding file_nodes blocks_sum machines.cost_of
      blocks_to zero k few some =
          let none : k ≡ 0 = omega (arith, zero-mul anew) in
          rw none
      blocks_to (suc i) k few some =
          ⊎_elim
          (λ (beyond : i * anew < k).
          blocks-beyond i (k - i * anew) k (blocks_to i (i * anew) (omega arith) (omega arith)) (omega (arith, suc-mul i anew)) few
          (omega (arith, suc-mul i anew)) (omega arith))
          (λ (within : k ≤ i * anew).
          blocks_to i k (omega arith) within
          ∙ ap (blocks_sum n) (sym (take-append-le k (nodes i) (own (suc i)) (omega (arith, nodes-size i)))))
          (lt-or-le (i * anew) k)

      pub file-blocks : (k : ℕ) → k ≤ t * anew → blocks_over store k start ≡ blocks_sum n (take k (nodes t))
      file-blocks k = blocks_to t k (omega arith)
