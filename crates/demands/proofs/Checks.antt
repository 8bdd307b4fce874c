-- Document 01's rows, each over the definition that a contract cites: the number answered, and what a refused call leaves.
use mathlib.Core.Path.{◌≡◌, refl}
use mathlib.Core.Logic.{◌⊎◌, inl, inr, ⊎_elim}
use Prim.Native.Nat.{ℕ, ◌+◌, ◌-◌, ◌*◌, ◌^◌, ◌≤◌, ◌<◌, min}
use native.Mathlib.Omega.{arith}
use mathlib.Core.Bool.{Bool, true, false, not}
use mathlib.Core.List.{List, [], ◌∷◌}
use lib.Dec.{ltb, leb, eqb}
use lib.ListN.{length, get_or}
use borrow.Author.Tests.{ltb-true, ltb-false, leb-true, leb-false}
use Rattle.base.specs.Choice.{pick, both, every}
use Rattle.base.specs.Bytes.{zeros}
use Rattle.base.specs.Limits.{max_edition, max_memory, max_hashed}
use Rattle.base.specs.Row.{outside, either, memory_over, no_edition}
use Rattle.base.proofs.RowLaws.{some-refused}
use Rattle.sha256.specs.declared.Hash.{Hash}
use Rattle.sha256.specs.Portions.{new_hash, too_many, update_row, update_state, finish_row, finish_digest, digest_row, digest_answer}
use Rattle.machine.specs.Machines.{Machine, done_in, advanced}
use Rattle.machine.proofs.StepLaws.{done_refused, advanced-refused}
use Rattle.tree.specs.Walk.{nodes_in}
use Rattle.tree.specs.Store.{store_size}
use Rattle.tree.specs.Openings.{LeafRight, RootRight, opening_size}
use Rattle.labelling.specs.Rule.{stamp_rule}
use Rattle.run.specs.declared.Run.{Run}
use Rattle.run.specs.Rows.{impossible, start_row, continue_row}
use Rattle.run.specs.Steps as runs
use Rattle.run.specs.Steps.{Stamped, stamped, run_machine}
use Rattle.opening.specs.Steps.{Open, opening_machine}
use Rattle.opening.specs.Names.{open_of}
use Rattle.opening.specs.declared.Opening.{Opening}
use Rattle.opening.specs.Rows.{nodes_anew, open_row, reopen_row}
use Rattle.opening.specs.Steps as openings
use Rattle.opening_check.specs.OpeningCheck.{given_by, leaf_wrong, root_wrong, opening_row}
use Rattle.file_head.specs.Challenge.{challenge_row, challenged}
use Rattle.file_head.specs.Layout.{file_size, head_row, head_written}
use Rattle.chain_theory.specs.Ways.{chain}
use Rattle.chain_theory.specs.Planning.{is_leaf}
use Rattle.chain.specs.PlanRow.{plan_row, planned_count, planned_list}
use Rattle.writing.specs.declared.Writing.{Writing}
use Rattle.writing.specs.Rows.{write_row, rewrite_row}
use Rattle.writing.specs.Steps as writings
use Rattle.writing.specs.Steps.{writing_machine}
use Rattle.demands.specs.Rows.{IsFirst, Outside, MemoryOver, NoEdition, Impossible, planning_chain, ImpossibleFile}
use Rattle.run_theory.proofs.Idle.{run_none, run-same, opening-none, opening-same}
use Rattle.demands.specs.Demand1.{HashingPortion, HashingEnd, HashingWhole, StartingRun, ContinuingRun, StartingOpening, ContinuingOpening}
use Rattle.demands.specs.Demand1.{AChallenge, WritingHead, OneOpening, PlanningChain, StartingFile, ContinuingFile}
use Rattle.demands.proofs.Decisions.{Decides, decides-outside, decides-lt, decides-le, decides_eq, decides-differ, decides-both}
use Rattle.demands.proofs.Decisions.{decides-over, decides-either, decides-some, decides-under, Decided, is-first}

-- ---- conditions that stand in several rows
pub decides-edition : (edition : ℕ) → Decides (no_edition edition) (NoEdition edition)
decides-edition edition = decides-outside 1 max_edition edition

abbrev pub exists : ℕ → Decided
exists edition =
    record { test = no_edition edition; condition = NoEdition edition; decides = decides-edition edition; number = 12 }

abbrev pub depth : ℕ → Decided
depth n = record { test = outside 1 40 n; condition = Outside 1 40 n; decides = decides-outside 1 40 n; number = 1 }

decides-memory : (n m : ℕ) → Decides (memory_over n m) (MemoryOver n m)
decides-memory n m =
    record { yes = λ e. omega (arith, ltb-true (min n max_memory) m e); no = λ e over. omega (arith, ltb-false (min n max_memory) m e) }

abbrev memory : ℕ → ℕ → Decided
memory n m = record { test = memory_over n m; condition = MemoryOver n m; decides = decides-memory n m; number = 2 }

abbrev room : ℕ → ℕ → Decided
room m store =
    record {
      test = ltb store (store_size m);
      condition = store < 32 * (2 ^ (m + 1) - 1);
      decides = decides-lt store (store_size m);
      number = 3;
    }

abbrev position : ℕ → ℕ → Decided
position n leaf = record { test = leb (2 ^ n) leaf; condition = 2 ^ n ≤ leaf; decides = decides-le (2 ^ n) leaf; number = 6 }

abbrev output : ℕ → ℕ → Decided
output n out =
    record { test = ltb out (opening_size n); condition = out < 32 * (n + 1); decides = decides-lt out (opening_size n); number = 7 }

abbrev whole_file : ℕ → ℕ → ℕ → Decided
whole_file n t out =
    record { test = ltb out (file_size n t); condition = out < file_size n t; decides = decides-lt out (file_size n t); number = 7 }

abbrev pub count : ℕ → Decided
count t = record { test = outside 1 200 t; condition = Outside 1 200 t; decides = decides-outside 1 200 t; number = 8 }

pub decides-impossible :
    (edition n m made all : ℕ) → Decides (impossible edition n m made all) (Impossible edition n m made all)
decides-impossible edition n m made all =
    decides-either (decides-edition edition)
    (decides-either (decides-outside 1 40 n) (decides-either (decides-memory n m) (decides-lt all made)))

abbrev pub impossible_run : Run → Decided
impossible_run run =
    record {
      test = impossible run.edition run.depth run.memory run.made (nodes_in run.depth);
      condition = Impossible run.edition run.depth run.memory run.made (nodes_in run.depth);
      decides = decides-impossible run.edition run.depth run.memory run.made (nodes_in run.depth);
      number = 4;
    }

-- ---- runs
pub starting-run : (statement : List ℕ) (n m store : ℕ) → StartingRun statement n m store
unfolding start_row runs.started
starting-run statement n m store =
    record { answer = is-first (depth n ∷ memory n m ∷ room m store ∷ []); refused = λ e. rw (some-refused _ e) }

-- a refused call makes no step and changes nothing
refused-same :
    {S : Type 0} (machine : Machine S) (s : S) (budget : ℕ) → 1 ≤ machine.row s
    → (done_in machine s budget ≡ 0) × (advanced machine s budget ≡ s)
refused-same machine s budget e =
    let no = some-refused (machine.row s) e in
    (done_refused machine s budget no, advanced-refused machine s budget no)

-- budget 0, or nothing remains
run-idle : (s : Stamped) (budget : ℕ) → (budget ≡ 0) ⊎ (2 ^ (s.run.depth + 1) - 1 ≤ s.run.made)
    → (runs.labels_in s budget ≡ 0) × (runs.advanced s budget ≡ s)
unfolding nodes_in
run-idle s budget h =
    let none : (budget ≡ 0) ⊎ (nodes_in s.run.depth - s.run.made ≡ 0) =
    ⊎_elim (λ e. inl e) (λ (d : 2 ^ (s.run.depth + 1) - 1 ≤ s.run.made). inr (omega arith)) h in
    (run_none s budget none, run-same s budget none)

opening-idle : (store : List ℕ) (s : Open) (budget : ℕ)
    → (budget ≡ 0) ⊎ (nodes_anew s.opening.depth s.opening.memory ≤ s.opening.made)
    → (openings.labels_in store s budget ≡ 0) × (openings.advanced store s budget ≡ s)
opening-idle store s budget h =
    let none : (budget ≡ 0) ⊎ (nodes_anew s.opening.depth s.opening.memory - s.opening.made ≡ 0) =
    ⊎_elim (λ e. inl e) (λ (d : nodes_anew s.opening.depth s.opening.memory ≤ s.opening.made). inr (omega arith)) h in
    (opening-none store s budget none, opening-same store s budget none)

pub continuing-run : (run : Run) (store : List ℕ) (budget : ℕ) → ContinuingRun run store budget
unfolding continue_row nodes_in run_machine
continuing-run run store budget =
    record {
      answer = is-first (impossible_run run ∷ room run.memory (length store) ∷ []);
      refused = refused-same run_machine (stamped run store) budget;
      idle = run-idle (stamped run store) budget;
    }

-- ---- openings
pub starting-opening :
    (edition : ℕ) (statement : List ℕ) (n m leaf : ℕ) (store out : List ℕ) → StartingOpening edition statement n m leaf store out
unfolding open_row openings.started openings.started_out
starting-opening edition statement n m leaf store out =
    record {
      answer = is-first (exists edition ∷ depth n ∷ memory n m ∷ room m (length store) ∷ position n leaf ∷ output n (length out) ∷ []);
      refused = λ e. let no = some-refused _ e in (rw no, rw no);
    }

pub continuing-opening : (o : Opening) (store out : List ℕ) (budget : ℕ) → ContinuingOpening o store out budget
unfolding reopen_row opening_machine
continuing-opening o store out budget =
    let all : ℕ = nodes_anew o.depth o.memory in
    record {
      answer =
          is-first
          (record {
            test = either (impossible o.edition o.depth o.memory o.made all) (leb (2 ^ o.depth) o.leaf);
            condition = Impossible o.edition o.depth o.memory o.made all ⊎ (2 ^ o.depth ≤ o.leaf);
            decides = decides-either (decides-impossible o.edition o.depth o.memory o.made all) (decides-le (2 ^ o.depth) o.leaf);
            number = 4;
          }
          ∷ room o.memory (length store)
          ∷ output o.depth (length out)
          ∷ []
          );
      refused = refused-same (opening_machine store) (open_of o out) budget;
      idle = opening-idle store (open_of o out) budget;
    }

pub one-opening : (edition : ℕ) (statement : List ℕ) (n leaf : ℕ) (root bytes : List ℕ) → OneOpening edition statement n leaf root bytes
unfolding opening_row
one-opening edition statement n leaf root bytes =
    is-first
    (exists edition
    ∷ depth n
    ∷ position n leaf
    ∷ record {
      test = ltb (length bytes) (opening_size n);
      condition = length bytes < 32 * (n + 1);
      decides = decides-lt (length bytes) (opening_size n);
      number = 10;
    }
    ∷ record {
      test = ltb (opening_size n) (length bytes);
      condition = 32 * (n + 1) < length bytes;
      decides = decides-lt (opening_size n) (length bytes);
      number = 13;
    }
    ∷ record {
      test = leaf_wrong (stamp_rule edition n statement) n leaf bytes;
      condition = LeafRight (stamp_rule edition n statement) n leaf (given_by bytes) → ⊥;
      decides = decides-differ _ _;
      number = 14;
    }
    ∷ record {
      test = root_wrong (stamp_rule edition n statement) n leaf bytes root;
      condition = RootRight (stamp_rule edition n statement) n leaf (given_by bytes) root → ⊥;
      decides = decides-differ _ _;
      number = 15;
    }
    ∷ []
    )

-- ---- challenges and the head
pub a-challenge : (edition n : ℕ) (statement root : List ℕ) (i : ℕ) → AChallenge edition n statement root i
unfolding challenge_row challenged
a-challenge edition n statement root i =
    record { answer = is-first (exists edition ∷ depth n ∷ count i ∷ []); refused = λ e. rw (some-refused _ e) }

pub writing-head : (edition : ℕ) (statement root : List ℕ) (n t : ℕ) (out : List ℕ) → WritingHead edition statement root n t out
unfolding head_row head_written
writing-head edition statement root n t out =
    record { answer = is-first (exists edition ∷ depth n ∷ count t ∷ whole_file n t (length out) ∷ []); refused = λ e. rw (some-refused _ e) }

-- ---- files by budgets
pub starting-file :
    (edition : ℕ) (statement root : List ℕ) (n m t : ℕ) (store file : List ℕ) → StartingFile edition statement root n m t store file
unfolding write_row writings.started
starting-file edition statement root n m t store file =
    record {
      answer = is-first (exists edition ∷ depth n ∷ memory n m ∷ room m (length store) ∷ count t ∷ whole_file n t (length file) ∷ []);
      refused = λ e. rw (some-refused _ e);
    }

pub continuing-file : (w : Writing) (store file : List ℕ) (budget : ℕ) → ContinuingFile w store file budget
unfolding rewrite_row writing_machine
continuing-file w store file budget =
    let o : Opening = w.opening in
    let all : ℕ = nodes_anew o.depth o.memory in
    record {
      answer =
          is-first
          (record {
            test =
                either
                (impossible o.edition o.depth o.memory o.made all)
                (either (leb (2 ^ o.depth) o.leaf)
                (either (outside 1 200 w.count) (either (outside 1 w.count w.number) (both (eqb o.made all) (ltb w.number w.count)))));
            condition = Impossible o.edition o.depth o.memory o.made all ⊎ ImpossibleFile w;
            decides =
                decides-either
                (decides-impossible o.edition o.depth o.memory o.made all)
                (decides-either
                (decides-le (2 ^ o.depth) o.leaf)
                (decides-either (decides-outside 1 200 w.count)
                (decides-either (decides-outside 1 w.count w.number) (decides-both (decides_eq o.made all) (decides-lt w.number w.count)))));
            number = 4;
          }
          ∷ room o.memory (length store)
          ∷ whole_file o.depth w.count (length file)
          ∷ []
          );
      refused = refused-same (writing_machine store) (record { writing = w; file = file }) budget;
    }

-- ---- planning
-- some leaf is not of the tree
pub decides-leaf : (n leaf : ℕ) → Decides (not (is_leaf n leaf)) (2 ^ n ≤ leaf)
unfolding is_leaf
decides-leaf n leaf = decides-under leaf (2 ^ n)

abbrev pub some_leaf : ℕ → List ℕ → Decided
some_leaf n leaves =
    record {
      test = not (every (is_leaf n) leaves);
      condition = (i : ℕ) × (i < length leaves) × (2 ^ n ≤ get_or leaves i 0);
      decides = decides-some (is_leaf n) (λ leaf. 2 ^ n ≤ leaf) (decides-leaf n) leaves;
      number = 6;
    }

abbrev too_many_leaves : ℕ → Decided
too_many_leaves k = record { test = outside 0 200 k; condition = 200 < k; decides = decides-over 200 k; number = 8 }

pub planning-row : (n : ℕ) (leaves : List ℕ) (list : ℕ) → IsFirst (planning_chain n leaves list) (plan_row n leaves list)
unfolding plan_row
planning-row n leaves list =
    is-first
    (depth n
    ∷ too_many_leaves (length leaves)
    ∷ some_leaf n leaves
    ∷ record {
      test = ltb list (length (chain n leaves));
      condition = list < length (chain n leaves);
      decides = decides-lt list (length (chain n leaves));
      number = 16;
    }
    ∷ []
    )

pub planning-chain : (n : ℕ) (leaves list : List ℕ) → PlanningChain n leaves list
unfolding planned_count planned_list
planning-chain n leaves list = record { answer = planning-row n leaves (length list); refused = λ e. let no = some-refused _ e in (rw no, rw no) }

-- ---- hashing, which has one condition
over : ℕ → ℕ → Decided
over taken more =
    record {
      test = leb (max_hashed + 1) (taken + more);
      condition = 2 ^ 61 - 1 < taken + more;
      decides =
          record {
            yes = λ e. omega (arith, leb-true (max_hashed + 1) (taken + more) e);
            no = λ e above. omega (arith, leb-false (max_hashed + 1) (taken + more) e);
          };
      number = 5;
    }

-- what stands beside the one refusal
pub beside-refused {ℓ} : {A : Type ℓ} (t : Bool) (number : ℕ) (x y : A) → 1 ≤ pick t number 0 → pick t x y ≡ x
beside-refused true number x y some = refl
beside-refused false number x y some = absurd (omega arith)

pub hashing-portion : (s : Hash) (part : List ℕ) → HashingPortion s part
unfolding update_row update_state over
hashing-portion s part =
    record {
      answer = is-first (over s.taken (length part) ∷ []);
      refused = λ some. beside-refused (too_many s (length part)) 5 s _ some;
    }

pub hashing-end : (s : Hash) → HashingEnd s
unfolding finish_row finish_digest over
hashing-end s =
    record {
      answer = is-first (over s.taken 0 ∷ []);
      refused = λ some. (beside-refused (too_many s 0) 5 (zeros 32) _ some, refl);
    }

pub hashing-whole : (message : List ℕ) → HashingWhole message
unfolding digest_row digest_answer over
hashing-whole message =
    record {
      answer = is-first (over 0 (length message) ∷ []);
      refused = λ some. beside-refused (too_many new_hash (length message)) 5 (zeros 32) _ some;
    }
