-- W-207, each sentence with its proof.
use mathlib.Core.Path.{◌≡◌, refl, ap, subst, ◌∙◌}
use mathlib.Core.Logic.{◌⊎◌, inl, inr, ⊎_elim}
use Prim.Native.Nat.{ℕ, ◌+◌, ◌-◌, ◌*◌, ◌/◌, ◌^◌, ◌≤◌, ◌<◌, min}
use native.Mathlib.Omega.{arith}
use mathlib.Core.List.{List, [], map, flatten}
use lib.Count.{ones}
use lib.ListN.{length, take, length-map}
use lib.Seq.{take_all}
use Rattle.base.proofs.RowLaws.{some-refused}
use Rattle.sha256.specs.declared.Hash.{Hash}
use Rattle.sha256.specs.Padding.{blocks_of}
use Rattle.sha256.specs.Digest.{blocks_hashed, digest}
use Rattle.sha256.specs.Portions.{new_hash, too_many, finish_row, finish_blocks, digest_row, digest_blocks}
use Rattle.sha256.proofs.Digests.{blocks-hashed}
use Rattle.sha256.proofs.Portions.{finish-counted, digest-counted}
use Rattle.sha256.proofs.Compressions.{portions-counted}
use Rattle.machine.specs.Machines as machines
use Rattle.machine.specs.Machines.{Machine, done_in, cost_in}
use Rattle.machine.specs.Calls.{total, after_calls}
use Rattle.machine.proofs.StepLaws.{done_refused, cost-refused, done-idle, cost-idle}
use Rattle.machine.proofs.CallLaws.{calls-cost}
use Rattle.tree.specs.Nodes.{Node, InTree, labelling_order, parents}
use Rattle.tree.specs.Walk.{nodes_in}
use Rattle.tree.specs.Labels.{Label, document_input}
use Rattle.tree.proofs.Order.{tree-length}
use Rattle.tree.proofs.InputLengths.{input-lengths}
use Rattle.labelling.specs.Blocks.{node_blocks}
use Rattle.run.specs.declared.Run.{Run}
use Rattle.run.specs.Rows.{continue_row}
use Rattle.run.specs.Steps as runs
use Rattle.run.specs.Steps.{Stamped, stamped, run_machine}
use Rattle.opening.specs.declared.Opening.{Opening}
use Rattle.opening.specs.Rows.{nodes_anew, reopen_row}
use Rattle.opening.specs.Steps as openings
use Rattle.opening.specs.Steps.{Open, opening_machine}
use Rattle.opening.specs.Names.{open_of}
use Rattle.run_theory.specs.Runs.{at_start}
use Rattle.run_theory.specs.Openings.{new_open}
use Rattle.run_theory.specs.Reached.{label_of}
use Rattle.run_theory.proofs.Step.{labels-each}
use Rattle.run_theory.proofs.RunLaws.{run-goes}
use Rattle.run_record_theory.specs.Pausing.{Continuable}
use Rattle.file_head.specs.Layout.{file_size}
use Rattle.writing.specs.declared.Writing.{Writing}
use Rattle.writing.specs.Rows.{rewrite_row}
use Rattle.writing.specs.Steps as writings
use Rattle.writing.specs.Steps.{Written, writing_machine}
use Rattle.writing.specs.Possible.{written_of}
use Rattle.writing_theory.proofs.Rows.{started-done}
use Rattle.block_theory.specs.Sums.{blocks_sum, next_nodes, next_nodes_anew, file_nodes, tree_blocks, opening_blocks, file_blocks}
use Rattle.block_theory.specs.Sums.{reported_blocks, reported_blocks_anew, reported_blocks_written}
use Rattle.block_theory.proofs.Sums.{tree-formula, opening-formula}
use Rattle.block_theory.proofs.NodeCosts.{inner-blocks, no-parents-blocks, most-blocks, dearest-blocks}
use Rattle.block_theory.proofs.RunCalls.{run_call, run-calls}
use Rattle.block_theory.proofs.OpeningCalls.{Reopenable, opening-call, opening-calls}
use Rattle.block_theory.proofs.FileCalls.{nodes-length, file-blocks}
use Rattle.demands.specs.Demand1.{AnEdition, InBounds, run_at_start, started_opening, started_file}
use Rattle.demands.specs.Blocks.{MessageBlocks, PortionBlocks, RunBlocks, OpeningBlocks, NoneReported, Blocks}
use Rattle.demands.proofs.Checks.{beside-refused}
use Rattle.demands.proofs.Carrying.{startable, can-open, can_write, run-at-start}
use Rattle.demands.proofs.Demand2.{opening-started}
use Rattle.demands.proofs.Openings.{opening-ends}
use Rattle.demands.proofs.Writings.{file-goes}
use Rattle.demands.proofs.Pausing.{has-arrays}

-- ---- hashing
message-blocks : (message : List ℕ) → length message < 2 ^ 61 → MessageBlocks message
unfolding digest
message-blocks message few =
    let e : digest_blocks message ≡ blocks_hashed message = digest-counted message (omega arith) in
    record { number = omega (arith, e, blocks-hashed message); steps = rw e }

portion-blocks : (portions : List (List ℕ)) → length (flatten portions) < 2 ^ 61 → PortionBlocks portions
portion-blocks portions few =
    let counted = portions-counted portions (omega arith) in
    record { whole = counted.whole; compressed = counted.compressed }

refused_end : (s : Hash) → 1 ≤ finish_row s → finish_blocks s ≡ 0
unfolding finish_row finish_blocks
refused_end s some = beside-refused (too_many s 0) 5 0 _ some

refused-message : (message : List ℕ) → 1 ≤ digest_row message → digest_blocks message ≡ 0
unfolding digest_row digest_blocks
refused-message message some = beside-refused (too_many new_hash (length message)) 5 0 _ some

-- ---- a node
node-input :
    (edition : ℕ) (statement : List ℕ) (n : ℕ) (v : Node) → length statement ≡ 32 → InTree n v
    → blocks_hashed (document_input edition n statement v (map (label_of edition statement n) (parents n v))) ≡ node_blocks n v
node-input edition statement n v size in_tree =
    let labels : List Label = map (label_of edition statement n) (parents n v) in
    blocks-hashed (document_input edition n statement v labels)
    ∙ ap blocks_of
    (input-lengths edition statement (omega (arith, size)) n v in_tree labels (labels-each edition statement n (parents n v))
    (length-map (parents n v) (label_of edition statement n))).0

-- ---- the labels made in a call and in any calls, of every state that is not refused
run-reports :
    (s : Stamped) → length s.run.statement ≡ 32 → length s.run.held ≡ 1312 → continue_row s.run (length s.store) ≡ 0
    → RunBlocks s
unfolding nodes_in
run-reports s statement places goes =
    let can : Continuable s = record { arrays = has-arrays s.run statement places; goes = goes } in
    record { call = run_call s can; calls = run-calls s can }

opening-reports :
    (store : List ℕ) (s : Open) → length s.opening.statement ≡ 32 → length s.opening.held ≡ 1312
    → reopen_row s.opening (length store) (length s.out) ≡ 0 → OpeningBlocks store s
opening-reports store s statement places goes =
    let can : Reopenable store s =
    record { statement_size = omega (arith, statement); places_size = omega (arith, places); goes = goes } in
    record { call = opening-call store s can; calls = opening-calls store s can }

-- ---- refused, and nothing to make: one law for all three
module _ {S : Type 0} (machine : Machine S) (cost : S → ℕ) (s : S) (budget : ℕ) where
  none-refused : 1 ≤ machine.row s → NoneReported (done_in machine s budget) (cost_in machine cost s budget)
  none-refused e =
      let no = some-refused (machine.row s) e in
      record { no_labels = done_refused machine s budget no; no_blocks = cost-refused machine s budget cost no }

  none-idle : (budget ≡ 0) ⊎ (machine.remaining s ≡ 0) → NoneReported (done_in machine s budget) (cost_in machine cost s budget)
  none-idle idle = record { no_labels = done-idle machine s budget idle; no_blocks = cost-idle machine s budget cost idle }

module _ (run : Run) (store : List ℕ) (budget : ℕ) where
  abbrev unit : Stamped
  unit = stamped run store

  refused-run : 1 ≤ continue_row run (length store) → NoneReported (runs.labels_in unit budget) (runs.blocks_in unit budget)
  unfolding run_machine
  refused-run = none-refused run_machine runs.step_blocks unit budget

  idle-run :
      (budget ≡ 0) ⊎ (2 ^ (run.depth + 1) - 1 ≤ run.made) → NoneReported (runs.labels_in unit budget) (runs.blocks_in unit budget)
  unfolding run_machine nodes_in
  idle-run idle =
      none-idle run_machine runs.step_blocks unit budget
      (⊎_elim (λ e. inl e) (λ (done : 2 ^ (run.depth + 1) - 1 ≤ run.made). inr (omega arith)) idle)

module _ (o : Opening) (store out : List ℕ) (budget : ℕ) where
  refused-opening :
      1 ≤ reopen_row o (length store) (length out)
      → NoneReported (openings.labels_in store (open_of o out) budget) (openings.blocks_in store (open_of o out) budget)
  unfolding opening_machine
  refused-opening = none-refused (opening_machine store) (openings.step_blocks store) (open_of o out) budget

  idle-opening :
      (budget ≡ 0) ⊎ (2 ^ (o.depth - o.memory + 1) - 2 ≤ o.made)
      → NoneReported (openings.labels_in store (open_of o out) budget) (openings.blocks_in store (open_of o out) budget)
  unfolding opening_machine
  idle-opening idle =
      none-idle (opening_machine store) (openings.step_blocks store) (open_of o out) budget
      (⊎_elim (λ e. inl e) (λ (done : 2 ^ (o.depth - o.memory + 1) - 2 ≤ o.made). inr (omega arith)) idle)

module _ (w : Writing) (store file : List ℕ) (budget : ℕ) where
  refused-file :
      1 ≤ rewrite_row w (length store) (length file)
      → NoneReported (writings.labels_in store (written_of w file) budget) (writings.blocks_in store (written_of w file) budget)
  unfolding writing_machine
  refused-file = none-refused (writing_machine store) (writings.step_blocks store) (written_of w file) budget

  idle-file :
      (budget ≡ 0) ⊎ (writings.remaining w ≡ 0)
      → NoneReported (writings.labels_in store (written_of w file) budget) (writings.blocks_in store (written_of w file) budget)
  unfolding writing_machine
  idle-file = none-idle (writing_machine store) (writings.step_blocks store) (written_of w file) budget

-- ---- a run from its start
module _
    (edition : ℕ) (statement : List ℕ) (n m : ℕ) (store : List ℕ) (exists : AnEdition edition) (size : length statement ≡ 32)
    (bounds : InBounds n m (length store)) where
  run-continuable : Continuable (at_start edition statement n m store)
  unfolding at_start run_machine machines.steps
  run-continuable =
      record {
        arrays = has-arrays (at_start edition statement n m store).run size refl;
        goes = (run-goes edition statement n m store (startable edition n m (length store) exists bounds)).done 0 (omega arith);
      }

  from_start :
      (budgets : List ℕ)
      → reported_blocks (run_at_start edition statement n m store) budgets ≡ blocks_sum n (next_nodes n 0 (min (total budgets) (2 ^ (n + 1) - 1)))
  unfolding at_start nodes_in
  from_start budgets =
      let all : nodes_in n - 0 ≡ 2 ^ (n + 1) - 1 = omega arith in
      ap (λ (start : Stamped). reported_blocks start budgets) (run-at-start edition statement n m store)
      ∙ run-calls (at_start edition statement n m store) run-continuable budgets
      ∙ ap (λ (k : ℕ). blocks_sum n (next_nodes n 0 (min (total budgets) k))) all

  -- budgets that suffice: the whole tree's
  run-whole :
      (budgets : List ℕ) → 2 ^ (n + 1) - 1 ≤ total budgets → reported_blocks (run_at_start edition statement n m store) budgets ≡ tree_blocks n
  unfolding nodes_in
  run-whole budgets enough =
      let all : min (total budgets) (2 ^ (n + 1) - 1) ≡ 2 ^ (n + 1) - 1 = omega arith in
      from_start budgets
      ∙ ap (λ (k : ℕ). blocks_sum n (next_nodes n 0 k)) all
      ∙ ap (λ (nodes : List Node). blocks_sum n nodes) (take_all (2 ^ (n + 1) - 1) (labelling_order n) (omega (arith, tree-length n)))

  whole_run :
      (budgets : List ℕ) → 2 ^ (n + 1) - 1 ≤ total budgets
      → 4 * (reported_blocks (run_at_start edition statement n m store) budgets + 2) ≡ (n + 13) * 2 ^ n
  whole_run budgets enough = rw (run-whole budgets enough) (tree-formula n bounds.depth.0)

-- ---- an opening from its start, whatever the store holds
module _
    (edition : ℕ) (statement : List ℕ) (n m leaf : ℕ) (store out : List ℕ) (exists : AnEdition edition) (size : length statement ≡ 32)
    (bounds : InBounds n m (length store)) (inside : leaf < 2 ^ n) (fits : 32 * (n + 1) ≤ length out) where
  abbrev new : Open
  new = new_open edition statement n m leaf store out

  started-new : started_opening edition statement n m leaf store out ≡ new
  started-new =
      opening-started edition statement n m leaf store out (can-open edition n m (length store) exists bounds leaf (length out) inside fits)

  opening-reopenable : Reopenable store new
  unfolding after_calls
  opening-reopenable =
      record {
        statement_size = omega (arith, size);
        places_size = refl;
        goes =
            subst (λ (s : Open). reopen_row s.opening (length store) (length s.out) ≡ 0) started-new
            ((opening-ends edition statement n m leaf store out exists bounds inside fits).ends.not_refused []);
      }

  opening-whole :
      (budgets : List ℕ) → 2 ^ (n - m + 1) - 2 ≤ total budgets
      → reported_blocks_anew store (started_opening edition statement n m leaf store out) budgets ≡ opening_blocks n m leaf
  opening-whole budgets enough =
      let all : min (total budgets) (nodes_anew n m - 0) ≡ nodes_anew n m = omega arith in
      ap (λ (start : Open). reported_blocks_anew store start budgets) started-new
      ∙ opening-calls store new opening-reopenable budgets
      ∙ ap (λ (k : ℕ). blocks_sum n (next_nodes_anew n m leaf 0 k)) all

  whole-opening :
      m < n → (budgets : List ℕ) → 2 ^ (n - m + 1) - 2 ≤ total budgets
      → 4 * (reported_blocks_anew store (started_opening edition statement n m leaf store out) budgets + 4)
      ≡ (2 * ones (leaf / 2 ^ (n - m)) + (n - m) + 13) * 2 ^ (n - m)
  whole-opening low budgets enough = rw (opening-whole budgets enough) (opening-formula n m leaf low inside)

-- ---- a file from its start, whatever store and root are
module _
    (edition : ℕ) (statement root : List ℕ) (n m t : ℕ) (store file budgets : List ℕ) (exists : AnEdition edition)
    (size : length statement ≡ 32) (root_size : length root ≡ 32) (bounds : InBounds n m (length store)) (count : (1 ≤ t) × (t ≤ 200))
    (fits : file_size n t ≤ length file) where
  abbrev all : ℕ
  all = t * (2 ^ (n - m + 1) - 2)

  abbrev file_sum : ℕ → ℕ
  file_sum k = blocks_sum n (take k (file_nodes edition statement root n m t))

  file-from-start :
      reported_blocks_written store (started_file edition statement root n m t store file) budgets ≡ file_sum (min (total budgets) all)
  file-from-start =
      let k : ℕ = min (total budgets) all in
      calls-cost (writing_machine store) (started_file edition statement root n m t store file) all
      (file-goes edition statement root n m t store file exists size root_size bounds count fits) (writings.step_blocks store) budgets
      ∙ ap (λ (s : Written). writings.blocks_over store k s)
      (started-done edition statement root n m t store file (can_write edition n m (length store) exists bounds t (length file) count fits))
      ∙ file-blocks edition statement root n m t store size bounds.depth (omega (arith, bounds.memory)) bounds.room file k (omega arith)

  whole-file :
      all ≤ total budgets
      → reported_blocks_written store (started_file edition statement root n m t store file) budgets ≡ file_blocks edition statement root n m t
  whole-file enough =
      let nodes : List Node = file_nodes edition statement root n m t in
      let whole : min (total budgets) all ≡ all = omega arith in
      file-from-start
      ∙ ap file_sum whole
      ∙ ap (blocks_sum n) (take_all all nodes (omega (arith, nodes-length edition statement root n m t)))

pub blocks : Blocks
blocks =
    record {
      message = message-blocks;
      portions = portion-blocks;
      any_end = λ s few. finish-counted s (omega (arith, few));
      refused_end = refused_end;
      refused_message = refused-message;
      node_input = node-input;
      inner = inner-blocks;
      no_parents = no-parents-blocks;
      most = λ n v shallow in_tree. omega (arith, most-blocks n v (omega (arith, shallow)) in_tree);
      dearest = dearest-blocks;
      run = run-reports;
      opening = opening-reports;
      refused_run = refused-run;
      refused_opening = refused-opening;
      refused_file = refused-file;
      idle_run = idle-run;
      idle_opening = idle-opening;
      idle_file = idle-file;
      from_start = λ edition statement n m store budgets exists size bounds. from_start edition statement n m store exists size bounds budgets;
      whole_run = λ edition statement n m store budgets exists size bounds enough.
          whole_run edition statement n m store exists size bounds budgets enough;
      whole_opening = λ edition statement n m leaf store out budgets exists size bounds low inside fits enough.
          whole-opening edition statement n m leaf store out exists size bounds inside fits low budgets enough;
      file_from_start = file-from-start;
      whole_file = whole-file;
    }
