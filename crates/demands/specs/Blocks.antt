-- W-207, 'Blocks beside labels', sentence by sentence.
use Rattle.std.specs.Prelude.{◌≡◌, ◌⊎◌, ℕ, ◌+◌, ◌-◌, ◌*◌, ◌/◌, ◌^◌, ◌≤◌, ◌<◌, min, length, take}
use mathlib.Core.List.{List, [], map, flatten}
use Rattle.std.specs.Int.Count.{ones}
use Rattle.compression.specs.Constants.{initial}
use Rattle.sha256.specs.declared.Hash.{Hash}
use Rattle.sha256.specs.Padding.{padding, padded}
use Rattle.sha256.specs.Digest.{blocks_hashed, hash_after, digest_of, digest}
use Rattle.sha256.specs.Portions.{new_hash, updated_all, compressions, compressions_all, finish_row, finish_blocks, digest_row, digest_blocks}
use Rattle.machine.specs.Calls.{total}
use Rattle.tree.specs.Nodes.{Node, node, InTree, parents}
use Rattle.tree.specs.Labels.{document_input, label}
use Rattle.labelling.specs.Rule.{stamp_rule}
use Rattle.labelling.specs.Blocks.{node_blocks}
use Rattle.run.specs.declared.Run.{Run}
use Rattle.run.specs.Rows.{continue_row}
use Rattle.run.specs.Steps as runs
use Rattle.run.specs.Steps.{Stamped, stamped}
use Rattle.opening.specs.declared.Opening.{Opening}
use Rattle.opening.specs.Rows.{reopen_row}
use Rattle.opening.specs.Steps as openings
use Rattle.opening.specs.Steps.{Open}
use Rattle.opening.specs.Names.{open_of}
use Rattle.file_head.specs.Layout.{file_size}
use Rattle.writing.specs.declared.Writing.{Writing}
use Rattle.writing.specs.Rows.{rewrite_row}
use Rattle.writing.specs.Steps as writings
use Rattle.writing.specs.Possible.{written_of}
use Rattle.block_theory.specs.Sums.{blocks_sum, next_nodes, next_nodes_anew, file_nodes, file_blocks, reported_blocks, reported_blocks_anew, reported_blocks_written}
use Rattle.demands.specs.Demand1.{AnEdition, InBounds, run_at_start, started_opening, started_file}

-- ---- 'Hashing a message answers with the 64-byte blocks it compressed ..'
pub record MessageBlocks (message : List ℕ) : Type 0 where
  -- '.. which for L bytes is (L + 8) divided by 64, rounded down, plus 1'
  pub number : digest_blocks message ≡ (length message + 8) / 64 + 1
  -- it is the number of steps that the digest's definition makes over the padded message
  pub steps : digest message ≡ digest_of (hash_after initial (padded message) (digest_blocks message))

-- in portions, whatever the cut: the end answers with the whole message's, and as many tails were compressed on the way and at the end
pub record PortionBlocks (portions : List (List ℕ)) : Type 0 where
  pub whole : finish_blocks (updated_all new_hash portions) ≡ digest_blocks (flatten portions)
  pub compressed :
      let s : Hash = updated_all new_hash portions in
      compressions_all new_hash portions + compressions s (padding s.taken) ≡ finish_blocks s

-- ---- 'Labelling and opening report the sum over exactly the labels they made in that call, beside the label count': of every state that
-- is not refused, reached or not, and of any calls from it
pub record RunBlocks (s : Stamped) : Type 0 where
  pub call :
      (budget : ℕ) → runs.blocks_in s budget ≡ blocks_sum s.run.depth (next_nodes s.run.depth s.run.made (runs.labels_in s budget))
  pub calls :
      (budgets : List ℕ)
      → reported_blocks s budgets
      ≡ blocks_sum s.run.depth
      (next_nodes s.run.depth s.run.made (min (total budgets) (2 ^ (s.run.depth + 1) - 1 - s.run.made)))

pub record OpeningBlocks (store : List ℕ) (s : Open) : Type 0 where
  pub call :
      (budget : ℕ)
      → openings.blocks_in store s budget
      ≡ blocks_sum s.opening.depth
      (next_nodes_anew s.opening.depth s.opening.memory s.opening.leaf s.opening.made (openings.labels_in store s budget))
  pub calls :
      (budgets : List ℕ)
      → reported_blocks_anew store s budgets
      ≡ blocks_sum s.opening.depth
      (next_nodes_anew s.opening.depth s.opening.memory s.opening.leaf s.opening.made
      (min (total budgets) (2 ^ (s.opening.depth - s.opening.memory + 1) - 2 - s.opening.made)))

-- ---- 'A run refused reports 0 of both'; so does one with budget 0 or finished
pub record NoneReported (labels blocks : ℕ) : Type 0 where
  pub no_labels : labels ≡ 0
  pub no_blocks : blocks ≡ 0

-- ---- the request
pub record Blocks : Type 0 where
  pub message : (message : List ℕ) → length message < 2 ^ 61 → MessageBlocks message
  pub portions : (portions : List (List ℕ)) → length (flatten portions) < 2 ^ 61 → PortionBlocks portions
  -- the end, of every state
  pub any_end : (s : Hash) → s.taken < 2 ^ 61 → finish_blocks s ≡ (s.taken + 8) / 64 + 1
  pub refused_end : (s : Hash) → 1 ≤ finish_row s → finish_blocks s ≡ 0
  pub refused_message : (message : List ℕ) → 1 ≤ digest_row message → digest_blocks message ≡ 0
  -- a node's blocks are those of hashing its input over its parents' labels
  pub node_input :
      (edition : ℕ) (statement : List ℕ) (n : ℕ) (v : Node) → length statement ≡ 32 → InTree n v
      → blocks_hashed (document_input edition n statement v (map (label (stamp_rule edition n statement) n) (parents n v))) ≡ node_blocks n v
  -- 'An inner node costs 2, a leaf without parents 1, the dearest leaf 21.'
  pub inner : (n : ℕ) (v : Node) → v.level < n → node_blocks n v ≡ 2
  pub no_parents : (n : ℕ) (v : Node) → parents n v ≡ [] → node_blocks n v ≡ 1
  pub most : (n : ℕ) (v : Node) → n ≤ 40 → InTree n v → node_blocks n v ≤ 21
  pub dearest : node_blocks 40 (node 40 (2 ^ 40 - 1)) ≡ 21
  pub run :
      (s : Stamped) → length s.run.statement ≡ 32 → length s.run.held ≡ 1312 → continue_row s.run (length s.store) ≡ 0
      → RunBlocks s
  pub opening :
      (store : List ℕ) (s : Open) → length s.opening.statement ≡ 32 → length s.opening.held ≡ 1312
      → reopen_row s.opening (length store) (length s.out) ≡ 0 → OpeningBlocks store s
  pub refused_run :
      (run : Run) (store : List ℕ) (budget : ℕ) → 1 ≤ continue_row run (length store)
      → NoneReported (runs.labels_in (stamped run store) budget) (runs.blocks_in (stamped run store) budget)
  pub refused_opening :
      (o : Opening) (store out : List ℕ) (budget : ℕ) → 1 ≤ reopen_row o (length store) (length out)
      → NoneReported (openings.labels_in store (open_of o out) budget) (openings.blocks_in store (open_of o out) budget)
  pub refused_file :
      (w : Writing) (store file : List ℕ) (budget : ℕ) → 1 ≤ rewrite_row w (length store) (length file)
      → NoneReported (writings.labels_in store (written_of w file) budget) (writings.blocks_in store (written_of w file) budget)
  pub idle_run :
      (run : Run) (store : List ℕ) (budget : ℕ) → (budget ≡ 0) ⊎ (2 ^ (run.depth + 1) - 1 ≤ run.made)
      → NoneReported (runs.labels_in (stamped run store) budget) (runs.blocks_in (stamped run store) budget)
  pub idle_opening :
      (o : Opening) (store out : List ℕ) (budget : ℕ) → (budget ≡ 0) ⊎ (2 ^ (o.depth - o.memory + 1) - 2 ≤ o.made)
      → NoneReported (openings.labels_in store (open_of o out) budget) (openings.blocks_in store (open_of o out) budget)
  pub idle_file :
      (w : Writing) (store file : List ℕ) (budget : ℕ) → (budget ≡ 0) ⊎ (writings.remaining w ≡ 0)
      → NoneReported (writings.labels_in store (written_of w file) budget) (writings.blocks_in store (written_of w file) budget)
  -- from a start, any list of budgets: the sum over the first k nodes in labelling order
  pub from_start :
      (edition : ℕ) (statement : List ℕ) (n m : ℕ) (store budgets : List ℕ) → AnEdition edition → length statement ≡ 32
      → InBounds n m (length store)
      → reported_blocks (run_at_start edition statement n m store) budgets ≡ blocks_sum n (next_nodes n 0 (min (total budgets) (2 ^ (n + 1) - 1)))
  -- for a whole run 4 × (blocks + 2) = (n + 13) × 2^n
  pub whole_run :
      (edition : ℕ) (statement : List ℕ) (n m : ℕ) (store budgets : List ℕ) → AnEdition edition → length statement ≡ 32
      → InBounds n m (length store)
      → 2 ^ (n + 1) - 1 ≤ total budgets → 4 * (reported_blocks (run_at_start edition statement n m store) budgets + 2) ≡ (n + 13) * 2 ^ n
  -- for a whole opening below level m 4 × (blocks + 4) = (2 × left siblings on levels 1 to m + n − m + 13) × 2^(n−m), whatever the store holds
  pub whole_opening :
      (edition : ℕ) (statement : List ℕ) (n m leaf : ℕ) (store out budgets : List ℕ) → AnEdition edition → length statement ≡ 32
      → InBounds n m (length store) → m < n → leaf < 2 ^ n → 32 * (n + 1) ≤ length out → 2 ^ (n - m + 1) - 2 ≤ total budgets
      → 4 * (reported_blocks_anew store (started_opening edition statement n m leaf store out) budgets + 4)
      ≡ (2 * ones (leaf / 2 ^ (n - m)) + (n - m) + 13) * 2 ^ (n - m)
  -- a file from a start, any list of budgets: the sum over the first k nodes of its openings, one opening after another, whatever the
  -- store holds
  pub file_from_start :
      (edition : ℕ) (statement root : List ℕ) (n m t : ℕ) (store file budgets : List ℕ) → AnEdition edition → length statement ≡ 32
      → length root ≡ 32
      → InBounds n m (length store) → (1 ≤ t) × (t ≤ 200) → file_size n t ≤ length file
      → reported_blocks_written store (started_file edition statement root n m t store file) budgets
      ≡ blocks_sum n (take (min (total budgets) (t * (2 ^ (n - m + 1) - 2))) (file_nodes edition statement root n m t))
  -- for a whole file all of them
  pub whole_file :
      (edition : ℕ) (statement root : List ℕ) (n m t : ℕ) (store file budgets : List ℕ) → AnEdition edition → length statement ≡ 32
      → length root ≡ 32
      → InBounds n m (length store) → (1 ≤ t) × (t ≤ 200) → file_size n t ≤ length file → t * (2 ^ (n - m + 1) - 2) ≤ total budgets
      → reported_blocks_written store (started_file edition statement root n m t store file) budgets ≡ file_blocks edition statement root n m t
