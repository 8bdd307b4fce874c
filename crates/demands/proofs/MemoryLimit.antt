-- W-209, each sentence with its proof.
use mathlib.Core.Path.{◌≡◌, refl, ap, subst, ◌∙◌}
use Prim.Native.Nat.{ℕ, ◌+◌, ◌≤◌, ◌<◌, min}
use native.Mathlib.Omega.{arith}
use mathlib.Core.Bool.{Bool, true, false}
use mathlib.Core.List.{List, [], ◌∷◌, ◌++◌}
use lib.Dec.{ltb}
use lib.ListN.{length}
use lib.Pow.{pow_mono}
use borrow.Author.Tests.{lt-ltb, le-ltb}
use Rattle.base.specs.Limits.{max_edition, max_depth, max_memory, IsDepth, IsCount}
use Rattle.base.specs.Row.{first_of, outside, memory_over, no_edition, either}
use Rattle.base.proofs.Ranges.{within, memory-inside, neither}
use Rattle.base.proofs.RowLaws.{NeverGives, never-gives}
use Rattle.tree.specs.Nodes.{root}
use Rattle.tree.specs.Labels.{label}
use Rattle.tree.specs.Walk.{nodes_in}
use Rattle.tree.specs.Store.{store_size}
use Rattle.tree.specs.Openings.{opening_size}
use Rattle.tree.proofs.Slots.{store-fits}
use Rattle.labelling.specs.Rule.{stamp_rule}
use Rattle.run.specs.declared.Run.{Run}
use Rattle.run.specs.Rows.{start_checks, impossible, start_row, continue_row}
use Rattle.run.proofs.RowLaws.{not-impossible}
use Rattle.run.specs.Steps as runs
use Rattle.run.specs.Steps.{Stamped}
use Rattle.run_theory.specs.Runs.{LevelsFit, at_start}
use Rattle.run_theory.proofs.RunLaws.{run-reached}
use Rattle.opening.specs.declared.Opening.{Opening}
use Rattle.opening.specs.Rows.{nodes_anew, leaf_checks, open_row, reopen_row}
use Rattle.file_head.specs.Layout.{file_size, file}
use Rattle.proof_file.specs.FileCheck.{file_check}
use Rattle.check_theory.specs.TreeFile.{tree_openings, tree_file}
use Rattle.check_theory.proofs.TreeFile.{tree-accepted}
use Rattle.writing.specs.declared.Writing.{Writing}
use Rattle.writing.specs.Rows.{file_checks, write_row, rewrite_row}
use Rattle.writing_theory.specs.Filed.{file_from}
use Rattle.writing_theory.proofs.Finished.{file-finished}
use Rattle.demands.specs.Demand1.{AnEdition, InBounds}
use Rattle.demands.specs.Demand2.{opening_from, OpeningIs, FileIs}
use Rattle.demands.specs.MemoryLimit.{StoreEnough, StartRefused, finished_run, OpenedLower, MemoryLimit}
use Rattle.demands.proofs.Carrying.{can_write}
use Rattle.demands.proofs.Demand2.{opening-lower, tree-file}

-- ---- 3
module _ (store : ℕ) (enough : 1048544 ≤ store) where
  has_room : (n m : ℕ) → memory_over n m ≡ false → ltb store (store_size m) ≡ false
  has_room n m e = le-ltb store (store_size m) (omega (arith, store-fits m (memory-inside n m e)))

  -- a start's checks, alone and after the edition's, and a row that begins with 4 and 3: those behind them have other numbers
  checked : (n m : ℕ) (more : List (Bool × ℕ)) → NeverGives more 3 → NeverGives (start_checks n m store ++ more) 3
  checked n m more rest =
      (λ one. absurd (omega arith), λ _. (λ two. absurd (omega arith), λ allowed. (λ _. has_room n m allowed, λ _. rest)))

  started :
      (edition n m : ℕ) (more : List (Bool × ℕ)) → NeverGives more 3
      → first_of ((no_edition edition, 12) ∷ start_checks n m store ++ more) ≡ 3 → ⊥
  started edition n m more rest =
      never-gives ((no_edition edition, 12) ∷ start_checks n m store ++ more) 3 (omega arith)
      (λ twelve. absurd (omega arith), λ _. checked n m more rest)

  continued :
      (n m : ℕ) (four : Bool) (more : List (Bool × ℕ)) → (four ≡ false → memory_over n m ≡ false) → NeverGives more 3
      → first_of ((four, 4) ∷ (ltb store (store_size m), 3) ∷ more) ≡ 3 → ⊥
  continued n m four more allowed rest =
      never-gives ((four, 4) ∷ (ltb store (store_size m), 3) ∷ more) 3 (omega arith)
      (λ e. absurd (omega arith), λ passed. (λ _. has_room n m (allowed passed), λ _. rest))

  -- an opening is refused with 4 for more than a run, and a file for more than an opening
  opened-again :
      (o : Opening) (other short : Bool)
      → first_of
      ((either (impossible o.edition o.depth o.memory o.made (nodes_anew o.depth o.memory)) other, 4)
      ∷ (ltb store (store_size o.memory), 3)
      ∷ (short, 7)
      ∷ []
      ) ≡ 3 → ⊥
  opened-again o other short =
      let state : Bool = impossible o.edition o.depth o.memory o.made (nodes_anew o.depth o.memory) in
      continued o.depth o.memory (either state other) ((short, 7) ∷ [])
      (λ e. (not-impossible o.edition o.depth o.memory o.made (nodes_anew o.depth o.memory) (neither state other e).0).2)
      (λ seven. absurd (omega arith), λ _. tt)

  store-enough : StoreEnough store
  unfolding start_row continue_row open_row reopen_row write_row rewrite_row
  store-enough =
      record {
        starting_run = λ n m. never-gives (start_checks n m store) 3 (omega arith) (checked n m [] tt);
        continuing_run =
            λ run.
            continued run.depth run.memory (impossible run.edition run.depth run.memory run.made (nodes_in run.depth)) []
            (λ e. (not-impossible run.edition run.depth run.memory run.made (nodes_in run.depth) e).2) tt;
        starting_opening =
            λ edition n m leaf out.
            started edition n m (leaf_checks n leaf out) (λ six. absurd (omega arith), λ _. (λ seven. absurd (omega arith), λ _. tt));
        continuing_opening = λ o out. opened-again o _ (ltb out (opening_size o.depth));
        starting_file =
            λ edition n m t out.
            started edition n m (file_checks n t out) (λ eight. absurd (omega arith), λ _. (λ seven. absurd (omega arith), λ _. tt));
        continuing_file = λ w out. opened-again w.opening _ (ltb out (file_size w.opening.depth w.count));
      }

store-needed : (n store : ℕ) → (14 ≤ n) × (n ≤ 40) → store < 1048544 → start_row n 14 store ≡ 3
unfolding start_row
store-needed n store depth short =
    rw (
      within 1 max_depth n (omega (arith, depth), depth.1),
      le-ltb (min n max_memory) 14 (omega (arith, depth)),
      lt-ltb store (store_size 14) (omega arith),
    )

-- ---- 2 and 4
start-refused : (n m store : ℕ) → IsDepth n → min n 14 < m → StartRefused n m store
unfolding start_row open_row write_row
start-refused n m store depth over =
    let right = within 1 max_depth n depth in
    let high = lt-ltb (min n max_memory) m over in
    record {
      run = rw (right, high);
      opening = λ edition leaf out exists. rw (within 1 max_edition edition exists, right, high);
      file = λ edition t out exists. rw (within 1 max_edition edition exists, right, high);
    }

or-true : (x : Bool) → either x true ≡ true
or-true true = refl
or-true false = refl

pub level-refused : (edition n m made all : ℕ) → min n 14 < m → impossible edition n m made all ≡ true
level-refused edition n m made all over =
    let other : either (outside 1 max_depth n) (either (memory_over n m) (ltb all made)) ≡ true =
    rw (lt-ltb (min n max_memory) m over) (or-true (outside 1 max_depth n)) in
    ap (either (no_edition edition)) other ∙ or-true (no_edition edition)

run-refused : (run : Run) (store : ℕ) → min run.depth 14 < run.memory → continue_row run store ≡ 4
unfolding continue_row
run-refused run store over = rw (level-refused run.edition run.depth run.memory run.made (nodes_in run.depth) over)

opening-refused : (o : Opening) (store out : ℕ) → min o.depth 14 < o.memory → reopen_row o store out ≡ 4
unfolding reopen_row
opening-refused o store out over = rw (level-refused o.edition o.depth o.memory o.made (nodes_anew o.depth o.memory) over)

file-refused : (w : Writing) (store out : ℕ) → min w.opening.depth 14 < w.opening.memory → rewrite_row w store out ≡ 4
unfolding rewrite_row
file-refused w store out over =
    let o : Opening = w.opening in
    rw (level-refused o.edition o.depth o.memory o.made (nodes_anew o.depth o.memory) over)

-- ---- old stores
module _
    (edition : ℕ) (statement : List ℕ) (n m lower : ℕ) (store : List ℕ) (exists : AnEdition edition) (depth : IsDepth n) (below : m ≤ n)
    (enough : store_size m ≤ length store) (le : lower ≤ min m 14) where
  fit : LevelsFit n m (length store)
  fit = record { shallow = depth.1; below = below; enough = enough }

  bounds : InBounds n lower (length store)
  bounds =
      record { depth = depth; memory = omega arith; room = omega (arith, pow_mono {i = lower + 1} {j = m + 1} (omega arith)) }

  finished : runs.steps (nodes_in n) (at_start edition statement n m store) ≡ finished_run edition statement n m store
  unfolding nodes_in
  finished = run-reached edition statement n m store depth.1 (nodes_in n) (omega arith)

  old-stores : OpenedLower edition statement n m lower store
  old-stores =
      record {
        opening =
            λ leaf out budgets inside room some.
            subst (λ (s : Stamped). OpeningIs edition statement n leaf out (opening_from s edition statement n lower leaf out budgets)) finished
            (opening-lower edition statement n leaf out exists inside m lower store budgets fit (omega arith) bounds room some);
        file =
            λ t bytes budgets size count fits some.
            subst (λ (s : Stamped). FileIs edition statement n t bytes (file_from s statement n lower t bytes budgets)) finished
            (rw
            (file-finished edition statement n m store fit lower t bytes (omega arith) size
            (can_write edition n lower (length store) exists bounds t (length bytes) count fits) budgets some)
            (tree-file edition statement n t bytes exists size depth count));
      }

old-files :
    (edition : ℕ) (statement : List ℕ) (n t : ℕ) → AnEdition edition → length statement ≡ 32 → IsDepth n → IsCount t
    → file_check (file edition statement (label (stamp_rule edition n statement) n root) n t (tree_openings edition statement n t)) statement n t
    ≡ 0
unfolding tree_file
old-files = tree-accepted

pub memory-limit : MemoryLimit
memory-limit =
    record {
      store_enough = λ store room. store-enough store (omega arith);
      store_needed = store-needed;
      start_refused = start-refused;
      run_refused = run-refused;
      opening_refused = opening-refused;
      file_refused = file-refused;
      old_files = old-files;
      old_stores = old-stores;
    }
