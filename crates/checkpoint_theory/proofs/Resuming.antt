-- What is written of a run, its order and its store is read back, whatever stands behind it.
use mathlib.Core.Path.{◌≡◌, refl, sym, ap, subst, ◌∙◌}
use mathlib.Core.Bool.{false}
use mathlib.Core.List.{List, ◌++◌, append_assoc}
use Prim.Native.Nat.{ℕ, ◌+◌, ◌-◌, ◌≤◌, min}
use native.Mathlib.Omega.{arith}
use borrow.Author.Tests.{ltb-false}
use lib.ListN.{length, take, drop, length-append}
use lib.Seq.{take_at, drop_at, drop-drop, take_all}
use Rattle.base.specs.Limits.{max_depth, max_memory, IsCount}
use Rattle.base.proofs.Ranges.{range-of}
use Rattle.sha256.specs.Digest.{digest}
use Rattle.sha256.proofs.Digests.{digest-length}
use Rattle.tree.specs.Store.{store_size}
use Rattle.tree.specs.Walk.{nodes_in}
use Rattle.run.specs.declared.Run.{Run}
use Rattle.run.specs.Steps.{Stamped, stamped, steps, advanced}
use Rattle.run.proofs.RowLaws.{not-impossible}
use Rattle.run_theory.specs.Reached.{store_after}
use Rattle.run_theory.specs.Runs.{Startable, at_start, reached_at}
use Rattle.run_theory.proofs.StoreLaws.{store_length}
use Rattle.run_theory.proofs.RunLaws.{run-reached, advanced-reached}
use Rattle.run_theory.proofs.GoesOn.{goes-possible}
use Rattle.run_record.specs.Layout.{record_of, no_such_run}
use Rattle.run_record.specs.Reading.{resume_row, resumed}
use Rattle.run_record_theory.specs.Pausing.{HasArrays, Continuable, tidied}
use Rattle.run_record_theory.proofs.Reading.{record-back}
use Rattle.run_record_theory.proofs.Pausing.{reached-tidy, reached-continuable}
use Rattle.checkpoint.specs.Layout.{mark, head_size, order_head, covered, checkpoint_of, size_of}
use Rattle.checkpoint.specs.Reading.{depth_in, memory_in, count_in, length_in, store_in, record_end, record_in, fault_of}
use Rattle.checkpoint.specs.Reading.{run_found, size_found}
use Rattle.checkpoint_theory.specs.OnTheWay.{OnTheWay}
use Rattle.checkpoint_theory.specs.Back.{Back}
use Rattle.checkpoint_theory.proofs.Reading.{Read, read_whole, run-found, count-found, size-found}

head-size : (n m t size : ℕ) → length (order_head n m t size) ≡ head_size
unfolding order_head
head-size n m t size = refl

-- ---- where the parts of a checkpoint stand
module _ (run : Run) (t : ℕ) (store more : List ℕ) (whole : length store ≡ store_size run.memory) where
  abbrev bytes : List ℕ
  bytes = checkpoint_of run t store ++ more

  marked : take 15 bytes ≡ mark
  unfolding checkpoint_of covered order_head
  marked = refl

  depth-in : depth_in bytes ≡ run.depth
  unfolding checkpoint_of covered order_head
  depth-in = refl

  memory-in : memory_in bytes ≡ run.memory
  unfolding checkpoint_of covered order_head
  memory-in = refl

  count-in : count_in bytes ≡ t
  unfolding checkpoint_of covered order_head
  count-in = refl

  length-in : length_in bytes ≡ length (record_of run)
  unfolding checkpoint_of covered order_head
  length-in = omega arith

  covered-parts : covered run t store ≡ order_head run.depth run.memory t (length (record_of run)) ++ (store ++ record_of run)
  unfolding covered
  covered-parts =
      rw (take_all (store_size run.memory) store (omega arith))
      (append_assoc (order_head run.depth run.memory t (length (record_of run))) store (record_of run))

  parts : bytes ≡ covered run t store ++ (digest (covered run t store) ++ more)
  unfolding checkpoint_of
  parts = append_assoc (covered run t store) (digest (covered run t store)) more

  behind-head : drop head_size bytes ≡ store ++ (record_of run ++ (digest (covered run t store) ++ more))
  behind-head =
      ap (drop head_size)
      (parts
      ∙ ap (λ (l : List ℕ). l ++ (digest (covered run t store) ++ more)) covered-parts
      ∙ append_assoc (order_head run.depth run.memory t (length (record_of run))) (store ++ record_of run) _)
      ∙ drop_at (order_head run.depth run.memory t (length (record_of run))) _ head_size (head-size run.depth run.memory t (length (record_of run)))
      ∙ append_assoc store (record_of run) _

  store_in_lem : store_in bytes ≡ store
  store_in_lem = rw (memory-in, behind-head) (take_at store _ (store_size run.memory) whole)

  record-in : record_in bytes ≡ record_of run
  record-in =
      rw (memory-in, length-in, ← drop-drop (store_size run.memory) head_size bytes, behind-head, drop_at store _ (store_size run.memory) whole)
      (take_at (record_of run) _ (length (record_of run)) refl)

  covered-size : length (covered run t store) ≡ head_size + store_size run.memory + length (record_of run)
  covered-size =
      rw (covered-parts, length-append, length-append store (record_of run), head-size run.depth run.memory t (length (record_of run)))
      (omega arith)

  checkpoint-size : length (checkpoint_of run t store) ≡ size_of run.memory (length (record_of run))
  unfolding checkpoint_of
  checkpoint-size = rw (length-append, digest-length, covered-size)

  end-in : record_end bytes ≡ length (covered run t store)
  end-in = rw (memory-in, length-in, covered-size)

  hashed-in : take (record_end bytes) bytes ≡ covered run t store
  hashed-in = rw (end-in, parts) (take_at (covered run t store) _ (length (covered run t store)) refl)

  digest-in : take 32 (drop (record_end bytes) bytes) ≡ digest (covered run t store)
  digest-in =
      rw (end-in, parts, drop_at (covered run t store) (digest (covered run t store) ++ more) (length (covered run t store)) refl)
      (take_at (digest (covered run t store)) more 32 (digest-length (covered run t store)))

  -- ---- it is read back
  module _ (arrays : HasArrays run) (can : no_such_run run.edition run.depth run.memory run.made ≡ false) (count : IsCount t) where
    record-read : (resume_row (record_of run) ≡ 0) × (resumed (record_of run) ≡ tidied run)
    record-read = record-back run arrays can

    long-enough : size_of run.memory (length (record_of run)) ≤ length bytes
    long-enough = rw length-append (omega (arith, checkpoint-size))

    is_read : Read bytes
    unfolding tidied
    is_read =
        let (x, d, o, l) = not-impossible run.edition run.depth run.memory run.made (nodes_in run.depth) can in
        record {
          headed = omega (arith, long-enough);
          marked = marked;
          depth = rw depth-in (range-of 1 max_depth run.depth d);
          memory = rw (depth-in, memory-in) (ltb-false (min run.depth max_memory) run.memory o);
          count = rw count-in count;
          enough = rw (memory-in, length-in) long-enough;
          hashed = rw hashed-in digest-in;
          row = rw record-in record-read.0;
          run_depth = rw (record-in, record-read.1, depth-in);
          run_memory = rw (record-in, record-read.1, memory-in);
        }

    pub checkpoint-back : Back bytes (tidied run) t store (length (checkpoint_of run t store)) more
    checkpoint-back =
        let none : fault_of bytes ≡ 0 = read_whole bytes is_read in
        let size : size_found bytes ≡ length (checkpoint_of run t store) =
        size-found bytes none ∙ rw (memory-in, length-in) (sym checkpoint-size) in
        record {
          is_whole = none;
          run_back = run-found bytes none ∙ rw record-in record-read.1;
          count_back = count-found bytes none ∙ count-in;
          size_back = size;
          store_back = store_in_lem;
          more_back = rw size (drop_at (checkpoint_of run t store) more (length (checkpoint_of run t store)) refl);
        }

-- ---- a start and calls give runs on their way
module _ (edition : ℕ) (statement : List ℕ) (n m : ℕ) (first : List ℕ) (startable : Startable edition n m (length first))
    (size : length statement ≡ 32) (whole : length first ≡ store_size m) where
  pub reached-on-the-way : (k : ℕ) → k ≤ nodes_in n
      → OnTheWay (steps k (at_start edition statement n m first)).run (steps k (at_start edition statement n m first)).store
  reached-on-the-way k few =
      let here : steps k (at_start edition statement n m first) ≡ reached_at edition statement n m first k =
      run-reached edition statement n m first startable.shallow k few in
      rw here
      (record {
        first = first;
        startable = startable;
        whole = store_length edition statement n m first startable.enough k few ∙ whole;
        statement_size = size;
        few = few;
        reached = sym here;
      })

-- a call leaves it on its way
module _ (run : Run) (store : List ℕ) (way : OnTheWay run store) where
  abbrev start : Stamped
  start = at_start run.edition run.statement run.depth run.memory way.first

  first-whole : length way.first ≡ store_size run.memory
  first-whole =
      let n : ℕ = run.depth in
      let same : (steps run.made start).store ≡ store = sym (ap (λ (s : Stamped). s.store) way.reached) in
      let there : (steps run.made start).store ≡ store_after run.edition run.statement n run.memory run.made way.first =
      ap (λ (s : Stamped). s.store)
      (run-reached run.edition run.statement n run.memory way.first way.startable.shallow run.made way.few) in
      sym (store_length run.edition run.statement n run.memory way.first way.startable.enough run.made way.few)
      ∙ ap length (sym there ∙ same)
      ∙ way.whole

  pub advanced-on-the-way : (budget : ℕ) → OnTheWay (advanced (stamped run store) budget).run (advanced (stamped run store) budget).store
  advanced-on-the-way budget =
      let n : ℕ = run.depth in
      let k : ℕ = run.made + min budget (nodes_in n - run.made) in
      let after : advanced (stamped run store) budget ≡ steps k start =
      ap (λ (s : Stamped). advanced s budget) way.reached
      ∙ advanced-reached run.edition run.statement n run.memory way.first way.startable run.made budget way.few in
      subst (λ (s : Stamped). OnTheWay s.run s.store) (sym after)
      (reached-on-the-way run.edition run.statement n run.memory way.first way.startable way.statement_size first-whole k
      (omega (arith, way.few)))

-- ---- a run on its way is read back as it was
module _ (run : Run) (store : List ℕ) (way : OnTheWay run store) where
  pub way-continuable : Continuable (stamped run store)
  way-continuable =
      subst (λ (s : Stamped). Continuable s) (sym way.reached)
      (reached-continuable run.edition run.statement run.depth run.memory way.first way.startable way.statement_size run.made way.few)

  way-tidy : tidied run ≡ run
  way-tidy =
      let same : run ≡ (steps run.made (at_start run.edition run.statement run.depth run.memory way.first)).run =
      ap (λ (s : Stamped). s.run) way.reached in
      ap tidied same
      ∙ reached-tidy run.edition run.statement run.depth run.memory way.first way.startable way.statement_size run.made way.few
      ∙ sym same

  module _ (t : ℕ) (count : IsCount t) (more : List ℕ) where
    pub resumed-on-the-way : Back (checkpoint_of run t store ++ more) run t store (length (checkpoint_of run t store)) more
    resumed-on-the-way =
        subst (λ (r : Run). Back (checkpoint_of run t store ++ more) r t store (length (checkpoint_of run t store)) more) way-tidy
        (checkpoint-back run t store more way.whole way-continuable.arrays (goes-possible run (length store) way-continuable.goes) count)

    pub still-on-the-way : OnTheWay (run_found (checkpoint_of run t store ++ more)) (store_in (checkpoint_of run t store ++ more))
    still-on-the-way = rw (resumed-on-the-way.run_back, resumed-on-the-way.store_back) way
