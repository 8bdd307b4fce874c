-- Laws of taking up a checkpoint: how many openings are taken, that they are there, and what store and file hold afterwards.
use mathlib.Core.Path.{◌≡◌, refl, ap, ◌∙◌}
use mathlib.Core.Bool.{Bool, true, false}
use mathlib.Core.List.{List}
use mathlib.Core.Logic.{⊎_elim}
use Prim.Native.Nat.{ℕ, zero, suc, ◌+◌, ◌-◌, ◌*◌, ◌≤◌, ◌<◌}
use native.Mathlib.Nat.{mul-le-mul_right}
use native.Mathlib.Omega.{arith}
use borrow.Author.Tests.{eq-eqb, ne_eqb, leb-true}
use lib.Dec.{eqb, leb}
use lib.ListN.{length, take, drop, length-drop}
use Rattle.base.specs.Bytes.{written}
use Rattle.base.specs.Choice.{pick, both}
use Rattle.base.specs.Limits.{max_depth, max_challenges, max_openings, max_file}
use Rattle.base.specs.Row.{outside, either, is_done}
use Rattle.base.proofs.ChoiceLaws.{both_first, lt-or-le}
use Rattle.base.proofs.Parts.{part-size, part-rest}
use Rattle.tree.specs.Openings.{opening_size}
use Rattle.tree.specs.Store.{store_size}
use Rattle.tree.specs.Walk.{nodes_in}
use Rattle.run.specs.declared.Run.{Run}
use Rattle.run.proofs.RowLaws.{Possible, possible}
use Rattle.file_head.specs.Layout.{head_size, file_size}
use Rattle.file_head.proofs.HeadLaws.{openings-small}
use Rattle.file_head.proofs.WritingLaws.{size-three, size-four}
use Rattle.checkpoint.specs.Layout as checkpoint
use Rattle.checkpoint.specs.declared.Found.{Found}
use Rattle.checkpoint.specs.Reading.{memory_in, fault_of, run_found, count_found, size_found, IsFoundIn}
use Rattle.checkpoint.specs.Openings.{is_right, right_after, openings_taken}
use Rattle.checkpoint_theory.proofs.Openings.{any-openings-right}
use Rattle.checkpoint_theory.proofs.Reading.{read, found-possible, found-order}
use Rattle.sealing.specs.TakenUp.{openings_done, store_taken, file_taken}

-- ---- how many openings are taken
none_or : (t : Bool) (some most : ℕ) → some ≤ most → pick t 0 some ≤ most
none_or true some most few = omega arith
none_or false some most few = few

some_or : (t : Bool) (some most : ℕ) → some ≤ most → pick t some 0 ≤ most
some_or true some most few = few
some_or false some most few = omega arith

module _ (edition : ℕ) (statement root : List ℕ) (n : ℕ) (bytes : List ℕ) where
  after-few : (done left : ℕ) → right_after edition statement root n bytes done left ≤ left
  unfolding right_after
  after-few done zero = omega arith
  after-few done (suc left) =
      some_or (is_right edition statement root n bytes (done + 1)) (suc (right_after edition statement root n bytes (done + 1) left)) (suc left)
      (omega (arith, after-few (done + 1) left))

  -- no more than the order asks for
  pub taken-few : (t : ℕ) → openings_taken edition statement root n t bytes ≤ t
  unfolding openings_taken
  taken-few t =
      none_or (either (outside 1 max_depth n) (outside 1 max_challenges t)) (right_after edition statement root n bytes 0 t) t (after-few 0 t)

  -- all of them are there
  taken-there : (t : ℕ) → openings_taken edition statement root n t bytes * opening_size n ≤ length bytes
  taken-there t = by (openings_taken edition statement root n t bytes) refl
    where
      by : (k : ℕ) → openings_taken edition statement root n t bytes ≡ k → k * opening_size n ≤ length bytes
      by zero e = omega arith
      by (suc k) e =
          leb-true (suc k * opening_size n) (length bytes)
          (both_first (leb (suc k * opening_size n) (length bytes)) _ (any-openings-right edition statement root n bytes t (suc k) (omega arith) (omega arith)))

-- ---- of a run: none before all labels are made
abbrev done_of : Run → ℕ → List ℕ → ℕ
done_of run t behind =
    pick (eqb run.made (nodes_in run.depth)) (openings_taken run.edition run.statement (take 32 run.held) run.depth t behind) 0

module _ (run : Run) (t : ℕ) (behind : List ℕ) where
  pub not_yet : run.made < nodes_in run.depth → 0 ≡ done_of run t behind
  not_yet less = rw (ne_eqb run.made (nodes_in run.depth) (omega arith))

  pub all_made : (root : List ℕ) (done : ℕ) → run.made ≡ nodes_in run.depth → root ≡ take 32 run.held
      → done ≡ openings_taken run.edition run.statement root run.depth t behind → done ≡ done_of run t behind
  all_made root done all is e = rw (eq-eqb run.made (nodes_in run.depth) all, ← is) e

  done-there : done_of run t behind * opening_size run.depth ≤ length behind
  done-there = by (eqb run.made (nodes_in run.depth))
    where
      by : (b : Bool)
          → pick b (openings_taken run.edition run.statement (take 32 run.held) run.depth t behind) 0 * opening_size run.depth
          ≤ length behind
      by true = taken-there run.edition run.statement (take 32 run.held) run.depth behind t
      by false = omega arith

pub done-few : (bytes : List ℕ) → openings_done bytes ≤ count_found bytes
unfolding openings_done
done-few bytes =
    let run : Run = run_found bytes in
    some_or (both (is_done (fault_of bytes)) (eqb run.made (nodes_in run.depth))) _ _
    (taken-few run.edition run.statement (take 32 run.held) run.depth (drop (size_found bytes) bytes) (count_found bytes))

-- ---- beside a fault nothing is taken
module _ (bytes : List ℕ) (fault : is_done (fault_of bytes) ≡ false) where
  pub none_done : 0 ≡ openings_done bytes
  unfolding openings_done
  none_done = rw fault

  pub store_left : (store : List ℕ) → store ≡ store_taken bytes store
  unfolding store_taken
  store_left store = rw fault

  pub file_left : (file : List ℕ) → file ≡ file_taken bytes file
  unfolding file_taken
  file_left file = rw fault

-- ---- of a whole checkpoint: its store, with at least a SHA-256 behind it
module _ (bytes : List ℕ) (whole : fault_of bytes ≡ 0) where
  pub can-be : let run = run_found bytes in Possible run.edition run.depth run.memory run.made
  can-be = let run = run_found bytes in possible run.edition run.depth run.memory run.made (found-possible bytes whole)

  module _ (m size : ℕ) (level : m ≡ (run_found bytes).memory) (all : size ≡ store_size m) where
    pub store-there : checkpoint.head_size + size + 32 ≤ length bytes
    store-there =
        let e : size ≡ store_size (memory_in bytes) = all ∙ ap store_size (level ∙ (found-order bytes whole).memory) in
        omega (arith, (read bytes whole).enough)

    pub store-taken : (store : List ℕ) (from : ℕ) → from ≡ checkpoint.head_size
        → written store 0 (take (from + size - from) (drop from bytes)) ≡ store_taken bytes store
    unfolding store_taken
    store-taken store from is = rw (whole, part-size bytes from size, is, all, level, (found-order bytes whole).memory)

-- ---- and the openings behind it
pub record Bounded (bytes : List ℕ) (found : Found) : Type 0 where
  pub possible : Possible found.run.edition found.run.depth found.run.memory found.run.made
  pub few : found.count ≤ max_challenges
  pub inside : found.size ≤ length bytes

-- the openings that are done are there, no more than the order asks for
pub record Counted (bytes : List ℕ) (found : Found) (done : ℕ) : Type 0 where
  pub inside : found.size + done * opening_size found.run.depth ≤ length bytes
  pub room : done * opening_size found.run.depth ≤ found.count * opening_size found.run.depth
  pub short : found.count * opening_size found.run.depth ≤ max_openings

module _ {bytes : List ℕ} {found : Found} (whole : fault_of bytes ≡ 0) (f : IsFoundIn bytes found) where
  pub bounded : Bounded bytes found
  bounded =
      let order = found-order bytes whole in
      record {
        possible = rw f.run (can-be bytes whole);
        few = omega (arith, f.count, order.count.1);
        inside = omega (arith, f.size, order.inside);
      }

  module _ {done : ℕ} (is : done ≡ done_of found.run found.count (take (length bytes - found.size) (drop found.size bytes))) where
    pub done-is : done ≡ openings_done bytes
    unfolding openings_done
    done-is = rw (whole, ← f.run, ← f.size, ← f.count, ← part-rest bytes found.size) is

    pub counted : Counted bytes found done
    counted =
        let e : length (take (length bytes - found.size) (drop found.size bytes)) ≡ length bytes - found.size =
        ap length (part-rest bytes found.size) ∙ length-drop found.size bytes in
        let le : done * opening_size found.run.depth ≤ length (take (length bytes - found.size) (drop found.size bytes)) = rw is (done-there found.run found.count _) in
        record {
          inside = omega (arith, bounded.inside);
          room = mul-le-mul_right {m = done} {n = found.count} (opening_size found.run.depth) (omega (arith, done-is, done-few bytes, f.count));
          short = openings-small found.run.depth found.count bounded.possible.depth bounded.few;
        }

    pub file-taken : (file : List ℕ) (at : ℕ) → at ≡ head_size found.run.depth found.count
        → written file at (take (found.size + done * opening_size found.run.depth - found.size) (drop found.size bytes)) ≡ file_taken bytes file
    unfolding file_taken
    file-taken file at e =
        rw (whole, part-size bytes found.size (done * opening_size found.run.depth), e, done-is, f.run, f.size, f.count)

-- ---- where the openings begin: as many before the file's end as there are
pub openings-start : (n t size : ℕ) → size ≡ file_size n t → (t * opening_size n ≤ size) × (size - t * opening_size n ≡ head_size n t)
unfolding file_size
openings-start n t size e = (omega arith, omega arith)

-- every file fits the longest
pub file-fits : (n t : ℕ) → n ≤ max_depth → t ≤ max_challenges → file_size n t ≤ max_file
file-fits n t h k =
    ⊎_elim
    (λ few. omega (arith, size-three n t h few, openings-small n t h k))
    (λ many. omega (arith, size-four n t h many k, openings-small n t h k))
    (lt-or-le t 128)
