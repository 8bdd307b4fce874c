-- A file is carried to its end whatever store and root are: each step makes one label, and the next openings are begun in turn.
use mathlib.Core.Path.{◌≡◌, refl, ap, ◌∙◌}
use mathlib.Core.Logic.{⊎_elim}
use Prim.Native.Nat.{ℕ, zero, suc, ◌+◌, ◌-◌, ◌*◌, ◌^◌, ◌≤◌, ◌<◌}
use native.Mathlib.Nat.{add-mul}
use native.Mathlib.Omega.{arith}
use mathlib.Core.Bool.{false}
use mathlib.Core.List.{List}
use lib.Dec.{eqb}
use lib.ListN.{length}
use borrow.Author.Tests.{eq-eqb, ne_eqb, lt-ltb, le-ltb}
use Rattle.base.specs.Limits.{held_size}
use Rattle.base.specs.Bytes.{zeros, written}
use Rattle.base.proofs.ChoiceLaws.{both_false}
use Rattle.base.proofs.Copying.{length-written}
use Rattle.machine.specs.Machines as machines
use Rattle.machine.specs.Machines.{Goes}
use Rattle.base.proofs.ChoiceLaws.{lt-or-le}
use Rattle.tree.specs.Openings.{opening_size}
use Rattle.opening.specs.declared.Opening.{Opening}
use Rattle.opening.specs.Rows.{nodes_anew}
use Rattle.opening.specs.Steps as openings
use Rattle.opening.specs.Steps.{opening_of}
use Rattle.opening_places.specs.Places.{copied_all}
use Rattle.opening.specs.Names.{open_of}
use Rattle.file_head.specs.Challenge.{challenge_leaf}
use Rattle.file_head.specs.Layout.{head, head_size, opening_from, file_size}
use Rattle.file_head.proofs.Leaves.{challenge_leaf-small}
use Rattle.check_theory.proofs.Reading.{length-head}
use Rattle.writing.specs.Rows.{rewrite_row}
use Rattle.writing.specs.Steps.{Written, part_of, begun, may_follow, followed, new_writing, stepped, remaining, writing_machine, steps}
use Rattle.writing_theory.specs.Filed.{Writable}
use Rattle.writing_theory.proofs.Laid.{size-next, size_fits, size-from, part-size}
use Rattle.writing_theory.proofs.Places.{behind-place}
use Rattle.writing_theory.proofs.Rows.{write_done, started-done, rewrite-done}
use Rattle.writing.proofs.StepLaws.{followed-stays}
use Rattle.demands.specs.Demand1.{AnEdition, started_file, InBounds, WritingEnds}
use Rattle.demands.proofs.Carrying.{carried-out, can_write}
use Rattle.demands.proofs.Openings.{length-copied-all, OpeningAt, opening-more}

-- a writing by its fields, with its file
abbrev writing_of : List ℕ → ℕ → ℕ → Opening → List ℕ → Written
writing_of root t q o file = record { writing = record { root = root; count = t; number = q + 1; opening = o }; file = file }

-- opening q + 1 is under way, with r labels made
record WritingAt (edition : ℕ) (statement root : List ℕ) (n m t size q r : ℕ) (s : Written) : Type 0 where
  pub leaf : ℕ
  pub held : List ℕ
  pub file : List ℕ
  pub is : s ≡ writing_of root t q (opening_of edition statement n m leaf r held) file
  pub inside : leaf < 2 ^ n
  pub length : length file ≡ size

-- a part written over an opening's place
length_part :
    (n t q : ℕ) (file part : List ℕ) → q < t → file_size n t ≤ length file → length part ≡ opening_size n
    → length (written file (opening_from n (head_size n t) (q + 1)) part) ≡ length file
length_part n t q file part few fits size =
    length-written file (opening_from n (head_size n t) (q + 1)) part
    (omega (arith, size-from n t q, size-next n t q, size_fits n t q few))

part_length : (n t q : ℕ) (file : List ℕ) → q < t → file_size n t ≤ length file → length (part_of n t (q + 1) file) ≡ opening_size n
part_length n t q file few fits = rw (size-from n t q) (part-size n t file q few fits)

module _
    (edition : ℕ) (statement root : List ℕ) (n m t size : ℕ) (store : List ℕ) (bounds : InBounds n m (length store))
    (fits : file_size n t ≤ size) where
  abbrev anew : ℕ
  anew = nodes_anew n m

  -- ---- opening q + 1 is begun
  begun-at :
      (q : ℕ) (file : List ℕ) → q < t → length file ≡ size
      → WritingAt edition statement root n m t size q 0 (begun edition statement root n m t store (q + 1) file)
  unfolding begun
  begun-at q file few long =
      let leaf : ℕ = challenge_leaf edition n statement root (q + 1) in
      let part : List ℕ = part_of n t (q + 1) file in
      let inside : leaf < 2 ^ n = challenge_leaf-small edition n statement root (q + 1) (omega (arith, bounds.depth.1)) in
      let before : length part ≡ opening_size n = part_length n t q file few (omega arith) in
      let after : length (copied_all n m leaf store part) ≡ opening_size n =
      length-copied-all n m leaf store bounds.depth.0 (omega (arith, bounds.memory)) inside bounds.room part (omega arith) ∙ before in
      record {
        leaf = leaf;
        held = zeros held_size;
        file = written file (opening_from n (head_size n t) (q + 1)) (copied_all n m leaf store part);
        is = refl;
        inside = inside;
        length = length_part n t q file (copied_all n m leaf store part) few (omega arith) after ∙ long;
      }

  -- ---- it makes a label
  abbrev opened : ℕ → List ℕ → ℕ → List ℕ → ℕ → openings.Open
  opened leaf held r file q = open_of (opening_of edition statement n m leaf r held) (part_of n t (q + 1) file)

  stepped-fields :
      (leaf q r : ℕ) (held file : List ℕ)
      → stepped store (writing_of root t q (opening_of edition statement n m leaf r held) file)
      ≡ followed store t
      (writing_of root t q (openings.stepped store (opened leaf held r file q)).opening
      (written file (opening_from n (head_size n t) (q + 1)) (openings.stepped store (opened leaf held r file q)).out))
  unfolding stepped
  stepped-fields leaf q r held file = refl

  -- the state before the next openings are begun
  record Stepped (q r : ℕ) (s : Written) : Type 0 where
    pub before : Written
    pub is : stepped store s ≡ followed store t before
    pub at : WritingAt edition statement root n m t size q r before

  label-made : (q r : ℕ) (s : Written) → q < t → r < anew → WritingAt edition statement root n m t size q r s → Stepped q (suc r) s
  label-made q r s few small at =
      let part : List ℕ = part_of n t (q + 1) at.file in
      let before : length part ≡ opening_size n = part_length n t q at.file few (omega (arith, at.length)) in
      let o : openings.Open = opened at.leaf at.held r at.file q in
      let made : OpeningAt edition statement n m at.leaf (opening_size n) (suc r) (openings.stepped store o) =
      opening-more edition statement n m at.leaf (opening_size n) store r o (omega (arith, bounds.memory)) (omega arith) small
      (record { held = at.held; out = part; is = refl; length = before }) in
      record {
        before =
            writing_of root t q (opening_of edition statement n m at.leaf (suc r) made.held)
            (written at.file (opening_from n (head_size n t) (q + 1)) made.out);
        is = rw at.is (stepped-fields at.leaf q r at.held at.file ∙ rw made.is);
        at =
            record {
              leaf = at.leaf;
              held = made.held;
              file = written at.file (opening_from n (head_size n t) (q + 1)) made.out;
              is = refl;
              inside = at.inside;
              length = length_part n t q at.file made.out few (omega (arith, at.length)) made.length ∙ at.length;
            };
      }

  -- ---- the next openings are begun
  -- after k labels: of the opening under way not all are made, unless it is the last
  record Reached (k : ℕ) (s : Written) : Type 0 where
    pub number : ℕ
    pub made : ℕ
    pub few : number < t
    pub under : made < anew + (number + 2 - t)
    pub sum : number * anew + made ≡ k
    pub at : WritingAt edition statement root n m t size number made s

  none-follows : (q r : ℕ) (s : Written) → WritingAt edition statement root n m t size q r s → r < anew + (q + 2 - t) → may_follow s.writing ≡ false
  none-follows q r s at under =
      rw at.is
      (⊎_elim
      (λ before. rw (ne_eqb r anew (omega arith)))
      (λ done. rw (le-ltb (q + 1) t (omega arith)) (both_false (eqb r anew)))
      (lt-or-le r anew))

  stays-reached :
      (left q r k : ℕ) (s : Written) → q < t → r < anew + (q + 2 - t) → q * anew + r ≡ k → WritingAt edition statement root n m t size q r s
      → Reached k (followed store left s)
  stays-reached left q r k s few under sum at =
      rw (followed-stays store left s (none-follows q r s at under)) (record { number = q; made = r; few = few; under = under; sum = sum; at = at })

  goes :
      (left q r : ℕ) (s : Written) (at : WritingAt edition statement root n m t size q r s) → r ≡ anew → q + 1 < t
      → followed store (suc left) s ≡ followed store left (begun edition statement root n m t store (q + 1 + 1) at.file)
  unfolding followed
  goes left q r s at done more = rw (at.is, eq-eqb r anew done, lt-ltb (q + 1) t more)

  goes-reached :
      (left q r k : ℕ) (s : Written) (at : WritingAt edition statement root n m t size q r s) → r ≡ anew → q + 1 < t
      → Reached k (followed store left (begun edition statement root n m t store (q + 1 + 1) at.file))
      → Reached k (followed store (suc left) s)
  goes-reached left q r k s at done more reached = rw (goes left q r s at done more) reached

  follows :
      (left q r k : ℕ) (s : Written) → q < t → r ≤ anew → t ≤ q + 1 + left → q * anew + r ≡ k → WritingAt edition statement root n m t size q r s
      → Reached k (followed store left s)
  follows zero q r k s few small enough sum at = stays-reached zero q r k s few (omega arith) sum at
  follows (suc left) q r k s few small enough sum at =
      ⊎_elim
      (λ before. stays-reached (suc left) q r k s few (omega arith) sum at)
      (λ after.
      let done : r ≡ anew = omega arith in
      ⊎_elim
      (λ more.
      goes-reached left q r k s at done more
      (follows left (q + 1) 0 k (begun edition statement root n m t store (q + 1 + 1) at.file) more (omega arith) (omega arith)
      (omega (arith, add-mul q 1 anew))
      (begun-at (q + 1) at.file more at.length)))
      (λ last. stays-reached (suc left) q r k s few (omega arith) sum at)
      (lt-or-le (q + 1) t))
      (lt-or-le r anew)

  -- ---- k labels
  -- labels are left before the end
  some_left : (k q r : ℕ) → k < t * anew → q < t → r < anew + (q + 2 - t) → q * anew + r ≡ k → r < anew
  some_left k q r small few under sum =
      ⊎_elim
      (λ before. before)
      (λ after.
      let last : q + 1 ≡ t = omega arith in
      let all : t * anew ≡ q * anew + 1 * anew = rw last at (add-mul q 1 anew) in
      omega arith)
      (lt-or-le r anew)

  stepped-reached : (k q r : ℕ) (s : Written) → q < t → r < anew → q * anew + r ≡ k → Stepped q (suc r) s → Reached (suc k) (stepped store s)
  stepped-reached k q r s few small sum made =
      rw made.is (follows t q (suc r) (suc k) made.before few small (omega arith) (omega arith) made.at)

  reached-more : (k : ℕ) (s : Written) → k < t * anew → Reached k s → Reached (suc k) (stepped store s)
  reached-more k s small at =
      let left : at.made < anew = some_left k at.number at.made small at.few at.under at.sum in
      stepped-reached k at.number at.made s at.few left at.sum
      (label-made at.number at.made s at.few left at.at)

-- ---- from the start
module _
    (edition : ℕ) (statement root : List ℕ) (n m t : ℕ) (store file : List ℕ) (exists : AnEdition edition)
    (statement_size : length statement ≡ 32) (root_size : length root ≡ 32) (bounds : InBounds n m (length store)) (count : (1 ≤ t) × (t ≤ 200))
    (fits : file_size n t ≤ length file) where
  writable : Writable edition n m t (length store) (length file)
  writable = can_write edition n m (length store) exists bounds t (length file) count fits

  abbrev start : Written
  start = started_file edition statement root n m t store file

  head-fits : length (written file 0 (head edition statement root n t)) ≡ length file
  unfolding file_size
  head-fits =
      length-written file 0 (head edition statement root n t)
      (rw (length-head edition statement root n t statement_size root_size (omega (arith, exists.1))) (omega arith))

  new-reached : Reached edition statement root n m t (length file) store bounds fits 0 (new_writing edition statement root n m t store file)
  unfolding new_writing
  new-reached =
      follows edition statement root n m t (length file) store bounds fits t 0 0 0
      (begun edition statement root n m t store 1 (written file 0 (head edition statement root n t))) (omega (arith, count.0)) (omega arith)
      (omega arith) (omega arith)
      (begun-at edition statement root n m t (length file) store bounds fits 0 (written file 0 (head edition statement root n t))
      (omega (arith, count.0)) head-fits)

  start-reached : Reached edition statement root n m t (length file) store bounds fits 0 start
  start-reached = rw (started-done edition statement root n m t store file writable) new-reached

  steps-reached : (k : ℕ) → k ≤ t * nodes_anew n m → Reached edition statement root n m t (length file) store bounds fits k (steps store k start)
  unfolding machines.steps writing_machine
  steps-reached zero small = start-reached
  steps-reached (suc k) small =
      reached-more edition statement root n m t (length file) store bounds fits k (steps store k start) small (steps-reached k (omega arith))

  goes_on :
      (k : ℕ) → k ≤ t * nodes_anew n m → rewrite_row (steps store k start).writing (length store) (length (steps store k start).file) ≡ 0
  goes_on k small =
      let r = steps-reached k small in
      rw (r.at.is, r.at.length)
      (rewrite-done
      (record { root = root; count = t; number = r.number + 1; opening = opening_of edition statement n m r.at.leaf r.made r.at.held })
      (length store) (length file) writable (omega (arith, r.under, r.few)) r.at.inside (omega arith, omega (arith, r.few))
      (rw r.at.is
      at (none-follows edition statement root n m t (length file) store bounds fits r.number r.made (steps store k start) r.at r.under)))

  left_at : (k : ℕ) → k ≤ t * nodes_anew n m → remaining (steps store k start).writing ≡ t * nodes_anew n m - k
  left_at k small =
      let r = steps-reached k small in
      rw r.at.is
      (behind-place t r.number r.made (nodes_anew n m) r.few (omega (arith, r.under, r.few))
      ∙ ap (λ (j : ℕ). t * nodes_anew n m - j) r.sum)

  pub file-goes : Goes (writing_machine store) start (t * nodes_anew n m)
  unfolding writing_machine
  file-goes = record { done = goes_on; left = left_at }

  pub writing-ends : WritingEnds edition statement root n m t store file
  unfolding writing_machine
  writing-ends =
      record {
        starts = write_done edition n m t (length store) (length file) writable;
        ends = carried-out (writing_machine store) start (t * nodes_anew n m) file-goes;
      }
