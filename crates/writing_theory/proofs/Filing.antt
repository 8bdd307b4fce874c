-- A file opening by opening: each is begun, labelled and done, the next one follows, and at the end the file is the tree's.
use mathlib.Core.Path.{◌≡◌, refl, sym, ap, ◌∙◌}
use mathlib.Core.Logic.{⊎_elim}
use Prim.Native.Nat.{ℕ, zero, suc, ◌+◌, ◌-◌, ◌*◌, ◌≤◌, ◌<◌}
use native.Mathlib.Nat.{add-zero, add-suc, zero-mul, mul-zero, suc-mul}
use native.Mathlib.Numerals.{add-one}
use native.Mathlib.Omega.{arith}
use mathlib.Core.Bool.{false}
use mathlib.Core.List.{List, [], ◌++◌, append_assoc, append-nil}
use lib.Dec.{eqb}
use lib.ListN.{length, take, drop, drop_of_length-le}
use lib.Seq.{take_at, drop_at}
use borrow.Author.Tests.{eq-eqb, ne_eqb, lt-ltb, le-ltb}
use Rattle.base.proofs.ChoiceLaws.{both_false}
use Rattle.base.proofs.WrittenLaws.{written_over}
use Rattle.base.proofs.ChoiceLaws.{lt-or-le}
use Rattle.tree.specs.Openings.{opening_size}
use Rattle.opening.specs.Rows.{nodes_anew}
use Rattle.machine.specs.Machines as machines
use Rattle.opening_places.specs.Places.{copied_all}
use Rattle.opening.specs.Steps.{Open}
use Rattle.file_head.specs.Layout.{file_size}
use Rattle.proof_file.specs.FileCheck.{file_check}
use Rattle.run_theory.specs.Openings.{HoldsLabels, new_open, open_after, out_after}
use Rattle.run_theory.proofs.OpeningRun.{opening-start, opening-step, length-after, opening-done}
use Rattle.run_theory.proofs.OpeningCalls.{none-anew}
use Rattle.check_theory.specs.TreeFile.{root_of, tree_file}
use Rattle.writing.specs.Steps.{begun, may_follow, followed, stepped, new_writing, writing_machine, steps}
use Rattle.writing.proofs.StepLaws.{followed-stays}
use Rattle.writing_theory.specs.Filed.{laid, laid_size, under_way, leaf_after, written_at, Writable, new_file, labels_anew}
use Rattle.writing_theory.proofs.Laid.{size-from, laid-length, laid_next, size-all, laid-all, laid-head, leaf-inside, part-size, part-split}
use Rattle.writing_theory.proofs.Laid.{front-accepted}
use Rattle.writing_theory.proofs.Places.{last-size}

-- a part of bytes
part-there : (a b c : List ℕ) (at size : ℕ) → length a ≡ at → length b ≡ size → take size (drop at (a ++ (b ++ c))) ≡ b
part-there a b c at size e f = rw (drop_at a (b ++ c) at e) (take_at b c size f)

module _
    (edition : ℕ) (statement : List ℕ) (n m t : ℕ) (store file : List ℕ) (size : length statement ≡ 32)
    (holds : HoldsLabels edition statement n m store) (fits : Writable edition n m t (length store) (length file)) where
  memory-le : m ≤ n
  memory-le = omega arith

  -- over any bytes for the part and behind it
  module _ (q : ℕ) (b c : List ℕ) (part : length b ≡ opening_size n) where
    part-begun :
        begun edition statement (root_of edition statement n) n m t store (q + 1) (laid edition statement n t q ++ (b ++ c))
        ≡ under_way (root_of edition statement n) t q (laid edition statement n t q)
        (open_after edition statement n m (leaf_after edition statement n q) 0 b) c
    unfolding begun under_way
    part-begun =
        let leaf : ℕ = leaf_after edition statement n q in
        let a : List ℕ = laid edition statement n t q in
        let long : length a ≡ laid_size n t q = laid-length edition statement n t q (omega arith) size in
        let start : new_open edition statement n m leaf store b ≡ open_after edition statement n m leaf 0 b =
        opening-start edition statement n m leaf store holds (leaf-inside edition statement n q fits.depth.1) b memory-le in
        let same : length b ≡ length (copied_all n m leaf store b) =
        sym
        (ap (λ (o : Open). length o.out) start
        ∙ length-after edition statement n m leaf b fits.depth.0 memory-le (omega arith) 0 (omega arith)) in
        rw (
          size-from n t q,
          part-there a b c (laid_size n t q) (opening_size n) long part,
          written_over a b c (copied_all n m leaf store b) (laid_size n t q) long same,
        )
        (ap (λ (o : Open). under_way (root_of edition statement n) t q a o c) start)

    part-stepped :
        (r : ℕ) → r < nodes_anew n m
        → stepped store (under_way (root_of edition statement n) t q (laid edition statement n t q)
        (open_after edition statement n m (leaf_after edition statement n q) r b) c)
        ≡ followed store t
        (under_way (root_of edition statement n) t q (laid edition statement n t q)
        (open_after edition statement n m (leaf_after edition statement n q) (r + 1) b) c)
    unfolding stepped under_way
    part-stepped r few =
        let leaf : ℕ = leaf_after edition statement n q in
        let a : List ℕ = laid edition statement n t q in
        let long : length a ≡ laid_size n t q = laid-length edition statement n t q (omega arith) size in
        let now : length (out_after edition statement n m leaf r b) ≡ opening_size n =
        length-after edition statement n m leaf b fits.depth.0 memory-le (omega arith) r (omega arith) ∙ part in
        let then : length (out_after edition statement n m leaf (r + 1) b) ≡ opening_size n =
        length-after edition statement n m leaf b fits.depth.0 memory-le (omega arith) (r + 1) (omega arith) ∙ part in
        rw (
          size-from n t q,
          part-there a (out_after edition statement n m leaf r b) c (laid_size n t q) (opening_size n) long now,
          opening-step edition statement n m leaf store b holds fits.depth.1 memory-le (leaf-inside edition statement n q fits.depth.1) r few,
          written_over a (out_after edition statement n m leaf r b) c (out_after edition statement n m leaf (r + 1) b)
              (laid_size n t q) long (now ∙ sym then),
        )

  -- ---- in the file
  opening-begun :
      (q : ℕ) → q < t
      → begun edition statement (root_of edition statement n) n m t store (q + 1) (laid edition statement n t q ++ drop (laid_size n t q) file)
      ≡ written_at edition statement n m t file q 0
  unfolding written_at
  opening-begun q few =
      ap (λ (l : List ℕ). begun edition statement (root_of edition statement n) n m t store (q + 1) (laid edition statement n t q ++ l))
      (part-split n t file q)
      ∙ part-begun q _ _ (part-size n t file q few fits.file_fits)

  opening-stepped :
      (q r : ℕ) → q < t → r < nodes_anew n m
      → stepped store (written_at edition statement n m t file q r) ≡ followed store t (written_at edition statement n m t file q (r + 1))
  unfolding written_at
  opening-stepped q r few small = part-stepped q _ _ (part-size n t file q few fits.file_fits) r small

  -- an opening that is done is the tree's
  opening-ended :
      (q : ℕ) → q < t
      → (written_at edition statement n m t file q (nodes_anew n m)).file ≡ laid edition statement n t (q + 1) ++ drop (laid_size n t (q + 1)) file
  unfolding written_at under_way
  opening-ended q few =
      let b : List ℕ = take (opening_size n) (drop (laid_size n t q) file) in
      let long : length b ≡ opening_size n = part-size n t file q few fits.file_fits in
      let none : drop (opening_size n) b ≡ [] = drop_of_length-le b {i = opening_size n} (omega arith) in
      rw (
        opening-done edition statement n m (leaf_after edition statement n q) b fits.depth.0 memory-le (omega arith),
        none,
        append-nil,
        ← append_assoc,
        laid_next edition statement n t q,
      )

  -- and the next one follows it, unless it is the last
  follows_next :
      (left q r : ℕ) → r ≡ nodes_anew n m → q + 1 < t
      → followed store (suc left) (written_at edition statement n m t file q r)
      ≡ followed store left (written_at edition statement n m t file (q + 1) 0)
  unfolding followed written_at under_way
  follows_next left q r done few =
      rw (done, eq-eqb (nodes_anew n m) (nodes_anew n m) refl, lt-ltb (q + 1) t few, opening-ended q (omega arith))
      (ap (followed store left) (opening-begun (q + 1) few))

  pub stays_at :
      (q r : ℕ) → r < nodes_anew n m + (q + 2 - t) → may_follow (written_at edition statement n m t file q r).writing ≡ false
  unfolding written_at under_way
  stays_at q r small =
      ⊎_elim
      (λ before. rw (ne_eqb r (nodes_anew n m) (omega arith)))
      (λ done. rw (le-ltb (q + 1) t (omega arith)) (both_false (eqb r (nodes_anew n m))))
      (lt-or-le r (nodes_anew n m))

  follows-none :
      (left q r : ℕ) → r < nodes_anew n m + (q + 2 - t)
      → followed store left (written_at edition statement n m t file q r) ≡ written_at edition statement n m t file q r
  follows-none left q r small = followed-stays store left (written_at edition statement n m t file q r) (stays_at q r small)

  -- with no labels to make all openings follow at once
  follows-all :
      (left q : ℕ) → nodes_anew n m ≡ 0 → q < t → t ≤ q + 1 + left
      → followed store left (written_at edition statement n m t file q 0) ≡ written_at edition statement n m t file (t - 1) 0
  follows-all zero q none few enough =
      let last : q ≡ t - 1 = omega arith in
      follows-none 0 q 0 (omega arith) ∙ rw last
  follows-all (suc left) q none few enough =
      ⊎_elim
      (λ more. follows_next left q 0 (sym none) more ∙ follows-all left (q + 1) none more (omega arith))
      (λ done. let last : q ≡ t - 1 = omega arith in follows-none (suc left) q 0 (omega arith) ∙ rw last)
      (lt-or-le (q + 1) t)

  -- with some the next one follows alone
  follows-one :
      (left q r : ℕ) → 1 ≤ left → 0 < nodes_anew n m → r ≡ nodes_anew n m → q + 1 < t
      → followed store left (written_at edition statement n m t file q r) ≡ written_at edition statement n m t file (q + 1) 0
  follows-one zero q r one some done few = absurd (omega arith)
  follows-one (suc left) q r one some done few = follows_next left q r done few ∙ follows-none left (q + 1) 0 (omega arith)

  new-begun : new_file edition statement n m t store file ≡ followed store t (written_at edition statement n m t file 0 0)
  unfolding new_writing
  new-begun =
      rw (laid-head edition statement n t file (omega arith) size)
      (ap (followed store t)
      (opening-begun 0 (omega arith)))

  -- within an opening
  one_more :
      (q r : ℕ) → q < t → suc r < nodes_anew n m + (q + 2 - t)
      → steps store (q * nodes_anew n m + r) (new_file edition statement n m t store file) ≡ written_at edition statement n m t file q r
      → steps store (q * nodes_anew n m + suc r) (new_file edition statement n m t store file) ≡ written_at edition statement n m t file q (suc r)
  unfolding machines.steps writing_machine
  one_more q r few small e =
      rw (add-suc (q * nodes_anew n m) r, e) (opening-stepped q r few (omega arith) ∙ follows-none t q (r + 1) (omega arith) ∙ rw (add-one r))

  within-opening :
      (q r : ℕ) → q < t → r < nodes_anew n m + (q + 2 - t)
      → steps store (q * nodes_anew n m) (new_file edition statement n m t store file) ≡ written_at edition statement n m t file q 0
      → steps store (q * nodes_anew n m + r) (new_file edition statement n m t store file) ≡ written_at edition statement n m t file q r
  within-opening q zero few small e = rw (add-zero (q * nodes_anew n m)) e
  within-opening q (suc r) few small e = one_more q r few small (within-opening q r few (omega arith) e)

  -- from opening to opening
  first-begun :
      0 < nodes_anew n m → steps store (0 * nodes_anew n m) (new_file edition statement n m t store file) ≡ written_at edition statement n m t file 0 0
  unfolding machines.steps writing_machine
  first-begun some = rw (zero-mul (nodes_anew n m)) (new-begun ∙ follows-none t 0 0 (omega arith))

  next-begun :
      (q : ℕ) → 0 < nodes_anew n m → suc q < t
      → steps store (q * nodes_anew n m) (new_file edition statement n m t store file) ≡ written_at edition statement n m t file q 0
      → steps store (suc q * nodes_anew n m) (new_file edition statement n m t store file) ≡ written_at edition statement n m t file (suc q) 0
  unfolding machines.steps writing_machine
  next-begun q some few e =
      let last : ℕ = nodes_anew n m - 1 in
      let more : suc q * nodes_anew n m ≡ suc (q * nodes_anew n m + last) = omega (arith, suc-mul q (nodes_anew n m)) in
      rw (more, within-opening q last (omega arith) (omega arith) e)
      (opening-stepped q last (omega arith) (omega arith)
      ∙ follows-one t q (last + 1) (omega arith) some (omega arith) (omega arith)
      ∙ rw (add-one q))

  begins :
      (q : ℕ) → 0 < nodes_anew n m → q < t
      → steps store (q * nodes_anew n m) (new_file edition statement n m t store file) ≡ written_at edition statement n m t file q 0
  begins zero some few = first-begun some
  begins (suc q) some few = next-begun q some few (begins q some (omega arith))

  begins-any :
      (q : ℕ) → q < t → 0 < nodes_anew n m + (q + 2 - t)
      → steps store (q * nodes_anew n m) (new_file edition statement n m t store file) ≡ written_at edition statement n m t file q 0
  unfolding machines.steps writing_machine
  begins-any q few some =
      ⊎_elim
      (λ more. begins q more few)
      (λ none.
      let empty : nodes_anew n m ≡ 0 = omega arith in
      let e : q * nodes_anew n m ≡ 0 = rw empty (mul-zero q) in
      let last : t - 1 ≡ q = omega arith in
      rw e (new-begun ∙ follows-all t 0 empty (omega arith) (omega arith) ∙ rw last))
      (lt-or-le 0 (nodes_anew n m))

  -- the state with q openings done and r labels of the next made: fewer than all of them, unless it is the last
  pub reached-at :
      (q r : ℕ) → q < t → r < nodes_anew n m + (q + 2 - t)
      → steps store (q * nodes_anew n m + r) (new_file edition statement n m t store file) ≡ written_at edition statement n m t file q r
  reached-at q r few small = within-opening q r few small (begins-any q few (omega arith))

  -- the two cases: an opening with labels left, and the last one done
  pub file-under-way :
      (q r : ℕ) → q < t → r < nodes_anew n m
      → steps store (q * nodes_anew n m + r) (new_file edition statement n m t store file) ≡ written_at edition statement n m t file q r
  file-under-way q r few small = reached-at q r few (omega arith)

  pub file-ended :
      steps store (labels_anew n m t) (new_file edition statement n m t store file) ≡ written_at edition statement n m t file (t - 1) (nodes_anew n m)
  file-ended = rw (last-size n m t fits.count.0) (reached-at (t - 1) (nodes_anew n m) (omega arith) (omega arith))

  -- the file at the end is the tree's, and behind it as it was
  pub file-written :
      (steps store (labels_anew n m t) (new_file edition statement n m t store file)).file
      ≡ tree_file edition statement n t ++ drop (file_size n t) file
  file-written =
      let last : t - 1 + 1 ≡ t = omega arith in
      rw file-ended (opening-ended (t - 1) (omega arith) ∙ rw (last, laid-all edition statement n t, size-all n t))

  pub file-accepted :
      file_check (take (file_size n t) (steps store (labels_anew n m t) (new_file edition statement n m t store file)).file) statement n t ≡ 0
  file-accepted = rw file-written (front-accepted edition statement n t (drop (file_size n t) file) fits.exists size fits.depth fits.count)

-- with all levels in the store the start alone gives the file
pub file-copied :
    (edition : ℕ) (statement : List ℕ) (n t : ℕ) (store file : List ℕ) → length statement ≡ 32 → HoldsLabels edition statement n n store
    → Writable edition n n t (length store) (length file)
    → (new_file edition statement n n t store file).file ≡ tree_file edition statement n t ++ drop (file_size n t) file
unfolding machines.steps writing_machine
file-copied edition statement n t store file size holds fits =
    let none : labels_anew n n t ≡ 0 = rw (none-anew n) (mul-zero t) in
    rw none at (file-written edition statement n n t store file size holds fits)
