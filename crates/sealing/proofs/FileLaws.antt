-- An opening in its part of the file, and the file one opening after the other.
use mathlib.Core.Path.{◌≡◌, sym, ap, ◌∙◌}
use Prim.Native.Nat.{ℕ, ◌+◌, ◌-◌, ◌^◌, ◌≤◌, ◌<◌}
use native.Mathlib.Omega.{arith}
use mathlib.Core.List.{List, ◌++◌, append_assoc, append-nil}
use lib.ListN.{length, take, drop}
use lib.Seq.{drop-length}
use Rattle.base.specs.Bytes.{written}
use Rattle.base.specs.Limits.{IsEdition}
use Rattle.base.proofs.Parts as parts
use Rattle.base.proofs.WrittenLaws.{written_over}
use Rattle.tree.specs.Openings.{opening_size}
use Rattle.file_head.specs.Challenge.{challenge_leaf}
use Rattle.file_head.specs.Layout.{head_size, opening_from, file_size}
use Rattle.run_theory.specs.Openings.{HoldsLabels, Openable}
use Rattle.check_theory.specs.TreeFile.{root_of, opening_of, challenged_opening, tree_file}
use Rattle.check_theory.proofs.TreeFile.{opening-size}
use Rattle.writing.specs.Possible.{Room}
use Rattle.writing.proofs.PartLaws.{part-fits, part-back}
use Rattle.writing_theory.specs.Filed.{Writable, laid, laid_size}
use Rattle.writing_theory.proofs.Laid.{size-all, size-from, part-size, part-split, laid-length, laid_next, laid-all}

-- ---- the part of opening i
module _ (edition n m t i : ℕ) (store file : List ℕ) (room : Room edition n m t i (length store) (length file)) (from : ℕ)
    (at : from ≡ opening_from n (head_size n t) i) where
  abbrev part : List ℕ
  part = take (from + opening_size n - from) (drop from file)

  pub part-inside : from + opening_size n ≤ length file
  part-inside = rw at (part-fits n t i room.number.0 room.number.1 (length file) room.file_fits)

  part-whole : length part ≡ opening_size n
  part-whole = ap length (parts.part-size file from (opening_size n)) ∙ parts.part_length file from (opening_size n) part-inside

  pub part-openable : (leaf : ℕ) → leaf < 2 ^ n → Openable edition n m leaf (length store) (length part)
  part-openable leaf inside =
      record {
        exists = room.exists;
        depth = room.depth;
        memory = room.memory;
        store_fits = room.store_fits;
        position = inside;
        out_fits = omega (arith, part-whole);
      }

  -- the opening of its challenge fills it
  module _ (statement root : List ℕ) (leaf : ℕ) (is : leaf ≡ challenge_leaf edition n statement root i) where
    pub part-opened : (opened : List ℕ) → opened ≡ opening_of edition statement n leaf ++ drop (opening_size n) part
        → take from file ++ (opened ++ drop (from + opening_size n - from) (drop from file))
        ≡ written file (opening_from n (head_size n t) i) (opening_of edition statement n (challenge_leaf edition n statement root i))
    part-opened opened e =
        let size : from + opening_size n - from ≡ opening_size n = omega arith in
        let none = ap (λ (k : ℕ). drop k part) (sym part-whole) ∙ drop-length part in
        let all : opened ≡ opening_of edition statement n leaf =
        e ∙ ap (λ (l : List ℕ). opening_of edition statement n leaf ++ l) none ∙ append-nil (opening_of edition statement n leaf) in
        rw (size, part-back file opened from (opening_size n) (ap length all ∙ opening-size edition statement n leaf), all, is, at)

-- ---- the file after i openings, if its root is the tree's, the store holds the labels and the file had the first of them
abbrev pub LaidTo : ℕ → List ℕ → List ℕ → ℕ → ℕ → ℕ → ℕ → List ℕ → List ℕ → ℕ → List ℕ → Type 0
LaidTo edition statement root n m t done store first i file =
    root ≡ root_of edition statement n
    → HoldsLabels edition statement n m store
    → first ≡ laid edition statement n t done ++ drop (laid_size n t done) first
    → file ≡ laid edition statement n t i ++ drop (laid_size n t i) first

module _ (edition : ℕ) (statement root : List ℕ) (n m t done : ℕ) (store first : List ℕ) where
  -- one more
  module _ (size : length statement ≡ 32) (exists : IsEdition edition) (fits : file_size n t ≤ length first) (i : ℕ) (few : i < t) (file next : List ℕ) where
    over : written (laid edition statement n t i ++ drop (laid_size n t i) first) (laid_size n t i) (challenged_opening edition statement n (i + 1))
        ≡ laid edition statement n t (i + 1) ++ drop (laid_size n t (i + 1)) first
    over =
        let opening : List ℕ = challenged_opening edition statement n (i + 1) in
        ap (λ (rest : List ℕ). written (laid edition statement n t i ++ rest) (laid_size n t i) opening) (part-split n t first i)
        ∙ written_over (laid edition statement n t i) (take (opening_size n) (drop (laid_size n t i) first)) (drop (laid_size n t (i + 1)) first)
        opening (laid_size n t i) (laid-length edition statement n t i (omega arith) size)
        (part-size n t first i few fits ∙ sym (opening-size edition statement n _))
        ∙ sym (append_assoc (laid edition statement n t i) opening (drop (laid_size n t (i + 1)) first))
        ∙ ap (λ (l : List ℕ). l ++ drop (laid_size n t (i + 1)) first) (laid_next edition statement n t i)

    pub laid_more : LaidTo edition statement root n m t done store first i file
        → (HoldsLabels edition statement n m store
        → next ≡ written file (opening_from n (head_size n t) (i + 1)) (opening_of edition statement n (challenge_leaf edition n statement root (i + 1))))
        → LaidTo edition statement root n m t done store first (i + 1) next
    laid_more so_far opened is-root holds begun =
        opened holds ∙ rw (is-root, size-from n t i, so_far is-root holds begun) over

  -- all of them
  pub laid-whole : (i : ℕ) (file : List ℕ) → i ≡ t → LaidTo edition statement root n m t done store first i file
      → root ≡ root_of edition statement n
      → HoldsLabels edition statement n m store
      → first ≡ laid edition statement n t done ++ drop (laid_size n t done) first
      → file ≡ tree_file edition statement n t ++ drop (file_size n t) first
  laid-whole i file e so_far is-root holds begun =
      so_far is-root holds begun ∙ rw (e, laid-all edition statement n t, size-all n t)

-- an opening of a file that can be written
pub room_for : (edition n m t store file i : ℕ) → Writable edition n m t store file → 1 ≤ i → i ≤ t → Room edition n m t i store file
room_for edition n m t store file i fits some few =
    record {
      exists = fits.exists;
      depth = fits.depth;
      memory = fits.memory;
      store_fits = fits.store_fits;
      number = (some, few);
      count = fits.count.1;
      file_fits = fits.file_fits;
    }
