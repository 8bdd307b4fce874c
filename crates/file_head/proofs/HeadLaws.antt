-- Laws of reading: the head's numbers one by one, their bounds, sizes, and openings as parts of the bytes.
use mathlib.Core.Path.{◌≡◌, refl, sym, ◌∙◌}
use mathlib.Core.Bool.{Bool, true, false, not}
use mathlib.Core.List.{List}
use Prim.Native.Nat.{ℕ, ◌+◌, ◌-◌, ◌*◌, ◌≤◌, ◌<◌}
use native.Mathlib.Nat.{mul-le-mul_right, add_comm}
use native.Mathlib.Omega.{arith}
use borrow.Author.Tests.{eqb-true, not-true}
use lib.Dec.{eqb}
use lib.ListN.{length, take, drop, get_or}
use Rattle.base.specs.Limits.{max_edition, max_depth, max_challenges, max_openings, IsEdition, IsDepth, IsCount}
use Rattle.base.proofs.ChoiceLaws.{both_first, both-second}
use Rattle.base.specs.Row.{outside, no_edition}
use Rattle.groups.specs.Reading.{Answer, value, read_at, checked}
use Rattle.groups.proofs.Checked as groups
use Rattle.groups.proofs.Checked.{Passed, checked_refused, checked-bad, checked-next, refused-some}
use Rattle.groups.proofs.Sizes.{length-groups-le}
use Rattle.groups.proofs.Steps.{read_number}
use Rattle.groups.proofs.ShortestOnly.{only-shortest}
use Rattle.tree.specs.Openings.{opening_size}
use Rattle.file_head.specs.Head.{HeadAnswer, numbers, not_read, head_of, length_from, has_opening, part_start, part_length, opening_part}
use Rattle.file_head.specs.HeadSteps.{count_from, depth_from}
use Rattle.base.proofs.Parts.{part-size}
use Rattle.base.proofs.Ranges.{range-of}

module _ (bytes : List ℕ) where
  by-steps : head_of bytes ≡ checked not_read (read_at bytes 0 2) no_edition 12 (depth_from bytes)
  unfolding head_of depth_from count_from
  by-steps = refl

  -- each number read, and within its limits
  pub head-read : {e n t end end' at : ℕ} → read_at bytes 0 2 ≡ value e end → no_edition e ≡ false
      → read_at bytes end 2 ≡ value n end' → outside 1 max_depth n ≡ false → read_at bytes end' 2 ≡ value t at
      → outside 1 max_challenges t ≡ false → numbers e n t at ≡ head_of bytes
  unfolding head_of
  head-read first exists second depth third count = rw (first, exists, second, depth, third, count)

-- ---- the numbers of a head that was read
not-numbers : (edition n t at r : ℕ) → not_read r ≡ numbers edition n t at → ⊥
not-numbers edition n t at r e = let no : ◌≡◌ {A = ℕ} 0 1 = cc in omega arith

-- a number that was not refused
pub passed : (number : Answer) (bad : ℕ → Bool) (refusal : ℕ) (next : ℕ → ℕ → HeadAnswer) (edition n t at : ℕ)
    → checked not_read number bad refusal next ≡ numbers edition n t at → Passed number bad next (numbers edition n t at)
passed number bad refusal next edition n t at e =
    groups.passed not_read number bad refusal next (numbers edition n t at) (not-numbers edition n t at) e

-- a number ends at most two bytes on
two_bytes : (bytes : List ℕ) (at x end : ℕ) → ((j : ℕ) → get_or bytes j 0 < 256) → read_at bytes at 2 ≡ value x end → end ≤ at + 2
two_bytes bytes at x end b e = omega (arith, (only-shortest bytes at 2 x end b e).ends, length-groups-le 2 x)

pub record Within (edition n t at : ℕ) : Type 0 where
  pub exists : IsEdition edition
  pub depth : IsDepth n
  pub count : IsCount t
  pub place : at ≤ 6

pub head-within : (bytes : List ℕ) (edition n t at : ℕ) → ((j : ℕ) → get_or bytes j 0 < 256) → head_of bytes ≡ numbers edition n t at
    → Within edition n t at
unfolding depth_from count_from
head-within bytes edition n t at b e =
    let first = passed (read_at bytes 0 2) no_edition 12 (depth_from bytes) edition n t at (sym (by-steps bytes) ∙ e) in
    let second = passed (read_at bytes first.end 2) (outside 1 max_depth) 1 (count_from bytes first.x) edition n t at first.after in
    let third =
    passed (read_at bytes second.end 2) (outside 1 max_challenges) 8 (λ t at. numbers first.x second.x t at) edition n t at
    second.after in
    let same_edition : first.x ≡ edition = (let last = third.after in cc) in
    let same_depth : second.x ≡ n = (let last = third.after in cc) in
    let same_count : third.x ≡ t = (let last = third.after in cc) in
    let same_place : third.end ≡ at = (let last = third.after in cc) in
    record {
      exists = rw same_edition at (range-of 1 max_edition first.x first.good);
      depth = rw same_depth at (range-of 1 max_depth second.x second.good);
      count = rw same_count at (range-of 1 max_challenges third.x third.good);
      place = omega (
        arith,
        same_place,
        two_bytes bytes 0 first.x first.end b first.read,
        two_bytes bytes first.end second.x second.end b second.read,
        two_bytes bytes second.end third.x third.end b third.read,
      );
    }

-- a head that is refused is refused with a number
pub head-number : (bytes : List ℕ) (r : ℕ) → head_of bytes ≡ not_read r → 1 ≤ r
unfolding head_of
head-number bytes r e =
    refused-some not_read same (read_at bytes 0 2) no_edition 12 _ r (read_number bytes 0 2) (omega arith)
    (λ x at f. refused-some not_read same (read_at bytes at 2) (outside 1 max_depth) 1 _ r (read_number bytes at 2) (omega arith)
    (λ n at f. refused-some not_read same (read_at bytes at 2) (outside 1 max_challenges) 8 _ r (read_number bytes at 2) (omega arith)
    (λ t at f. not-refused f) f) f) e
  where
    same : (k r : ℕ) → not_read k ≡ not_read r → k ≡ r
    same k r f = cc

    not-refused : {edition n t at r : ℕ} → numbers edition n t at ≡ not_read r → 1 ≤ r
    not-refused f = let no : ◌≡◌ {A = ℕ} 0 1 = cc in absurd (omega arith)

-- ---- sizes
pub openings-small : (n t : ℕ) → n ≤ max_depth → t ≤ max_challenges → t * opening_size n ≤ max_openings
openings-small n t hn ht = omega (arith, mul-le-mul_right {m = t} {n = max_challenges} (opening_size n) ht)

pub opening-inside : (n t i : ℕ) → 1 ≤ i → i ≤ t → (i - 1) * opening_size n + opening_size n ≤ t * opening_size n
opening-inside n t i low high = next (i - 1) (omega arith)
  where
    next : (j : ℕ) → j + 1 ≤ t → j * opening_size n + opening_size n ≤ t * opening_size n
    next j h = omega (arith, mul-le-mul_right {m = j + 1} {n = t} (opening_size n) h)

-- ---- parts
-- an opening's part lies within the bytes
pub part-inside : (bytes : List ℕ) (i : ℕ) (h : HeadAnswer) → part_start bytes i h + part_length bytes i h ≤ length bytes
part-inside bytes i (not_read r) = omega arith
part-inside bytes i (numbers edition n t at) = cases (has_opening bytes n t at i) refl
  where
    cases : (b : Bool) → has_opening bytes n t at i ≡ b
        → part_start bytes i (numbers edition n t at) + part_length bytes i (numbers edition n t at) ≤ length bytes
    cases false e = rw e (omega arith)
    cases true e =
        let len =
        eqb-true (length bytes) (length_from n t at)
        (both_first (eqb (length bytes) (length_from n t at)) (not (outside 1 t i)) e) in
        let range =
        range-of 1 t i
        (not-true (outside 1 t i) (both-second (eqb (length bytes) (length_from n t at)) (not (outside 1 t i)) e)) in
        rw e (omega (arith, len, opening-inside n t i range.0 range.1))

-- the part from its start to its end, and its place
pub is-part : (bytes : List ℕ) (ptr : ℕ × ℕ) (i start size : ℕ) → start ≡ part_start bytes i (head_of bytes) → size ≡ part_length bytes
    i (head_of bytes)
    → (take (start + size - start) (drop start bytes) ≡ opening_part bytes i) × (◌≡◌ {A =
    ℕ × ℕ} (ptr.0, start + ptr.1) (ptr.0, ptr.1 + part_start bytes i (head_of bytes)))
unfolding opening_part
is-part bytes ptr i start size s n =
    (part-size bytes start size ∙ rw (s, n), rw (s, add_comm (part_start bytes i (head_of bytes)) ptr.1))
