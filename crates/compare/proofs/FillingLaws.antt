-- Laws of the table's filling: parts of one width written in turn, an opening's row, the rows.
use mathlib.Core.Path.{◌≡◌, sym, ap, ◌∙◌}
use mathlib.Core.Logic.{inl}
use mathlib.Core.Bool.{Bool, true, false}
use mathlib.Core.List.{List, [], ◌∷◌, ◌++◌, append-nil}
use Prim.Native.Nat.{ℕ, suc, ◌+◌, ◌-◌, ◌*◌, ◌/◌, ◌%◌, ◌^◌, ◌≤◌, ◌<◌}
use native.Mathlib.Nat.{mul-suc, suc-mul, mul-le-mul, mul-le-mul_left, mul-le-mul_right}
use native.Mathlib.Numerals.{add-one}
use native.Mathlib.Omega.{arith}
use borrow.Author.Count.{below_more}
use lib.ListN.{length, get_or, take, drop, length-append}
use lib.Seq.{drop-drop}
use Rattle.base.specs.Choice.{odd}
use Rattle.base.specs.Bytes.{joined, written}
use Rattle.base.specs.Limits.{max_depth, max_challenges}
use Rattle.base.proofs.ChoiceLaws.{is_odd, is-even}
use Rattle.base.proofs.WrittenLaws.{drop-written, written-here, written_apart, written-append}
use Rattle.tree.specs.Labels.{Label, Rule}
use Rattle.tree.specs.Openings.{Given, child_labels, computed, opening_size}
use Rattle.tree.specs.Disagreement.{children_known}
use Rattle.tree.proofs.Clash.{children-known}
use Rattle.labelling.specs.Rule.{stamp_rule}
use Rattle.opening_check.specs.OpeningCheck.{given_by}
use Rattle.base.proofs.Parts.{part-size, part_length}
use Rattle.compare.specs.Table.{Sized, part_of, RowOf, TableOf, row_size, table_size}

-- ---- parts of one width
below : (width k i : ℕ) → k < i → width * k + width ≤ width * i
below width k i h = rw (← mul-suc width k) (mul-le-mul_left {m = suc k} {n = i} width h)

-- what held of the parts before i and holds of a new one holds of i + 1 parts once that is written
pub parts_more :
    (width : ℕ) (P : ℕ → List ℕ → Type 0) (bytes part : List ℕ) (i : ℕ) → width * i + width ≤ length bytes → length part ≡ width
    → ((k : ℕ) → k < i → P k (part_of width bytes k)) → P i part → (k : ℕ) → k < i + 1 → P k (part_of width (written bytes (width * i) part) k)
parts_more width P bytes part i fits size before here =
    let f : width * i + length part ≤ length bytes = rw size fits in
    below_more (λ (k : ℕ). P k (part_of width (written bytes (width * i) part) k)) i
    (λ k h. rw (written_apart bytes part (width * i) f (width * k) width (inl (below width k i h))) (before k h))
    (rw (written-here bytes part (width * i) f width size) here)

-- what is behind the parts stays when one more is written
pub parts-kept :
    (width : ℕ) (before bytes part : List ℕ) (i : ℕ) → width * i + width ≤ length bytes → length part ≡ width
    → drop (width * i) bytes ≡ drop (width * i) before → drop (width * (i + 1)) (written bytes (width * i) part) ≡ drop (width * (i + 1)) before
parts-kept width before bytes part i fits size kept =
    let e : width * (i + 1) ≡ width * i + width = rw (add-one i) (mul-suc width i) in
    rw e
    (drop-written bytes part (width * i) (width * i + width) (rw size fits) (rw size (omega arith))
    ∙ sym (drop-drop width (width * i) bytes)
    ∙ ap (λ (l : List ℕ). drop width l) kept
    ∙ drop-drop width (width * i) before)

-- ---- both child labels of a node
module _ (d : List ℕ) (at position : ℕ) (child beside : Label) (c : length child ≡ 32) (b : length beside ≡ 32) (fits : at + 64 ≤ length d) where
  two-written : (x y : Label) → length x ≡ 32 → length y ≡ 32 → written (written d at x) (at + 32) y ≡ written d at (joined (x ∷ y ∷ []))
  unfolding joined
  two-written x y ex ey =
      let f : at + length (x ++ y) ≤ length d = rw (length-append, ex, ey) (omega arith) in
      rw (append-nil, ← ex) (sym (written-append d at x y f))

  pub right-put : (first last : List ℕ) → position % 2 ≡ 1 → first ≡ written d at beside → last ≡ written first (at + 32) child
      → last ≡ written d at (joined (child_labels (odd position) child beside))
  right-put first last o e f = f ∙ rw (e, is_odd position o) (two-written beside child b c)

  pub left-put : (first last : List ℕ) → (position % 2 ≡ 1 → ⊥) → first ≡ written d at child → last ≡ written first (at + 32) beside
      → last ≡ written d at (joined (child_labels (odd position) child beside))
  left-put first last o e f =
      let even : position % 2 ≡ 0 = omega arith in
      f ∙ rw (e, is-even position even) (two-written child beside c b)

children-length : (b : Bool) (child beside : Label) → length child ≡ 32 → length beside ≡ 32 → length (joined (child_labels b child beside)) ≡ 64
unfolding joined
children-length true child beside c b = simp (length-append, c, b)
children-length false child beside c b = simp (length-append, c, b)

-- ---- an opening's row
pub row_more :
    (edition : ℕ) (statement bytes first row after : List ℕ) (n leaf h : ℕ) (child : Label) → h < n → n ≤ max_depth → length bytes ≡ opening_size n
    → length row ≡ row_size → length child ≡ 32 → child ≡ computed (stamp_rule edition n statement) n leaf (given_by bytes) h
    → RowOf (stamp_rule edition n statement) n leaf (given_by bytes) h first row
    → after ≡ written row (64 * h) (joined (child_labels (odd (leaf / 2 ^ h)) child
    (take (32 * (h + 1) + 32 - 32 * (h + 1)) (drop (32 * (h + 1)) bytes))))
    → RowOf (stamp_rule edition n statement) n leaf (given_by bytes) (h + 1) first after
row_more edition statement bytes first row after n leaf h child small most size wide c known before e =
    let r : Rule = stamp_rule edition n statement in
    let given : Given = given_by bytes in
    let beside : List ℕ = take (32 * (h + 1) + 32 - 32 * (h + 1)) (drop (32 * (h + 1)) bytes) in
    let same : beside ≡ given (suc h) = part-size bytes (32 * (h + 1)) 32 ∙ rw (add-one h) in
    let here : joined (child_labels (odd (leaf / 2 ^ h)) child beside) ≡ joined (children_known r n leaf given (n - suc h)) =
    rw (same, known, children-known r n leaf given h (n - suc h) (omega arith)) in
    let two : length (joined (child_labels (odd (leaf / 2 ^ h)) child beside)) ≡ 64 =
    children-length (odd (leaf / 2 ^ h)) child beside c
    (ap length (part-size bytes (32 * (h + 1)) 32) ∙ part_length bytes (32 * (h + 1)) 32 (omega arith)) in
    record {
      filled =
          rw e
          (parts_more 64 (λ (k : ℕ) (part : List ℕ). part ≡ joined (children_known r n leaf given (n - suc k)))
          row (joined (child_labels (odd (leaf / 2 ^ h)) child beside)) h (omega arith) two before.filled here);
      kept = rw e (parts-kept 64 first row (joined (child_labels (odd (leaf / 2 ^ h)) child beside)) h (omega arith) two before.kept);
    }

-- ---- the rows
pub opening-fits : (n i t : ℕ) → i < t → i * opening_size n + opening_size n ≤ t * opening_size n
opening-fits n i t h = rw (← suc-mul i (opening_size n)) (mul-le-mul_right {m = suc i} {n = t} (opening_size n) h)

-- row i and opening i lie within the table and the openings, which are not too long
pub record Lies (n i : ℕ) (openings : List ℕ) : Type 0 where
  pub row : row_size * i + row_size ≤ table_size
  pub opening : i * opening_size n + opening_size n ≤ length openings
  pub most : length openings ≤ max_challenges * opening_size max_depth

pub lies : (n i : ℕ) (leaves openings : List ℕ) → Sized n leaves openings → i < length leaves → Lies n i openings
lies n i leaves openings z h =
    let size : opening_size n ≤ opening_size max_depth = omega (arith, z.most) in
    record {
      row = omega (arith, z.few);
      opening = rw z.whole (opening-fits n i (length leaves) h);
      most = rw z.whole (mul-le-mul z.few size);
    }

pub table_more :
    (edition : ℕ) (statement : List ℕ) (n : ℕ) (leaves openings first table row after : List ℕ) (i : ℕ) → i < max_challenges
    → length table ≡ table_size → length row ≡ row_size
    → TableOf edition statement n leaves openings i first table
    → RowOf (stamp_rule edition n statement) n (get_or leaves i 0)
    (given_by (take (i * opening_size n + opening_size n - i * opening_size n) (drop (i * opening_size n) openings))) n
    (take (row_size * i + row_size - row_size * i) (drop (row_size * i) table)) row
    → after ≡ written table (row_size * i) row
    → TableOf edition statement n leaves openings (i + 1) first after
table_more edition statement n leaves openings first table row after i small wide long before here e =
    record {
      rows =
          rw e
          (parts_more row_size
          (λ (k : ℕ) (part : List ℕ).
          RowOf (stamp_rule edition n statement) n (get_or leaves k 0) (given_by (take (opening_size n) (drop (k * opening_size n) openings))) n
          (part_of row_size first k) part)
          table row i (omega arith) long before.rows
          (rw (part-size openings (i * opening_size n) (opening_size n), part-size table (row_size * i) row_size, before.kept) at here));
      kept = rw e (parts-kept row_size first table row i (omega arith) long before.kept);
    }
