-- Laws of the check of one opening: the labels gathered for the leaf, and hashing upward.
use mathlib.Core.Path.{◌≡◌, refl, sym, ◌∙◌}
use mathlib.Core.Bool.{Bool, true, false}
use mathlib.Core.List.{List, [], ◌∷◌, ◌++◌, append-nil}
use Prim.Native.Nat.{ℕ, suc, ◌+◌, ◌-◌, ◌*◌, ◌/◌, ◌%◌, ◌^◌, ◌≤◌, ◌<◌}
use native.Mathlib.Nat.{add-zero, div-one, div-eq_of_lt}
use native.Mathlib.Numerals.{add-one}
use native.Mathlib.Omega.{arith}
use lib.Count.{ones, ones_step, ones-le}
use lib.ListN.{length, take, drop, length-replicate, take-append-drop}
use lib.Pow.{shr_lt}
use Rattle.base.specs.Limits.{max_depth}
use Rattle.base.specs.Choice.{pick, odd}
use Rattle.base.specs.Bytes.{zeros, joined, written}
use Rattle.base.proofs.BytesLaws.{joined-append}
use Rattle.base.proofs.ChoiceLaws.{is_odd, is-even, odd-true, odd-false}
use Rattle.base.proofs.Copying.{length-written}
use Rattle.tree.specs.Nodes.{node}
use Rattle.tree.specs.Labels.{Label, label_by, in_labels}
use Rattle.tree.specs.Openings.{Given, child_labels, computed, input_at, opening_size}
use Rattle.tree.specs.TreeOpening.{left_given}
use Rattle.tree.proofs.InputLengths.{ones-zero}
use Rattle.tree.specs.Disagreement.{Given32}
use Rattle.tree.proofs.Cut.{labels-back, two-labels}
use Rattle.tree.proofs.OpeningLaws.{halved, input-leaf, left-each}
use Rattle.labelling.specs.Rule.{stamp_rule}
use Rattle.base.proofs.Parts.{written_behind, part-size, part_length}
use Rattle.opening_check.specs.OpeningCheck.{given_by}

-- ---- the leaf
module _ (gathered bytes : List ℕ) (len leaf height : ℕ) where
  pub right-passed : (leaf / 2 ^ height % 2 ≡ 1 → ⊥)
      → gathered ≡ written gathered len (pick (odd (leaf / 2 ^ height)) (given_by bytes (height + 1)) [])
  unfolding written
  right-passed o =
      let e : leaf / 2 ^ height % 2 ≡ 0 = omega arith in
      rw (is-even (leaf / 2 ^ height) e, append-nil, add-zero, take-append-drop)

given-size : (bytes : List ℕ) (p i : ℕ) (t : Bool) → odd p ≡ t → 32 * i + 32 ≤ length bytes → length (pick t (given_by bytes i) []) ≡ 32 * (p % 2)
given-size bytes p i true o fits = let e : p % 2 ≡ 1 = odd-true p o in part_length bytes (32 * i) 32 fits ∙ omega arith
given-size bytes p i false o fits = let e : p % 2 ≡ 0 = odd-false p o in omega arith

-- the bytes of a whole opening give labels of 32 bytes
pub given-labels : (n : ℕ) (bytes : List ℕ) → opening_size n ≤ length bytes → Given32 n (given_by bytes)
given-labels n bytes fits i small = part_length bytes (32 * i) 32 (omega arith)

joined-pick : (t : Bool) (label : Label) → joined (pick t (label ∷ []) []) ≡ pick t label []
unfolding joined
joined-pick true label = append-nil label
joined-pick false label = refl

module _ (n leaf : ℕ) (given : Given) where
  gathered_next : (height : ℕ) (a b : List ℕ) → 0 < height → height ≤ n → a ≡ joined (left_given n leaf given (n - height))
      → b ≡ a ++ pick (odd (leaf / 2 ^ (height - 1))) (given (height - 1 + 1)) []
      → b ≡ joined (left_given n leaf given (n - (height - 1)))
  unfolding left_given
  gathered_next height a b pos le ea eb =
      let up : n - (height - 1) ≡ suc (n - height) = omega arith in
      let back : n - suc (n - height) ≡ height - 1 = omega arith in
      rw (up, back, joined-append, joined-pick, ← ea) eb

  pub leaf-hash : (edition : ℕ) (statement gathered : List ℕ) (height : ℕ) → Given32 n given → height ≤ 0
      → gathered ≡ joined (left_given n leaf given (n - height))
      → label_by (stamp_rule edition n statement) (node n leaf) (in_labels gathered) ≡ (stamp_rule edition n statement).hash
      (input_at (stamp_rule edition n statement) n leaf given (node n leaf))
  leaf-hash edition statement gathered height sized low e =
      let all : n - height ≡ n = omega arith in
      rw (input-leaf (stamp_rule edition n statement) n leaf given, e, all, labels-back _ (left-each n leaf given sized n (omega arith)))

-- The labels gathered down to a height, with their length: 32 bytes for each one-bit of the leaf's position down to there.
pub record Gathered (n leaf : ℕ) (bytes : List ℕ) (height len : ℕ) (gathered : List ℕ) : Type 0 where
  pub whole : length gathered ≡ 1280
  pub counted : len ≡ 32 * ones (leaf / 2 ^ height)
  pub labels : take len gathered ≡ joined (left_given n leaf (given_by bytes) (n - height))

module _ (n leaf : ℕ) (inside : leaf < 2 ^ n) (bytes : List ℕ) where
  pub gathered_none : Gathered n leaf bytes n 0 (zeros 1280)
  unfolding left_given joined
  gathered_none =
      let none : leaf / 2 ^ n ≡ 0 = div-eq_of_lt inside in
      let levels : n - n ≡ 0 = omega arith in
      record { whole = length-replicate {A = ℕ} 1280 0; counted = rw none (omega (arith, ones-zero)); labels = rw levels }

  pub gathered-few : (height len : ℕ) (gathered : List ℕ) → height ≤ n → Gathered n leaf bytes height len gathered → len ≤ 32 * (n - height)
  gathered-few height len gathered le so =
      let up : n - height + height ≡ n = omega arith in
      omega (arith, so.counted, ones-le (n - height) (leaf / 2 ^ height) (shr_lt (n - height) height (rw up inside)))

  -- one level more
  pub gathered-more : (height len len' : ℕ) (gathered gathered' : List ℕ) → 0 < height → height ≤ n → n ≤ max_depth → opening_size n ≤ length bytes
      → Gathered n leaf bytes height len gathered
      → gathered' ≡ written gathered len (pick (odd (leaf / 2 ^ (height - 1))) (given_by bytes (height - 1 + 1)) [])
      → len' ≡ len + 32 * (leaf / 2 ^ (height - 1) % 2) → Gathered n leaf bytes (height - 1) len' gathered'
  gathered-more height len len' gathered gathered' pos le deep fits so e f =
      let part : List ℕ = pick (odd (leaf / 2 ^ (height - 1))) (given_by bytes (height - 1 + 1)) [] in
      let size : length part ≡ 32 * (leaf / 2 ^ (height - 1) % 2) =
      given-size bytes (leaf / 2 ^ (height - 1)) (height - 1 + 1) (odd (leaf / 2 ^ (height - 1))) refl (omega arith) in
      let few : len ≤ 32 * (n - height) = gathered-few height len gathered le so in
      let bit : leaf / 2 ^ (height - 1) % 2 ≤ 1 = omega arith in
      let up : suc (height - 1) ≡ height = omega arith in
      let half : leaf / 2 ^ height ≡ leaf / 2 ^ (height - 1) / 2 = rw up at (halved leaf (height - 1)) in
      let step : ones (leaf / 2 ^ (height - 1)) ≡ leaf / 2 ^ (height - 1) % 2 + ones (leaf / 2 ^ height) =
      rw half (ones_step (leaf / 2 ^ (height - 1))) in
      let behind : take len' gathered' ≡ take len gathered ++ part =
      rw (e, f) (written_behind gathered part len (32 * (leaf / 2 ^ (height - 1) % 2)) (omega (arith, so.whole)) size) in
      record {
        whole = rw e (length-written gathered len part (omega (arith, so.whole)) ∙ so.whole);
        counted = omega (arith, so.counted);
        labels = gathered_next n leaf (given_by bytes) height (take len gathered) (take len' gathered') pos le so.labels behind;
      }

  -- at the leaf all of them are: as many as its position has one-bits
  pub gathered-all : (height len : ℕ) (gathered : List ℕ) → height ≤ 0 → Gathered n leaf bytes height len gathered → 32 * ones leaf ≡ len
  gathered-all height len gathered low so =
      let none : height ≡ 0 = omega arith in
      let all : leaf / 2 ^ height ≡ leaf = rw none (div-one leaf) in
      rw all at (sym so.counted)

-- ---- the way upward
module _ (edition n : ℕ) (statement : List ℕ) (level position : ℕ) (child beside : Label) (c : length child ≡ 32) (b : length beside ≡ 32) where
  pub above-right : position % 2 ≡ 1
      → label_by (stamp_rule edition n statement) (node level (position / 2)) (in_labels (beside ++ child)) ≡ label_by
      (stamp_rule edition n statement) (node level (position / 2)) (child_labels (odd position) child beside)
  above-right o = rw (is_odd position o, two-labels beside child b c)

  pub above-left : (position % 2 ≡ 1 → ⊥)
      → label_by (stamp_rule edition n statement) (node level (position / 2)) (in_labels (child ++ beside)) ≡ label_by
      (stamp_rule edition n statement) (node level (position / 2)) (child_labels (odd position) child beside)
  above-left o = let e : position % 2 ≡ 0 = omega arith in rw (is-even position e, two-labels child beside c b)

pub climbed : (edition : ℕ) (statement bytes : List ℕ) (n leaf height : ℕ) (label above : Label)
    → label ≡ computed (stamp_rule edition n statement) n leaf (given_by bytes) height
    → above ≡ label_by (stamp_rule edition n statement) (node (n - (height + 1)) (leaf / 2 ^ height / 2))
    (child_labels (odd (leaf / 2 ^ height)) label
    (take (32 * (height + 1) + 32 - 32 * (height + 1)) (drop (32 * (height + 1)) bytes)))
    → above ≡ computed (stamp_rule edition n statement) n leaf (given_by bytes) (height + 1)
unfolding computed
climbed edition statement bytes n leaf height label above e a =
    a ∙ rw (part-size bytes (32 * (height + 1)) 32, e, add-one height, halved leaf height)
