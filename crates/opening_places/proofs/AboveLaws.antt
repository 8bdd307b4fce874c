-- The labels of the left siblings on levels 1 to m, gathered from level 1 on.
use mathlib.Core.Path.{◌≡◌, refl, ap, ◌∙◌}
use mathlib.Core.Bool.{Bool, true, false}
use mathlib.Core.List.{List, [], ◌∷◌, ◌++◌, map, append-nil, map-append}
use Prim.Native.Nat.{ℕ, zero, suc, ◌+◌, ◌-◌, ◌*◌, ◌/◌, ◌%◌, ◌^◌, ◌≤◌, ◌<◌}
use native.Mathlib.Nat.{add-zero, div-eq_of_lt}
use native.Mathlib.Numerals.{add-one}
use native.Mathlib.Omega.{arith}
use lib.Count.{ones, ones_step, ones-le}
use lib.ListN.{length, take, drop, length-append, length-take, length-drop, take-append-drop}
use lib.Seq.{take_at, drop_at}
use Rattle.base.specs.Choice.{pick, odd}
use Rattle.base.specs.Bytes.{zeros, joined, written}
use Rattle.base.proofs.BytesLaws.{joined-append}
use Rattle.base.proofs.ChoiceLaws.{is_odd, is-even, odd-true, odd-false}
use Rattle.base.proofs.Zeros.{filled_more}
use Rattle.tree.specs.Nodes.{node, left_siblings}
use Rattle.tree.specs.Store.{slot, store_size}
use Rattle.tree.proofs.InputLengths.{ones-zero}
use Rattle.tree.proofs.Slots.{slot-inside}
use Rattle.tree.proofs.OpeningLaws.{halved}
use Rattle.opening_places.specs.Places.{label_in, front}
use Rattle.opening_places.specs.Possible.{left_label, front_size}
use Rattle.opening_places.proofs.PlaceLaws.{part_in, way-inside}

-- a node's left sibling, if it has one, and then its label
pub left-none : (bytes store : List ℕ) (len l p : ℕ) → p % 2 ≡ 0 → bytes ≡ written bytes len (left_label store l p)
unfolding joined written
left-none bytes store len l p e = rw (is-even p e, append-nil, add-zero, take-append-drop)

pub left_one : (bytes store : List ℕ) (len l p at : ℕ) → (p % 2 ≡ 0 → ⊥) → at ≡ slot (node l (p - 1))
    → written bytes len (take (at + 32 - at) (drop at store)) ≡ written bytes len (left_label store l p)
unfolding joined
left_one bytes store len l p at o e = rw (part_in store (node l (p - 1)) at e, is_odd p (omega arith), append-nil)

left-size : (store : List ℕ) (l p : ℕ) (t : Bool) → odd p ≡ t → slot (node l p) ≤ length store
    → length (joined (map (label_in store) (pick t (node l (p - 1) ∷ []) []))) ≡ 32 * (p % 2)
unfolding joined
left-size store l p true o fits =
    let e : p % 2 ≡ 1 = odd-true p o in
    simp (append-nil, length-take, length-drop) (omega arith)
left-size store l p false o fits = let e : p % 2 ≡ 0 = odd-false p o in omega arith

-- The labels of levels 1 to l as they are laid into zeros, with their length: 32 bytes for each one-bit of the position on level l.
pub record Above (n leaf : ℕ) (store : List ℕ) (l len : ℕ) (bytes : List ℕ) : Type 0 where
  pub laid : bytes ≡ front n l leaf store ++ zeros (front_size - len)
  pub whole : length (front n l leaf store) ≡ len
  pub counted : len ≡ 32 * ones (leaf / 2 ^ (n - l))

pub above-none : (n leaf : ℕ) (store : List ℕ) → leaf < 2 ^ n → Above n leaf store 0 0 (zeros front_size)
unfolding front left_siblings joined
above-none n leaf store inside =
    let none : leaf / 2 ^ n ≡ 0 = div-eq_of_lt inside in
    let all : n - 0 ≡ n = omega arith in
    record { laid = refl; whole = refl; counted = rw (all, none) (omega (arith, ones-zero)) }

front-more : (n leaf l : ℕ) (store : List ℕ) → l + 1 ≤ n
    → front n (l + 1) leaf store ≡ front n l leaf store ++ left_label store (l + 1) (leaf / 2 ^ (n - (l + 1)))
unfolding front left_siblings
front-more n leaf l store level =
    let e : n - l ≡ suc (n - suc l) = omega arith in
    rw (add-one l, e, halved, map-append, joined-append)

ones-more : (n leaf l : ℕ) → l + 1 ≤ n → ones (leaf / 2 ^ (n - (l + 1))) ≡ leaf / 2 ^ (n - (l + 1)) % 2 + ones (leaf / 2 ^ (n - l))
ones-more n leaf l level =
    let e : n - l ≡ suc (n - (l + 1)) = omega arith in
    rw (e, halved leaf (n - (l + 1))) (ones_step (leaf / 2 ^ (n - (l + 1))))

-- one level more
pub above_more : (n leaf l : ℕ) (store : List ℕ) (len len' : ℕ) (bytes bytes' : List ℕ) → l + 1 ≤ n → len + 32 ≤ front_size
    → slot (node (l + 1) (leaf / 2 ^ (n - (l + 1)))) ≤ length store → Above n leaf store l len bytes
    → bytes' ≡ written bytes len (left_label store (l + 1) (leaf / 2 ^ (n - (l + 1)))) → len' ≡ len + 32 * (leaf / 2 ^ (n - (l + 1)) % 2)
    → Above n leaf store (l + 1) len' bytes'
above_more n leaf l store len len' bytes bytes' level room fits so e f =
    let p : ℕ = leaf / 2 ^ (n - (l + 1)) in
    let size : length (left_label store (l + 1) p) ≡ 32 * (p % 2) = left-size store (l + 1) p (odd p) refl fits in
    let bit : p % 2 ≤ 1 = omega arith in
    let end : len + length (left_label store (l + 1) p) ≡ len' = omega arith in
    record {
      laid =
          e
          ∙ rw (front-more n leaf l store level, ← end)
          (filled_more front_size bytes (front n l leaf store) (left_label store (l + 1) p) len so.laid so.whole (omega arith));
      whole = rw (front-more n leaf l store level) (length-append (front n l leaf store) (left_label store (l + 1) p) ∙ omega (arith, so.whole));
      counted = omega (arith, ones-more n leaf l level, so.counted);
    }

-- the same, of a level of its own
pub above-level : (n leaf level : ℕ) (store : List ℕ) (len len' : ℕ) (bytes bytes' : List ℕ) → 1 ≤ level → level ≤ n → len + 32 ≤ front_size
    → slot (node level (leaf / 2 ^ (n - level))) ≤ length store → Above n leaf store (level - 1) len bytes
    → bytes' ≡ written bytes len (left_label store level (leaf / 2 ^ (n - level))) → len' ≡ len + 32 * (leaf / 2 ^ (n - level) % 2)
    → Above n leaf store level len' bytes'
above-level n leaf zero store len len' bytes bytes' some level room fits so e f = absurd (omega arith)
above-level n leaf (suc l) store len len' bytes bytes' some level room fits so e f =
    let before : suc l - 1 ≡ l = omega arith in
    rw (add-one l) at (above_more n leaf l store len len' bytes bytes') (omega arith) room fits (rw before at so) e f

-- the length of the labels of levels 1 to l, whatever the store holds
pub front_length : (n leaf m : ℕ) (store : List ℕ) → m ≤ n → leaf < 2 ^ n → store_size m ≤ length store
    → (l : ℕ) → l ≤ m → length (front n l leaf store) ≡ 32 * ones (leaf / 2 ^ (n - l))
front_length n leaf m store le inside enough zero low = let none = above-none n leaf store inside in none.whole ∙ none.counted
front_length n leaf m store le inside enough (suc l) low =
    let p : ℕ = leaf / 2 ^ (n - (l + 1)) in
    let in_tree : p < 2 ^ (l + 1) = way-inside n leaf (l + 1) (omega arith) inside in
    let fits : slot (node (l + 1) p) ≤ length store = omega (arith, slot-inside m (node (l + 1) p) (omega arith, in_tree)) in
    rw (← add-one l, front-more n leaf l store (omega arith))
    (length-append (front n l leaf store) (left_label store (l + 1) p)
    ∙ omega (
      arith,
      left-size store (l + 1) p (odd p) refl fits,
      ones-more n leaf l (omega arith),
      front_length n leaf m store le inside enough l (omega arith),
    ))

-- they fit, and are the first of the bytes
pub above-few : (n leaf m len : ℕ) → m ≤ n → leaf < 2 ^ n → len ≡ 32 * ones (leaf / 2 ^ (n - m)) → len ≤ 32 * m
above-few n leaf m len le inside e = omega (arith, ones-le m (leaf / 2 ^ (n - m)) (way-inside n leaf m le inside))

pub above-taken : (n leaf : ℕ) (store : List ℕ) (m len : ℕ) (bytes : List ℕ) → Above n leaf store m len bytes
    → (take len bytes ≡ front n m leaf store) × (drop len bytes ≡ zeros (front_size - len))
above-taken n leaf store m len bytes so = (
  ap (λ (b : List ℕ). take len b) so.laid ∙ take_at (front n m leaf store) (zeros (front_size - len)) len so.whole,
  ap (λ (b : List ℕ). drop len b) so.laid ∙ drop_at (front n m leaf store) (zeros (front_size - len)) len so.whole,
)
