-- Reading byte by byte: what is left to read gives the same result.
use mathlib.Core.Path.{◌≡◌, refl, sym, ap, ◌∙◌}
use Prim.Native.Nat.{ℕ, ◌+◌, ◌-◌, ◌*◌, ◌^◌, ◌≤◌, ◌<◌}
use native.Mathlib.Numerals.{add-one}
use native.Mathlib.Omega.{arith}
use mathlib.Core.Bool.{Bool, true, false, not, true≢false}
use mathlib.Core.List.{List, [], ◌∷◌, ◌++◌, append_assoc}
use lib.ListN.{length, get_or, take, drop, length-append, take-append-drop, drop_of_length-le}
use lib.Seq.{drop-cons, drop-drop, take_at, drop_at, take_all, length-take-le}
use borrow.Author.Tests.{le-ltb, ltb-false}
use Rattle.base.specs.Choice.{pick, both, every}
use Rattle.base.specs.Bytes.{written}
use Rattle.base.proofs.ChoiceLaws.{both_first, both-second, both_false}
use Rattle.base.proofs.WrittenLaws.{written_none}
use Rattle.decimal.specs.Numbers.{max_numbers, is_digit, readable, fits, numbers_from}
use Rattle.decimal.specs.Steps.{goes_on, next_value, Wrote, all_fit, ended}

never : {A : Type 0} → false ≡ true → A
never h = absurd (true≢false (sym h))

-- a value that fits tells nothing of whether a number is open
open-same : (v : ℕ) (bs : List ℕ) → fits v ≡ true → every fits (numbers_from true v bs) ≡ every fits (numbers_from false v bs)
unfolding numbers_from every
open-same v [] h = rw h
open-same v (b ∷ bs) h = go (is_digit b)
  where
    go : (d : Bool)
        → every fits (pick d (numbers_from true (10 * v + (b - 48)) bs) (v ∷ numbers_from false 0 bs))
        ≡ every fits (pick d (numbers_from true (10 * v + (b - 48)) bs) (numbers_from false 0 bs))
    go true = refl
    go false = rw h

pub all_start : (bs : List ℕ) → all_fit true 0 bs ≡ all_fit false 0 bs
unfolding all_fit
all_start bs = rw (open-same 0 bs refl)

pub all_end : (v : ℕ) (bs : List ℕ) (i : ℕ) → length bs ≤ i → fits v ≡ true → all_fit true v (drop i bs) ≡ true
unfolding all_fit numbers_from every
all_end v bs i k h = rw (drop_of_length-le bs k, h)

all-on : (b v : ℕ) (bs : List ℕ) → fits v ≡ true → goes_on b v ≡ true → all_fit true v (b ∷ bs) ≡ all_fit true (next_value b v) bs
unfolding all_fit numbers_from every
all-on b v bs h g =
    rw (both_first (readable b) (pick (is_digit b) (fits (10 * v + (b - 48))) true) g) (go (is_digit b))
  where
    go : (d : Bool)
        → both (every readable bs) (every fits (pick d (numbers_from true (10 * v + (b - 48)) bs) (v ∷ numbers_from false 0 bs)))
        ≡ both (every readable bs) (every fits (numbers_from true (pick d (10 * v + (b - 48)) 0) bs))
    go true = refl
    go false = rw (h, open-same 0 bs refl)

-- a number that is too large stays so
too_large : (v : ℕ) (bs : List ℕ) → fits v ≡ false → every fits (numbers_from true v bs) ≡ false
unfolding numbers_from every
too_large v [] h = rw h
too_large v (b ∷ bs) h =
    go (is_digit b)
    (too_large (10 * v + (b - 48)) bs (le-ltb (10 * v + (b - 48)) (2 ^ 64) (omega (arith, ltb-false v (2 ^ 64) h))))
  where
    go : (d : Bool) → every fits (numbers_from true (10 * v + (b - 48)) bs) ≡ false
        → every fits (pick d (numbers_from true (10 * v + (b - 48)) bs) (v ∷ numbers_from false 0 bs)) ≡ false
    go true e = e
    go false e = rw h

all-off : (b v : ℕ) (bs : List ℕ) → goes_on b v ≡ false → all_fit true v (b ∷ bs) ≡ false
unfolding all_fit numbers_from every
all-off b v bs g = go (readable b) (is_digit b) (λ f. too_large (10 * v + (b - 48)) bs f) g
  where
    go : (r d : Bool) → (fits (10 * v + (b - 48)) ≡ false → every fits (numbers_from true (10 * v + (b - 48)) bs) ≡ false)
        → both r (pick d (fits (10 * v + (b - 48))) true) ≡ false
        → both (both r (every readable bs)) (every fits (pick d (numbers_from true (10 * v + (b - 48)) bs) (v ∷ numbers_from false 0 bs))) ≡ false
    go false d f e = refl
    go true true f e = rw (f e) (both_false (every readable bs))
    go true false f e = absurd (true≢false e)

pub next_fits : (b v next : ℕ) → goes_on b v ≡ true → next ≡ next_value b v → fits next ≡ true
next_fits b v next g q = rw q (go (is_digit b) (both-second (readable b) (pick (is_digit b) (fits (10 * v + (b - 48))) true) g))
  where
    go : (d : Bool) → pick d (fits (10 * v + (b - 48))) true ≡ true → fits (pick d (10 * v + (b - 48)) 0) ≡ true
    go true e = e
    go false e = refl

numbers_on : (w : Bool) (b v : ℕ) (bs : List ℕ) → numbers_from w v (b ∷ bs) ≡ ended w (is_digit b) v ++ numbers_from (is_digit b) (next_value b v) bs
unfolding numbers_from
numbers_on w b v bs = go (is_digit b) w
  where
    go : (d w : Bool)
        → pick d (numbers_from true (10 * v + (b - 48)) bs) (pick w (v ∷ numbers_from false 0 bs) (numbers_from false 0 bs))
        ≡ ended w d v ++ numbers_from d (pick d (10 * v + (b - 48)) 0) bs
    go true true = refl
    go true false = refl
    go false true = refl
    go false false = refl

-- a turn at the byte at i
module _ (bytes : List ℕ) (i b v : ℕ) (h : i < length bytes) (e : b ≡ get_or bytes i 0) where
  here : drop i bytes ≡ b ∷ drop (i + 1) bytes
  here = rw (add-one i, e) (drop-cons bytes i 0 h)

  pub all-turn :
      (next : ℕ) → fits v ≡ true → goes_on b v ≡ true → next ≡ next_value b v
      → all_fit true next (drop (i + 1) bytes) ≡ all_fit true v (drop i bytes)
  all-turn next f g q = rw (here, q) (sym (all-on b v (drop (i + 1) bytes) f g))

  pub all-stop : goes_on b v ≡ false → all_fit true v (drop i bytes) ≡ false
  all-stop g = rw here (all-off b v (drop (i + 1) bytes) g)

  -- where all fit, the byte goes on
  pub must-go : all_fit true v (drop i bytes) ≡ true → goes_on b v ≡ true
  must-go a = go (goes_on b v) refl
    where
      go : (t : Bool) → goes_on b v ≡ t → goes_on b v ≡ true
      go true k = k
      go false k = never (sym (all-stop k) ∙ a)

  pub numbers-turn : (w d : Bool) (next : ℕ) (kept kept' all : List ℕ) → d ≡ is_digit b → next ≡ next_value b v → kept' ≡ kept ++ ended w d v
      → kept ++ numbers_from w v (drop i bytes) ≡ all → kept' ++ numbers_from d next (drop (i + 1) bytes) ≡ all
  numbers-turn w d next kept kept' all p q f a =
      rw (f, p, q, append_assoc, ← numbers_on w b v (drop (i + 1) bytes), ← here) a

-- the number that ends with the text
pub numbers-last : (bytes : List ℕ) (i v : ℕ) (w : Bool) (kept kept' all : List ℕ) → length bytes ≤ i → kept' ≡ kept ++ ended w false v
    → kept ++ numbers_from w v (drop i bytes) ≡ all → kept' ≡ all
unfolding numbers_from
numbers-last bytes i v true kept kept' all h f a = f ∙ (rw (drop_of_length-le bytes h) at a)
numbers-last bytes i v false kept kept' all h f a = f ∙ (rw (drop_of_length-le bytes h) at a)

-- one more kept, or none: those kept stand first, and behind them is what was there
module _ (list after part : List ℕ) (count r : ℕ) (w : Wrote list count part after r) (h : count + length part ≤ length list) where
  kept-size : length (take count list ++ part) ≡ count + length part
  kept-size =
      length-append (take count list) part ∙ ap (λ (k : ℕ). k + length part) (length-take-le count list (omega arith))

  pub kept-first : take r after ≡ take count list ++ part
  unfolding written
  kept-first = rw (w.next, w.out) (take_at (take count list ++ part) (drop (count + length part) list) (count + length part) kept-size)

  pub kept-behind : (base : List ℕ) → drop count list ≡ drop count base → drop r after ≡ drop r base
  unfolding written
  kept-behind base e =
      rw (w.next, w.out)
      (drop_at (take count list ++ part) (drop (count + length part) list) (count + length part) kept-size
      ∙ sym (drop-drop (length part) count list)
      ∙ ap (drop (length part)) e
      ∙ drop-drop (length part) count base)

-- all that are kept, written over the places' first
pub all-kept : (list base kept : List ℕ) (r : ℕ) → take r list ≡ kept → r ≡ length kept → drop r list ≡ drop r base → list ≡ written base 0 kept
unfolding written
all-kept list base kept r t n d =
    let z : r ≡ 0 + length kept = omega arith in
    sym (take-append-drop r list) ∙ rw (t, d) (ap (λ (k : ℕ). kept ++ drop k base) z)

pub kept-all : (list base kept : List ℕ) (r : ℕ) → list ≡ written base 0 kept → r ≡ length kept → take r list ≡ kept
unfolding written
kept-all list base kept r e n = rw e (take_at kept (drop (0 + length kept) base) r (sym n))

-- the first 202
pub first-full : (list rest all : List ℕ) (r : ℕ) → r ≤ length list → length list ≡ max_numbers → max_numbers ≤ r → take r list ++ rest ≡ all
    → (take r list ≡ take max_numbers all) × (r ≡ length (take max_numbers all))
first-full list rest all r h l k e =
    let n : length (take r list) ≡ r = length-take-le r list h in
    let t : take max_numbers all ≡ take r list = ap (take max_numbers) (sym e) ∙ take_at (take r list) rest max_numbers (omega arith) in
    (sym t, sym (ap length t ∙ n))

pub first-all :
    (list all : List ℕ) (r : ℕ) → r ≤ length list → length list ≡ max_numbers → take r list ≡ all
    → (take r list ≡ take max_numbers all) × (r ≡ length (take max_numbers all))
first-all list all r h l e =
    let n : length (take r list) ≡ r = length-take-le r list h in
    let m : length all ≡ r = sym (ap length e) ∙ n in
    let t : take max_numbers all ≡ all = take_all max_numbers all (omega arith) in
    (e ∙ sym t, sym (ap length t ∙ m))

-- a number that ends is kept
pub ended-short : (w d : Bool) (v : ℕ) → length (ended w d v) ≤ 1
ended-short w d v = go (both w (not d))
  where
    go : (t : Bool) → length (pick t (v ∷ []) []) ≤ 1
    go true = omega arith
    go false = omega arith

pub none_kept : (list : List ℕ) (count : ℕ) → Wrote list count [] list count
none_kept list count = record { out = sym (written_none list count); next = omega arith }
