-- What one byte does: laws of `groups` and `read_from`, one for each way on, and the bounds that go with them.
use mathlib.Core.Path.{◌≡◌, refl, sym}
use mathlib.Core.Bool.{Bool, true, false}
use mathlib.Core.Logic.{⊎_elim}
use mathlib.Core.List.{List, [], ◌∷◌}
use Prim.Native.Nat.{ℕ, zero, suc, ◌+◌, ◌*◌, ◌/◌, ◌%◌, ◌^◌, ◌≤◌, ◌<◌}
use native.Mathlib.Nat.{mul-le-mul_right, pow-le-pow_right}
use native.Mathlib.Numerals.{add-one}
use native.Mathlib.Omega.{arith}
use borrow.Author.Tests.{lt-ltb, le-ltb, le-leb, lt-leb, ltb-true, ne_eqb}
use lib.Dec.{ltb, leb, eqb}
use lib.ListN.{length, get_or}
use Rattle.base.specs.Choice.{pick, both}
use Rattle.base.proofs.ChoiceLaws.{lt-or-le}
use Rattle.base.specs.Row.{either}
use Rattle.groups.specs.Groups.{groups}
use Rattle.groups.specs.Reading.{Answer, value, refused, ended, read_from, read_at}

-- groups: the last one, and one with another after it
pub groups-last : (k x : ℕ) → x < 128 → groups (suc k) x ≡ x ∷ []
unfolding groups
groups-last k x h = rw (lt-ltb x 128 h)

pub groups-more : (k x : ℕ) → 128 ≤ x → groups (suc k) x ≡ (128 + x % 128) ∷ groups k (x / 128)
unfolding groups
groups-more k x h = rw (le-ltb x 128 h)

-- the number's bound goes down with it
pub rest_below : (left next x : ℕ) → left ≡ suc next → x < 128 ^ left → x / 128 < 128 ^ next
rest_below left next x n h = let below : x < 128 ^ suc next = rw n at h in omega arith

-- where another group follows, two are left
pub two-left : (k x : ℕ) → 128 ≤ x → x < 128 ^ k → 1 < k
two-left zero x m h = omega arith
two-left (suc zero) x m h = omega arith
two-left (suc (suc k)) x m h = omega arith

-- reading: no byte is allowed, and the bytes end
pub read_none : (bytes : List ℕ) (at i low left : ℕ) → left ≡ 0 → read_from bytes at i low left ≡ refused 11
unfolding read_from
read_none bytes at i low left n = rw n

pub read-end : (bytes : List ℕ) (at i low left next : ℕ) → left ≡ suc next → length bytes ≤ at → read_from bytes at i low left ≡ refused 10
unfolding read_from
read-end bytes at i low left next n e = rw (n, le-leb (length bytes) at e)

-- reading a byte of group i: the last, and one with another after it
module _ (bytes : List ℕ) (at i low left next byte weight : ℕ) (n : left ≡ suc next) (here : at < length bytes)
    (b : byte ≡ get_or bytes at 0) (w : weight ≡ 128 ^ i) where
  pub read-last : byte < 128 → read_from bytes at i low left ≡ ended byte i (low + byte % 128 * weight) (at + 1)
  unfolding read_from
  read-last h = rw (n, w, ← b, lt-leb (length bytes) at here, lt-ltb byte 128 h)

  pub read_more : 128 ≤ byte → read_from bytes at i low left ≡ read_from bytes (at + 1) (i + 1) (low + byte % 128 * weight) next
  unfolding read_from
  read_more h = rw (n, w, ← b, lt-leb (length bytes) at here, le-ltb byte 128 h)

pub small : (x : ℕ) → x < 128 → x % 128 ≡ x
small x h = omega arith

-- a last byte that is the only one, and one that is not 0
pub ended-first : (byte i x end : ℕ) → i ≤ 0 → x < 2 ^ 64 → ended byte i x end ≡ value x end
unfolding ended
ended-first byte i x end only fits = rw (le-ltb 0 i only, lt-leb (2 ^ 64) x fits) (cases (eqb byte 0))
  where
    cases : (t : Bool) → pick (either (both t false) false) (refused 11) (value x end) ≡ value x end
    cases true = refl
    cases false = refl

pub ended-some : (byte i x end : ℕ) → (byte ≡ 0 → ⊥) → x < 2 ^ 64 → ended byte i x end ≡ value x end
unfolding ended
ended-some byte i x end some fits = rw (ne_eqb byte 0 some, lt-leb (2 ^ 64) x fits)

-- a tenth group that does not fit, the last that is allowed, and a last byte of 0 after others
module _ (bytes : List ℕ) (at i low left byte : ℕ) (here : at < length bytes) (b : byte ≡ get_or bytes at 0) where
  pub read_over : i ≡ 9 → left ≡ 1 → 2 ^ 64 ≤ byte % 128 * 128 ^ i → refused 11 ≡ read_from bytes at i low left
  unfolding read_from ended
  read_over nine one over = rw (nine, one, ← b, lt-leb (length bytes) at here) (cases (ltb byte 128) refl)
    where
      cases : (t : Bool) → ltb byte 128 ≡ t → refused 11 ≡ pick (ltb byte 128) (ended byte 9 (low + byte % 128 * 128 ^ 9) (at + 1)) (refused 11)
      cases true e =
          let h : byte < 128 = ltb-true byte 128 e in
          let most : 2 ^ 64 ≤ byte % 128 * 128 ^ 9 = rw nine at over in
          rw (e, ne_eqb byte 0 (omega arith), le-leb (2 ^ 64) (low + byte % 128 * 128 ^ 9) (omega arith))
      cases false e = rw e

-- a group added to what is read stays below the next weight
pub added-below : (byte low weight : ℕ) → low < weight → low + byte % 128 * weight < weight * 128
added-below byte low weight h = omega (arith, mul-le-mul_right {m = byte % 128} {n = 127} weight (omega arith))

-- the weight of one of ten groups, and of one of the first nine
pub weight-of-ten : (i : ℕ) → i < 10 → 128 ^ i ≤ 2 ^ 63
weight-of-ten i h = pow-le-pow_right {n = 128} (omega arith) {i = i} {j = 9} (omega arith)

pub weight-le : (i : ℕ) → i < 9 → 128 ^ i ≤ 2 ^ 56
weight-le i h = pow-le-pow_right {n = 128} (omega arith) {i = i} {j = 8} (omega arith)

-- a group that does not fit is a tenth, and one that fits may be added
pub over-tenth : (byte i : ℕ) → i < 10 → 2 ^ 64 ≤ byte % 128 * 128 ^ i → i ≡ 9
over-tenth byte i h over =
    ⊎_elim
    (λ few. absurd (omega (
      arith,
      weight-le i few,
      mul-le-mul_right {m = byte % 128} {n = 127} (128 ^ i) (omega arith),
      mul-le-mul_right {m = 128 ^ i} {n = 2 ^ 56} 127 (weight-le i few),
    ))) (λ nine. omega arith) (lt-or-le i 9)

pub sum_fits : (byte low i : ℕ) → i < 10 → low < 128 ^ i → byte % 128 * 128 ^ i < 2 ^ 64 → low + byte % 128 * 128 ^ i < 2 ^ 64
sum_fits byte low i h l fits =
    ⊎_elim (λ few. omega (arith, added-below byte low (128 ^ i) l, weight-le i few))
    (λ nine. let e : i ≡ 9 = omega arith in tenth (rw e at l) (rw e at fits) e) (lt-or-le i 9)
  where
    tenth : low < 128 ^ 9 → byte % 128 * 128 ^ 9 < 2 ^ 64 → i ≡ 9 → low + byte % 128 * 128 ^ i < 2 ^ 64
    tenth l fits e = rw e (omega arith)

pub next-weight : (weight i : ℕ) → weight ≡ 128 ^ i → weight * 128 ≡ 128 ^ (i + 1)
next-weight weight i w = rw (w, add-one i) (omega arith)

-- what reading from the start gives
pub read_whole :
    (bytes : List ℕ) (at limit most : ℕ) (answer : Answer) → limit ≡ most → read_from bytes at 0 0 limit ≡ answer
    → answer ≡ read_at bytes at most
unfolding read_at
read_whole bytes at limit most answer l r = rw (← l) (sym r)

-- a group and the number of those after it, at any weight
pub add-group : (q r weight : ℕ) → r * weight + q * (weight * 128) ≡ (q * 128 + r) * weight
add-group q r weight = omega arith

-- a number that is refused is refused with 10 or 11
module _ (r : ℕ) where
  is_number : (k : ℕ) → 1 ≤ k → refused k ≡ refused r → 1 ≤ r
  is_number k some e = let same : k ≡ r = cc in omega arith

  ended-number : (byte i x end : ℕ) → ended byte i x end ≡ refused r → 1 ≤ r
  unfolding ended
  ended-number byte i x end e = cases (either (both (eqb byte 0) (ltb 0 i)) (leb (2 ^ 64) x)) e
    where
      cases : (t : Bool) → pick t (refused 11) (value x end) ≡ refused r → 1 ≤ r
      cases true f = is_number 11 (omega arith) f
      cases false f = let no : ◌≡◌ {A = ℕ} 0 1 = cc in absurd (omega arith)

  either_number : (t u : Bool) (last next : Answer) → (last ≡ refused r → 1 ≤ r) → (next ≡ refused r → 1 ≤ r)
      → pick t (refused 10) (pick u last next) ≡ refused r → 1 ≤ r
  either_number true u last next a b f = is_number 10 (omega arith) f
  either_number false true last next a b f = a f
  either_number false false last next a b f = b f

  from-number : (bytes : List ℕ) (left at i low : ℕ) → read_from bytes at i low left ≡ refused r → 1 ≤ r
  unfolding read_from
  from-number bytes zero at i low e = is_number 11 (omega arith) e
  from-number bytes (suc left) at i low e =
      let x : ℕ = low + get_or bytes at 0 % 128 * 128 ^ i in
      either_number (leb (length bytes) at) (ltb (get_or bytes at 0) 128) (ended (get_or bytes at 0) i x (at + 1))
      (read_from bytes (at + 1) (i + 1) x left) (ended-number (get_or bytes at 0) i x (at + 1)) (from-number bytes left (at + 1) (i + 1) x) e

pub read_number : (bytes : List ℕ) (at most r : ℕ) → read_at bytes at most ≡ refused r → 1 ≤ r
unfolding read_at
read_number bytes at most r e = from-number r bytes most at 0 0 e
