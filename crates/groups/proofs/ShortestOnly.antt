-- Only the shortest form of a number is read, for any number of groups allowed.
use mathlib.Core.Path.{◌≡◌, refl, sym, ap, ◌∙◌}
use mathlib.Core.Bool.{Bool, true, false}
use mathlib.Core.Logic.{⊎_elim}
use mathlib.Core.List.{List, ◌∷◌, ◌++◌}
use Prim.Native.Nat.{ℕ, zero, suc, ◌+◌, ◌-◌, ◌*◌, ◌/◌, ◌%◌, ◌^◌, ◌≤◌, ◌<◌}
use native.Mathlib.Nat.{pow-le-pow_right}
use native.Mathlib.Numerals.{add-one}
use native.Mathlib.Omega.{arith}
use borrow.Author.Tests.{ne_eqb, lt-ltb, leb-false}
use lib.Dec.{eqb, ltb, leb}
use lib.ListN.{length, take, drop, get_or}
use lib.Seq.{take_at, drop-cons}
use Rattle.base.specs.Choice.{both}
use Rattle.groups.specs.Groups.{groups}
use Rattle.groups.specs.Reading.{value, refused, ended, read_from, read_at}
use Rattle.groups.proofs.Steps.{groups-last, groups-more, read_none, read-end, read-last, read_more, next-weight, add-group, small}
use Rattle.base.proofs.ChoiceLaws.{lt-or-le}
use Rattle.groups.proofs.Sizes.{groups-same}

-- a refusal is no number
no_number : {A : Type 0} {r x end : ℕ} → refused r ≡ value x end → A
no_number e = let no : ◌≡◌ {A = ℕ} 0 1 = cc in absurd (omega arith)

-- the bytes from a place to an end are the groups of x, in the shortest form, of at most `most` groups
pub record Shortest (bytes : List ℕ) (at most x end : ℕ) : Type 0 where
  pub some : 0 < most
  pub below : x < 128 ^ most
  pub form : drop at bytes ≡ groups most x ++ drop end bytes
  pub ends : end ≡ at + length (groups most x)

-- what is read from group i on is worth x at the weight of that group, and of several groups the last is not 0
record Rest (bytes : List ℕ) (at i low weight left sum end : ℕ) : Type 0 where
  pub x : ℕ
  pub total : sum ≡ low + x * weight
  pub several : both (eqb x 0) (ltb 0 i) ≡ false
  pub shortest : Shortest bytes at left x end

rest-last :
    (bytes : List ℕ) (at i low weight left total end : ℕ) → at < length bytes → get_or bytes at 0 < 128
    → both (eqb (get_or bytes at 0) 0) (ltb 0 i) ≡ false → total ≡ low + get_or bytes at 0 % 128 * weight → end ≡ at + 1
    → Rest bytes at i low weight (suc left) total end
rest-last bytes at i low weight left total end here h s v e = record {
  x = get_or bytes at 0;
  total = v ∙ rw (small (get_or bytes at 0) h);
  several = s;
  shortest = record {
    some = omega arith;
    below = omega (arith, pow-le-pow_right {n = 128} (omega arith) {i = 0} {j = left} (omega arith));
    form = rw (groups-last left (get_or bytes at 0) h, e, add-one at) (drop-cons bytes at 0 here);
    ends = rw (groups-last left (get_or bytes at 0) h) (omega arith);
  };
}

-- a byte of 128 or more before the groups of a number that is not 0
before-groups : (left x byte : ℕ) → 0 < x → 128 ≤ byte → byte < 256 → groups (suc left) (x * 128 + byte % 128) ≡ byte ∷ groups left x
before-groups left x byte p h b =
    let low : 128 + (x * 128 + byte % 128) % 128 ≡ byte = omega arith in
    let high : (x * 128 + byte % 128) / 128 ≡ x = omega arith in
    groups-more left (x * 128 + byte % 128) (omega arith) ∙ rw (low, high)

not-zero : (x i : ℕ) → both (eqb x 0) (ltb 0 (i + 1)) ≡ false → 0 < x
not-zero zero i s = let impossible : true ≡ false = sym (lt-ltb 0 (i + 1) (omega arith)) ∙ s in let no : ◌≡◌ {A = ℕ} 0 1 = cc in absurd (omega arith)
not-zero (suc x) i s = omega arith

rest_more :
    (bytes : List ℕ) (at i low weight left total end : ℕ) → at < length bytes → 128 ≤ get_or bytes at 0 → get_or bytes at 0 < 256
    → Rest bytes (at + 1) (i + 1) (low + get_or bytes at 0 % 128 * weight) (weight * 128) left total end
    → Rest bytes at i low weight (suc left) total end
rest_more bytes at i low weight left total end here h b r =
    let byte = get_or bytes at 0 in
    let pos = not-zero r.x i r.several in
    let all = before-groups left r.x byte pos h b in record {
      x = r.x * 128 + byte % 128;
      total = omega (arith, r.total, add-group r.x (byte % 128) weight);
      several = rw (ne_eqb (r.x * 128 + byte % 128) 0 (omega arith));
      shortest = record {
        some = omega arith;
        below = omega (arith, r.shortest.below);
        form = rw all (drop-cons bytes at 0 here ∙ ap (λ (l : List ℕ). byte ∷ l) (rw (add-one at) at r.shortest.form));
        ends = rw all (omega (arith, r.shortest.ends));
      };
    }

-- what `ended` says where it gives a number
record Ended (byte i total end x end' : ℕ) : Type 0 where
  pub several : both (eqb byte 0) (ltb 0 i) ≡ false
  pub fits : total < 2 ^ 64
  pub value-is : x ≡ total
  pub end_is : end' ≡ end

ended-value : (byte i total end x end' : ℕ) → ended byte i total end ≡ value x end' → Ended byte i total end x end'
unfolding ended
ended-value byte i total end x end' e = cases (both (eqb byte 0) (ltb 0 i)) (leb (2 ^ 64) total) refl refl
  where
    cases : (t u : Bool) → both (eqb byte 0) (ltb 0 i) ≡ t → leb (2 ^ 64) total ≡ u → Ended byte i total end x end'
    cases true u s f = no_number (rw s at e)
    cases false true s f = no_number (rw (s, f) at e)
    cases false false s f =
        let same = rw (s, f) at e in
        record { several = s; fits = leb-false (2 ^ 64) total f; value-is = cc; end_is = cc }

last_of : (left i low weight at total end : ℕ) (bytes : List ℕ) → at < length bytes → get_or bytes at 0 < 128
    → ended (get_or bytes at 0) i (low + get_or bytes at 0 % 128 * weight) (at + 1) ≡ value total end
    → Rest bytes at i low weight (suc left) total end
last_of left i low weight at total end bytes here h e =
    let l = ended-value (get_or bytes at 0) i (low + get_or bytes at 0 % 128 * weight) (at + 1) total end e in
    rest-last bytes at i low weight left total end here h l.several l.value-is l.end_is

rest_of : (left i low weight at total end : ℕ) (bytes : List ℕ) → ((j : ℕ) → get_or bytes j 0 < 256) → weight ≡ 128 ^ i
    → read_from bytes at i low left ≡ value total end → Rest bytes at i low weight left total end
rest_of zero i low weight at total end bytes b w e = no_number (sym (read_none bytes at i low 0 refl) ∙ e)
rest_of (suc left) i low weight at total end bytes b w e =
    ⊎_elim
    (λ here.
    ⊎_elim
    (λ h. last_of left i low weight at total end bytes here h
    (sym (read-last bytes at i low (suc left) left (get_or bytes at 0) weight refl here refl w h) ∙ e))
    (λ h. rest_more bytes at i low weight left total end here h (b at)
    (rest_of left (i + 1) (low + get_or bytes at 0 % 128 * weight) (weight * 128) (at + 1) total end bytes b (next-weight weight i w)
    (sym (read_more bytes at i low (suc left) left (get_or bytes at 0) weight refl here refl w h) ∙ e)))
    (lt-or-le (get_or bytes at 0) 128))
    (λ past. no_number (sym (read-end bytes at i low (suc left) left refl past) ∙ e))
    (lt-or-le at (length bytes))

-- only the shortest form is read
pub only-shortest : (bytes : List ℕ) (at most x end : ℕ) → ((j : ℕ) → get_or bytes j 0 < 256) → read_at bytes at most ≡ value x end
    → Shortest bytes at most x end
unfolding read_at
only-shortest bytes at most x end b e =
    let r = rest_of most 0 0 1 at x end bytes b refl e in
    let same : x ≡ r.x = omega (arith, r.total) in
    rw same r.shortest

-- the bytes that were read are the number's groups
pub read-groups : (bytes : List ℕ) (at most x end : ℕ) → ((j : ℕ) → get_or bytes j 0 < 256) → read_at bytes at most ≡ value x end
    → take (end - at) (drop at bytes) ≡ groups most x
read-groups bytes at most x end b e =
    let s = only-shortest bytes at most x end b e in
    rw s.form (take_at (groups most x) (drop end bytes) (end - at) (omega (arith, s.ends)))

-- no two byte strings give the same number, whatever number of groups is allowed
pub one_form : (bytes bytes' : List ℕ) (at at' most most' x end end' : ℕ) → ((j : ℕ) → get_or bytes j 0 < 256)
    → ((j : ℕ) → get_or bytes' j 0 < 256) → read_at bytes at most ≡ value x end → read_at bytes' at' most' ≡ value x end'
    → take (end - at) (drop at bytes) ≡ take (end' - at') (drop at' bytes')
one_form bytes bytes' at at' most most' x end end' b b' e e' =
    let s = only-shortest bytes at most x end b e in
    let s' = only-shortest bytes' at' most' x end' b' e' in
    read-groups bytes at most x end b e
    ∙ groups-same most most' x s.some s'.some s.below s'.below
    ∙ sym (read-groups bytes' at' most' x end' b' e')
