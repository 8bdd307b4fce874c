-- Texts laid one after the other.
use mathlib.Core.Path.{◌≡◌, refl, sym, ap, ◌∙◌}
use Prim.Native.Nat.{ℕ, zero, suc, ◌+◌, ◌-◌, ◌/◌, ◌%◌, ◌^◌, ◌≤◌, ◌<◌}
use native.Mathlib.Numerals.{add-one}
use native.Mathlib.Omega.{arith}
use mathlib.Core.Bool.{Bool, true, false}
use mathlib.Core.List.{List, [], ◌∷◌, ◌++◌, append_assoc}
use lib.Dec.{ltb}
use lib.ListN.{length, take, drop, set, length-append, length-set}
use lib.Seq.{drop-cons, drop-set-lt, get_or-set_same}
use borrow.Author.Tests.{lt-ltb, le-ltb}
use Rattle.base.specs.Choice.{pick}
use Rattle.base.specs.Bytes.{zeros, written}
use Rattle.base.proofs.WrittenLaws.{written_none, written_one, written-append}
use Rattle.decimal.specs.Text.{digits, decimal, field}
use Rattle.decimal.specs.Steps.{Wrote}

-- one text, then another
pub then : {d e f a b : List ℕ} {at m k : ℕ} → Wrote d at a e m → Wrote e m b f k → at + length (a ++ b) ≤ length d → Wrote d at (a ++ b) f k
then {d} {e} {f} {a} {b} {at} {m} {k} p q h =
    record {
      out = q.out ∙ rw (p.out, p.next) (sym (written-append d at a b h));
      next = q.next ∙ rw (p.next, length-append) (omega arith);
    }

pub one_byte : (d : List ℕ) (at b : ℕ) → at < length d → Wrote d at (b ∷ []) (set d at b) (at + 1)
one_byte d at b h = record { out = sym (written_one d at b [] (omega arith) ∙ written_none (set d at b) (at + 1)); next = refl }

-- decimal
digits-short : (k x : ℕ) → length (digits k x) ≤ k
unfolding digits
digits-short zero x = omega arith
digits-short (suc k) x = go (ltb x 10) (digits-short k (x / 10))
  where
    go : (t : Bool) → length (digits k (x / 10)) ≤ k → length (pick t ((48 + x) ∷ []) (digits k (x / 10) ++ (48 + x % 10) ∷ [])) ≤ suc k
    go true h = omega arith
    go false h = omega (arith, length-append (digits k (x / 10)) ((48 + x % 10) ∷ []))

pub decimal-short : (x : ℕ) → length (decimal x) ≤ 20
unfolding decimal
decimal-short x = digits-short 20 x

pub ten-left : (i rest : ℕ) → 10 ≤ rest → rest < 10 ^ (i + 1) → 0 < i
ten-left zero rest h k = absurd (omega arith)
ten-left (suc i) rest h k = omega arith

pub tenth : (i rest : ℕ) → 0 < i → rest < 10 ^ (i + 1) → rest / 10 < 10 ^ (i - 1 + 1)
tenth zero rest h k = absurd (omega arith)
tenth (suc i) rest h k =
    let e : suc i - 1 + 1 ≡ suc i = omega arith in
    let f : suc i + 1 ≡ suc (suc i) = omega arith in
    rw e (omega (arith, rw f at k))

after-set : (text : List ℕ) (i c : ℕ) → i < length text → drop i (set text i c) ≡ c ∷ drop (i + 1) text
after-set text i c h =
    drop-cons (set text i c) i 0 (rw length-set h) ∙ rw (get_or-set_same text i c 0 h, drop-set-lt (suc i) text i c (omega arith), add-one i)

pub spelled-more : (text all : List ℕ) (i rest : ℕ) → 0 < i → i < length text → 10 ≤ rest → digits (i + 1) rest ++ drop (i + 1) text ≡ all
    → digits (i - 1 + 1) (rest / 10) ++ drop (i - 1 + 1) (set text i (48 + rest % 10)) ≡ all
spelled-more text all i rest h k t e =
    let j : i - 1 + 1 ≡ i = omega arith in
    rw (j, after-set text i (48 + rest % 10) k) (sym (append_assoc (digits i (rest / 10)) ((48 + rest % 10) ∷ []) (drop (i + 1) text)) ∙ more ∙ e)
  where
    more : digits i (rest / 10) ++ (48 + rest % 10) ∷ [] ++ drop (i + 1) text ≡ digits (i + 1) rest ++ drop (i + 1) text
    more = rw (add-one i) (unfold digits in rw (le-ltb rest 10 t))

pub spelled-last : (text all : List ℕ) (i rest : ℕ) → i < length text → rest < 10 → digits (i + 1) rest ++ drop (i + 1) text ≡ all
    → drop i (set text i (48 + rest)) ≡ all
spelled-last text all i rest k t e = after-set text i (48 + rest) k ∙ last ∙ e
  where
    last : (48 + rest) ∷ drop (i + 1) text ≡ digits (i + 1) rest ++ drop (i + 1) text
    last = rw (add-one i) (unfold digits in rw (lt-ltb rest 10 t))

-- zeros stand before the digits
still-zero : (text : List ℕ) (i c : ℕ) → take (suc i) text ≡ zeros (suc i) → take i (set text i c) ≡ zeros i
still-zero text zero c e = refl
still-zero [] (suc i) c e = let z : ◌≡◌ {A = ℕ} 0 1 = cc in absurd (omega arith)
still-zero (x ∷ text) (suc i) c e =
    let h : x ≡ 0 = cc in
    let t : take (suc i) text ≡ zeros (suc i) = cc in
    rw h (ap (λ (l : List ℕ). 0 ∷ l) (still-zero text i c t))

pub zeros-last : (text : List ℕ) (i c : ℕ) → take (i + 1) text ≡ zeros (i + 1) → take i (set text i c) ≡ zeros i
zeros-last text i c e = still-zero text i c (rw (add-one i) at e)

pub zeros-more : (text : List ℕ) (i c : ℕ) → 0 < i → take (i + 1) text ≡ zeros (i + 1) → take (i - 1 + 1) (set text i c) ≡ zeros (i - 1 + 1)
zeros-more text i c h e = let j : i - 1 + 1 ≡ i = omega arith in rw j (zeros-last text i c e)

-- where a field ends at the latest
pub field_end : {d e : List ℕ} {at m : ℕ} (name : List ℕ) (x : ℕ) → Wrote d at (field name x) e m → m ≤ at + (length name + 20)
field_end name x w = omega (arith, w.next, length-append name (decimal x), decimal-short x)

pub field-wrote : (d e f name part : List ℕ) (at m x k : ℕ) → at + (length name + 20) ≤ length d → e ≡ written d at name → m ≡ at + length name
    → part ≡ decimal x → f ≡ written e m part → k ≡ m + length (decimal x) → Wrote d at (field name x) f k
field-wrote d e f name part at m x k h p q r s t =
    then (record { out = p; next = q }) (record { out = s ∙ ap (written e m) r; next = t })
    (omega (arith, length-append name (decimal x), decimal-short x))

pub field-length : (name : List ℕ) (x : ℕ) → length (field name x) ≤ length name + 20
field-length name x = omega (arith, length-append name (decimal x), decimal-short x)
