-- A row answers the first of its conditions that holds: one law for every row, over tests that decide its conditions.
use mathlib.Core.Path.{◌≡◌, refl, sym, ◌∙◌}
use mathlib.Core.Logic.{◌⊎◌, inl, inr, ⊎_elim, ◌↔◌}
use Prim.Native.Nat.{ℕ, zero, suc, ◌≤◌, ◌<◌}
use native.Mathlib.Omega.{arith}
use mathlib.Core.Bool.{Bool, true, false, not}
use mathlib.Core.List.{List, [], ◌∷◌, ◌++◌}
use lib.Dec.{ltb, leb, eqb}
use lib.ListN.{length, get_or}
use borrow.Author.Tests.{ltb-true, ltb-false, leb-true, leb-false, eqb-true, eqb-false, not-true, not-false}
use Rattle.base.specs.Choice.{pick, both, every}
use Rattle.base.specs.Lists.{same_bytes}
use Rattle.base.proofs.ChoiceLaws.{both_first, both-second, true-false, lt-or-le}
use Rattle.base.proofs.ListsLaws.{tells-bytes, test-false}
use Rattle.base.specs.Row.{first_of, outside, either}
use Rattle.base.proofs.RowLaws.{NoneHolds, numbered, none-holds, row-passed}
use Rattle.demands.specs.Rows.{Row, IsFirst, Outside}

-- ---- rows as tests
-- some test of a row holds with this number, and none before it
pub record FirstHolds (row : List (Bool × ℕ)) (number : ℕ) : Type 0 where
  pub before : List (Bool × ℕ)
  pub after : List (Bool × ℕ)
  pub whole : row ≡ before ++ (true, number) ∷ after
  pub none : NoneHolds before

first_by :
    (t : Bool) (here number : ℕ) (row : List (Bool × ℕ)) → (first_of row ≡ number → FirstHolds row number)
    → pick t here (first_of row) ≡ number → FirstHolds ((t, here) ∷ row) number
first_by true here number row ih e = record { before = []; after = row; whole = rw e; none = tt }
first_by false here number row ih e =
    let first : FirstHolds row number = ih e in
    record { before = (false, here) ∷ first.before; after = first.after; whole = rw first.whole; none = (refl, first.none) }

first_holds : (row : List (Bool × ℕ)) (number : ℕ) → 1 ≤ number → first_of row ≡ number → FirstHolds row number
first_holds [] number some e = absurd (omega arith)
first_holds (check ∷ row) number some e = first_by check.0 check.1 number row (first_holds row number some) e

none_done : (row : List (Bool × ℕ)) → NoneHolds row → first_of row ≡ 0
none_done [] none = refl
none_done (check ∷ row) none = rw none.0 (none_done row none.1)

-- 'Each is given just when its condition holds and no earlier one did.'
pub refused-exactly : (row : List (Bool × ℕ)) (number : ℕ) → 1 ≤ number → first_of row ≡ number ↔ FirstHolds row number
refused-exactly row number some =
    (first_holds row number some, λ first. rw first.whole (row-passed first.before ((true, number) ∷ first.after) first.none))

pub done-exactly : (row : List (Bool × ℕ)) → numbered row ≡ true → first_of row ≡ 0 ↔ NoneHolds row
done-exactly row n = (none-holds row n, none_done row)

-- ---- tests that decide conditions
pub record Decides (test : Bool) (condition : Type 0) : Type 0 where
  pub yes : test ≡ true → condition
  pub no : test ≡ false → condition → ⊥

pub decides-lt : (x y : ℕ) → Decides (ltb x y) (x < y)
decides-lt x y = record { yes = ltb-true x y; no = λ e lt. omega (arith, ltb-false x y e) }

pub decides-le : (x y : ℕ) → Decides (leb x y) (x ≤ y)
decides-le x y = record { yes = leb-true x y; no = λ e le. omega (arith, leb-false x y e) }

pub decides_eq : (x y : ℕ) → Decides (eqb x y) (x ≡ y)
decides_eq x y = record { yes = eqb-true x y; no = eqb-false x y }

pub decides-same : (x y : List ℕ) → Decides (same_bytes x y) (x ≡ y)
decides-same x y = record { yes = tells-bytes.equal x y; no = test-false tells-bytes x y }

-- both of two
both-no : (a b : Bool) {P Q : Type 0} → (a ≡ false → P → ⊥) → (b ≡ false → Q → ⊥) → both a b ≡ false → P × Q → ⊥
both-no true b p q e found = q e found.1
both-no false b p q e found = p refl found.0

pub decides-both : {a b : Bool} {P Q : Type 0} → Decides a P → Decides b Q → Decides (both a b) (P × Q)
decides-both {a} {b} p q =
    record {
      yes = λ e. (p.yes (both_first a b e), q.yes (both-second a b e));
      no = both-no a b p.no q.no;
    }

pub decides-between : (low high x : ℕ) → Decides (both (leb low x) (leb x high)) ((low ≤ x) × (x ≤ high))
decides-between low high x = decides-both (decides-le low x) (decides-le x high)

-- the contrary
pub decides_not : {t : Bool} {P : Type 0} → Decides t P → Decides (not t) (P → ⊥)
decides_not {t} d = record { yes = λ e. d.no (not-true t e); no = λ e none. none (d.yes (not-false t e)) }

pub decides-outside : (low high x : ℕ) → Decides (outside low high x) (Outside low high x)
decides-outside low high x = decides_not (decides-between low high x)

-- no number is below 0
pub decides-over : (high x : ℕ) → Decides (outside 0 high x) (high < x)
decides-over high x =
    let d = decides-outside 0 high x in
    record {
      yes = λ e. ⊎_elim (λ over. over) (λ (within : x ≤ high). absurd (d.yes e (omega arith, within))) (lt-or-le high x);
      no = λ e over. d.no e (λ within. omega (arith, within));
    }

pub decides-differ : (x y : List ℕ) → Decides (not (same_bytes x y)) (x ≡ y → ⊥)
decides-differ x y = decides_not (decides-same x y)

pub decides-under : (x y : ℕ) → Decides (not (ltb x y)) (y ≤ x)
decides-under x y =
    record {
      yes = λ e. ltb-false x y (not-true (ltb x y) e);
      no = λ e le. omega (arith, ltb-true x y (not-false (ltb x y) e));
    }

-- one of two
either-yes : (a b : Bool) (P Q : Type 0) → (a ≡ true → P) → (b ≡ true → Q) → either a b ≡ true → P ⊎ Q
either-yes true b P Q p q e = inl (p refl)
either-yes false b P Q p q e = inr (q e)

either-no : (a b : Bool) (P Q : Type 0) → (a ≡ false → P → ⊥) → (b ≡ false → Q → ⊥) → either a b ≡ false → P ⊎ Q → ⊥
either-no true b P Q p q e some = true-false true refl e
either-no false b P Q p q e some = ⊎_elim (p refl) (q e) some

pub decides-either : {a b : Bool} {P Q : Type 0} → Decides a P → Decides b Q → Decides (either a b) (P ⊎ Q)
decides-either {a} {b} {P} {Q} p q =
    record { yes = either-yes a b P Q p.yes q.yes; no = either-no a b P Q p.no q.no }

-- some element does not pass a test
module _ (test : ℕ → Bool) (Bad : ℕ → Type 0) (decides : (x : ℕ) → Decides (not (test x)) (Bad x)) where
  some-bad : (xs : List ℕ) → every test xs ≡ false → (i : ℕ) × (i < length xs) × Bad (get_or xs i 0)
  unfolding every
  some-bad [] e = absurd (true-false true refl e)
  some-bad (x ∷ xs) e = go (test x) refl (some-bad xs)
    where
      go :
          (t : Bool) → test x ≡ t → (every test xs ≡ false → (i : ℕ) × (i < length xs) × Bad (get_or xs i 0))
          → (i : ℕ) × (i < length (x ∷ xs)) × Bad (get_or (x ∷ xs) i 0)
      go false f later = (0, omega arith, (decides x).yes (rw f))
      go true f later = let found = later (rw f at e) in (suc found.0, omega (arith, found.1), found.2)

  none-bad : (xs : List ℕ) → every test xs ≡ true → (i : ℕ) → i < length xs → Bad (get_or xs i 0) → ⊥
  unfolding every
  none-bad [] e i small bad = omega arith
  none-bad (x ∷ xs) e zero small bad =
      let good : test x ≡ true = both_first (test x) (every test xs) e in
      (decides x).no (rw good) bad
  none-bad (x ∷ xs) e (suc i) small bad = none-bad xs (both-second (test x) (every test xs) e) i (omega arith) bad

  pub decides-some : (xs : List ℕ) → Decides (not (every test xs)) ((i : ℕ) × (i < length xs) × Bad (get_or xs i 0))
  decides-some xs =
      record {
        yes = λ e. some-bad xs (not-true (every test xs) e);
        no = λ e some. none-bad xs (not-false (every test xs) e) some.0 some.1 some.2;
      }

-- ---- a row of decided conditions
pub record Decided : Type 1 where
  pub test : Bool
  pub condition : Type 0
  pub decides : Decides test condition
  pub number : ℕ

abbrev pub tests : List Decided → List (Bool × ℕ)
tests [] = []
tests (c ∷ cs) = (c.test, c.number) ∷ tests cs

abbrev pub conditions : List Decided → Row
conditions [] = []
conditions (c ∷ cs) = (c.condition, c.number) ∷ conditions cs

first_step :
    (t : Bool) (P : Type 0) (number : ℕ) (row : Row) (next : ℕ) → Decides t P → IsFirst row next
    → IsFirst ((P, number) ∷ row) (pick t number next)
first_step true P number row next d rest = inl (d.yes refl, refl)
first_step false P number row next d rest = inr (d.no refl, rest)

pub is-first : (cs : List Decided) → IsFirst (conditions cs) (first_of (tests cs))
is-first [] = refl
is-first (c ∷ cs) = first_step c.test c.condition c.number (conditions cs) (first_of (tests cs)) c.decides (is-first cs)

-- the first condition of a row, with its number, which is compared before the condition is
pub given : {P Q : Type 0} {number answer : ℕ} → answer ≡ number → P → (P × (answer ≡ number)) ⊎ Q
given e p = inl (p, e)

-- a row gives one answer
pub one_answer : (row : Row) (a b : ℕ) → IsFirst row a → IsFirst row b → a ≡ b
one_answer [] a b p q = p ∙ sym q
one_answer (check ∷ row) a b (inl p) (inl q) = p.1 ∙ sym q.1
one_answer (check ∷ row) a b (inl p) (inr q) = absurd (q.0 p.0)
one_answer (check ∷ row) a b (inr p) (inl q) = absurd (p.0 q.0)
one_answer (check ∷ row) a b (inr p) (inr q) = one_answer row a b p.1 q.1

-- ---- a row behind another
-- no number of a row is 0
abbrev pub Positive : Row → Type 0
Positive [] = Unit
Positive (check ∷ row) = (1 ≤ check.1) × Positive row

pub stays-first : (row later : Row) (answer : ℕ) → 1 ≤ answer → IsFirst row answer → IsFirst (row ++ later) answer
stays-first [] later answer some e = absurd (omega arith)
stays-first (check ∷ row) later answer some (inl here) = inl here
stays-first (check ∷ row) later answer some (inr after) = inr (after.0, stays-first row later answer some after.1)

pub passes-first : (row later : Row) (answer : ℕ) → Positive row → IsFirst row 0 → IsFirst later answer → IsFirst (row ++ later) answer
passes-first [] later answer some none first = first
passes-first (check ∷ row) later answer some (inl here) first = absurd (omega (arith, some.0, here.1))
passes-first (check ∷ row) later answer some (inr after) first = inr (after.0, passes-first row later answer some.1 after.1 first)
