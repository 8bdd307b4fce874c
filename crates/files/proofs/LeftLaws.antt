-- Bytes that are all zero, and bytes that begin as others do, by std's words.
use mathlib.Core.Path.{◌≡◌, refl, sym, ◌∙◌}
use mathlib.Core.Bool.{Bool, true, false}
use mathlib.Core.List.{List, [], ◌∷◌}
use Prim.Native.Nat.{ℕ}
use lib.Dec.{eqb}
use lib.Pointwise.{pointwise}
use Rattle.std.specs.List.{list_all}
use Rattle.std.specs.Prelude.{◌&&◌}
use Rattle.base.specs.Choice.{both, every}
use Rattle.base.specs.Lists.{same_bytes}
use Rattle.base.proofs.ListsLaws.{tells-bytes, test-same, test-false, test-differ, same_by-pointwise}
use Rattle.files.specs.LeftOver.{is_blank, left_over}
use lib.ListN.{length, take}

pub every-list_all : (test : ℕ → Bool) (xs : List ℕ) → list_all test xs ≡ every test xs
unfolding every
every-list_all test [] = refl
every-list_all test (x ∷ xs) = and (test x) (every-list_all test xs)
  where
    and : {p q : Bool} (t : Bool) → p ≡ q → (t && p) ≡ both t q
    and true e = e
    and false e = refl

same-turned : (xs ys : List ℕ) → same_bytes xs ys ≡ same_bytes ys xs
same-turned xs ys = go (same_bytes xs ys) refl
  where
    go : (t : Bool) → same_bytes xs ys ≡ t → same_bytes xs ys ≡ same_bytes ys xs
    go true e = e ∙ sym (test-same tells-bytes ys xs (sym (tells-bytes.equal xs ys e)))
    go false e = e ∙ sym (test-differ tells-bytes ys xs (λ (h : ys ≡ xs). test-false tells-bytes xs ys e (sym h)))

-- ---- what a killed run left, by what is known of the bytes
module _ (bytes head : List ℕ) (blank : Bool) (is : blank ≡ is_blank bytes) where
  pub left-blank : blank ≡ true → true ≡ left_over bytes head
  unfolding left_over
  left-blank e = rw (← is, e)

  pub left-front : (r : Bool) → blank ≡ false → r ≡ pointwise eqb head (take (length head) bytes) → r ≡ left_over bytes head
  unfolding left_over
  left-front r e f =
      rw (← is, e) (f ∙ same_by-pointwise eqb head (take (length head) bytes) ∙ same-turned head (take (length head) bytes))
