-- Laws of tests, and of the lists `passing` and `every` make of them.
use mathlib.Core.Path.{◌≡◌, refl, sym, ap, ◌∙◌}
use Prim.Native.Nat.{ℕ, zero, suc, ◌<◌}
use native.Mathlib.Omega.{arith}
use mathlib.Core.Bool.{Bool, true, false, not, true≢false}
use mathlib.Core.List.{List, [], ◌∷◌, ◌++◌}
use lib.Dec.{ltb, eqb}
use lib.ListN.{length, get_or}
use borrow.Author.Tests.{ltb-true, ltb-false, eqb-true, eqb-false, not-true}
use Rattle.base.specs.Choice.{pick, both, passing, every}
use Rattle.chain_theory.specs.Planning.{increasing}

-- a test is not both
pub clash : {b : Bool} → b ≡ true → b ≡ false → ⊥
clash h k = let e : true ≡ false = cc in true≢false e

pub both_left : (a b : Bool) → both a b ≡ true → a ≡ true
both_left true b h = refl
both_left false b h = h

pub both_right : (a b : Bool) → both a b ≡ true → b ≡ true
both_right true b h = h
both_right false b h = absurd (clash h refl)

pub both_true : (a b : Bool) → a ≡ true → b ≡ true → both a b ≡ true
both_true a b h k = rw (h, k)

pub both_false : (a : Bool) → both a false ≡ false
both_false true = refl
both_false false = refl

pub pick_true : (a : Bool) → pick a true true ≡ true
pick_true true = refl
pick_true false = refl

-- two tests of which each gives the other are one
pub same_test : (a b : Bool) → (a ≡ true → b ≡ true) → (b ≡ true → a ≡ true) → a ≡ b
same_test true b f g = sym (f refl)
same_test false true f g = g refl
same_test false false f g = refl

-- the three ways in which two numbers stand
pub data Order (a b : ℕ) : Type 0 where
  less : a < b → Order a b
  same : a ≡ b → Order a b
  more : b < a → Order a b

pub order : (a b : ℕ) → Order a b
order a b = go (ltb a b) (eqb a b) refl refl
  where
    go : (s t : Bool) → ltb a b ≡ s → eqb a b ≡ t → Order a b
    go true t e f = less (ltb-true a b e)
    go false true e f = same (eqb-true a b f)
    go false false e f = more (omega (arith, ltb-false a b e, eqb-false a b f))

module _ {ℓ} {A : Type ℓ} where
  pub passing-yes : (t : A → Bool) (x : A) (xs : List A) → t x ≡ true → passing t (x ∷ xs) ≡ x ∷ passing t xs
  unfolding passing
  passing-yes t x xs h = rw h

  pub passing-no : (t : A → Bool) (x : A) (xs : List A) → t x ≡ false → passing t (x ∷ xs) ≡ passing t xs
  unfolding passing
  passing-no t x xs h = rw h

  pub passing-one : (t : A → Bool) (x : A) → passing t (x ∷ []) ≡ pick (t x) (x ∷ []) []
  unfolding passing
  passing-one t x = refl

  pub every_first : (t : A → Bool) (x : A) (xs : List A) → every t (x ∷ xs) ≡ true → t x ≡ true
  unfolding every
  every_first t x xs h = both_left (t x) (every t xs) h

  pub every_rest : (t : A → Bool) (x : A) (xs : List A) → every t (x ∷ xs) ≡ true → every t xs ≡ true
  unfolding every
  every_rest t x xs h = both_right (t x) (every t xs) h

  pub every-both : (t : A → Bool) (x : A) (xs : List A) → t x ≡ true → every t xs ≡ true → every t (x ∷ xs) ≡ true
  unfolding every
  every-both t x xs h k = both_true (t x) (every t xs) h k

  pub length-pick : (b : Bool) (x : A) → length (pick b (x ∷ []) []) ≡ pick b 1 0
  length-pick true x = refl
  length-pick false x = refl

  -- by places
  pub every-at : (t : A → Bool) (xs : List A) → every t xs ≡ true → (d : A) (i : ℕ) → i < length xs → t (get_or xs i d) ≡ true
  every-at t [] h d i k = absurd (omega arith)
  every-at t (x ∷ xs) h d zero k = every_first t x xs h
  every-at t (x ∷ xs) h d (suc i) k = every-at t xs (every_rest t x xs h) d i (omega arith)

  pub at_every : (t : A → Bool) (d : A) (xs : List A) → ((i : ℕ) → i < length xs → t (get_or xs i d) ≡ true) → every t xs ≡ true
  at_every t d [] f = unfold every in refl
  at_every t d (x ∷ xs) f = every-both t x xs (f 0 (omega arith)) (at_every t d xs (λ i h. f (suc i) (omega arith)))

  pub not-every : (t : A → Bool) (xs : List A) (d : A) (i : ℕ) → i < length xs → t (get_or xs i d) ≡ false → every t xs ≡ false
  not-every t xs d i h e = go (every t xs) refl
    where
      go : (b : Bool) → every t xs ≡ b → every t xs ≡ false
      go true k = absurd (clash (every-at t xs k d i h) e)
      go false k = k

  pub passing-append : (t : A → Bool) (xs ys : List A) → passing t (xs ++ ys) ≡ passing t xs ++ passing t ys
  unfolding passing
  passing-append t [] ys = refl
  passing-append t (x ∷ xs) ys = go (t x) (passing-append t xs ys)
    where
      go : (b : Bool) → passing t (xs ++ ys) ≡ passing t xs ++ passing t ys
          → pick b (x ∷ passing t (xs ++ ys)) (passing t (xs ++ ys)) ≡ pick b (x ∷ passing t xs) (passing t xs) ++ passing t ys
      go true e = rw e
      go false e = e

  -- of tests of which one is narrower, the narrower decides
  pub passing-passing : (s t : A → Bool) → ((x : A) → s x ≡ true → t x ≡ true) → (xs : List A) → passing s (passing t xs) ≡ passing s xs
  passing-passing s t f [] = unfold passing in refl
  passing-passing s t f (x ∷ xs) = go (s x) (t x) refl refl (passing-passing s t f xs)
    where
      go : (a b : Bool) → s x ≡ a → t x ≡ b → passing s (passing t xs) ≡ passing s xs → passing s (passing t (x ∷ xs)) ≡ passing s (x ∷ xs)
      go true true hs ht e = rw (passing-yes t x xs ht, passing-yes s x (passing t xs) hs, passing-yes s x xs hs, e)
      go true false hs ht e = absurd (clash (f x hs) ht)
      go false true hs ht e = rw (passing-yes t x xs ht, passing-no s x (passing t xs) hs, passing-no s x xs hs, e)
      go false false hs ht e = rw (passing-no t x xs ht, passing-no s x xs hs, e)

  pub every_two : (s t u : A → Bool) → ((x : A) → s x ≡ true → t x ≡ true → u x ≡ true) → (xs : List A) → every s xs ≡ true → every t xs ≡ true
      → every u xs ≡ true
  every_two s t u f [] h k = unfold every in refl
  every_two s t u f (x ∷ xs) h k =
      every-both u x xs (f x (every_first s x xs h) (every_first t x xs k)) (every_two s t u f xs (every_rest s x xs h) (every_rest t x xs k))

  pub every-imp : (s t : A → Bool) → ((x : A) → s x ≡ true → t x ≡ true) → (xs : List A) → every s xs ≡ true → every t xs ≡ true
  every-imp s t f xs h = every_two s s t (λ x a b. f x a) xs h h

  pub every-kept : (s t : A → Bool) (xs : List A) → every s xs ≡ true → every s (passing t xs) ≡ true
  every-kept s t [] h = unfold passing in h
  every-kept s t (x ∷ xs) h = go (t x) refl (every-kept s t xs (every_rest s x xs h))
    where
      go : (b : Bool) → t x ≡ b → every s (passing t xs) ≡ true → every s (passing t (x ∷ xs)) ≡ true
      go true e k = rw (passing-yes t x xs e) (every-both s x (passing t xs) (every_first s x xs h) k)
      go false e k = rw (passing-no t x xs e) k

  pub every-passing : (t : A → Bool) (xs : List A) → every t (passing t xs) ≡ true
  every-passing t [] = unfold passing every in refl
  every-passing t (x ∷ xs) = go (t x) refl (every-passing t xs)
    where
      go : (b : Bool) → t x ≡ b → every t (passing t xs) ≡ true → every t (passing t (x ∷ xs)) ≡ true
      go true e k = rw (passing-yes t x xs e) (every-both t x (passing t xs) e k)
      go false e k = rw (passing-no t x xs e) k

  pub passing-every : (t : A → Bool) (xs : List A) → every t xs ≡ true → passing t xs ≡ xs
  passing-every t [] h = unfold passing in refl
  passing-every t (x ∷ xs) h = passing-yes t x xs (every_first t x xs h) ∙ ap (◌∷◌ x) (passing-every t xs (every_rest t x xs h))

  pub passing-none : (t : A → Bool) (xs : List A) → every (λ x. not (t x)) xs ≡ true → passing t xs ≡ []
  passing-none t [] h = unfold passing in refl
  passing-none t (x ∷ xs) h =
      passing-no t x xs (not-true (t x) (every_first (λ y. not (t y)) x xs h)) ∙ passing-none t xs (every_rest (λ y. not (t y)) x xs h)

pub increasing-first : (x : ℕ) (xs : List ℕ) → increasing (x ∷ xs) ≡ true → every (ltb x) xs ≡ true
unfolding increasing
increasing-first x xs h = both_left (every (ltb x) xs) (increasing xs) h

pub increasing-rest : (x : ℕ) (xs : List ℕ) → increasing (x ∷ xs) ≡ true → increasing xs ≡ true
unfolding increasing
increasing-rest x xs h = both_right (every (ltb x) xs) (increasing xs) h

pub increasing-both : (x : ℕ) (xs : List ℕ) → every (ltb x) xs ≡ true → increasing xs ≡ true → increasing (x ∷ xs) ≡ true
unfolding increasing
increasing-both x xs h k = both_true (every (ltb x) xs) (increasing xs) h k

pub increasing-at : (xs : List ℕ) → increasing xs ≡ true → (d i j : ℕ) → i < j → j < length xs → get_or xs i d < get_or xs j d
increasing-at [] h d i j lt k = absurd (omega arith)
increasing-at (x ∷ xs) h d i zero lt k = absurd (omega arith)
increasing-at (x ∷ xs) h d zero (suc j) lt k = ltb-true x (get_or xs j d) (every-at (ltb x) xs (increasing-first x xs h) d j (omega arith))
increasing-at (x ∷ xs) h d (suc i) (suc j) lt k = increasing-at xs (increasing-rest x xs h) d i j (omega arith) (omega arith)

pub increasing-kept : (t : ℕ → Bool) (xs : List ℕ) → increasing xs ≡ true → increasing (passing t xs) ≡ true
increasing-kept t [] h = unfold passing in h
increasing-kept t (x ∷ xs) h = go (t x) refl (increasing-kept t xs (increasing-rest x xs h))
  where
    go : (b : Bool) → t x ≡ b → increasing (passing t xs) ≡ true → increasing (passing t (x ∷ xs)) ≡ true
    go true e k = rw (passing-yes t x xs e) (increasing-both x (passing t xs) (every-kept (ltb x) t xs (increasing-first x xs h)) k)
    go false e k = rw (passing-no t x xs e) k

-- An increasing list within a range r that is cut in two, s before t, is its part in s and then its part in t.
module _ (r s t : ℕ → Bool)
    (other : (x : ℕ) → r x ≡ true → s x ≡ not (t x))
    (beyond : (x y : ℕ) → ltb x y ≡ true → t x ≡ true → r y ≡ true → t y ≡ true) where
  pub halves : (xs : List ℕ) → increasing xs ≡ true → every r xs ≡ true → passing s xs ++ passing t xs ≡ xs
  halves [] h k = unfold passing in refl
  halves (x ∷ xs) h k = go (t x) refl (halves xs (increasing-rest x xs h) (every_rest r x xs k))
    where
      go : (b : Bool) → t x ≡ b → passing s xs ++ passing t xs ≡ xs → passing s (x ∷ xs) ++ passing t (x ∷ xs) ≡ x ∷ xs
      go true e ih =
          let rest : every t xs ≡ true = every_two (ltb x) r t (λ y a b. beyond x y a e b) xs (increasing-first x xs h) (every_rest r x xs k) in
          let all : every t (x ∷ xs) ≡ true = every-both t x xs e rest in
          let none = every_two r t (λ y. not (s y)) (λ y a b. ap not (other y a ∙ ap not b)) (x ∷ xs) k all in
          rw (passing-none s (x ∷ xs) none, passing-every t (x ∷ xs) all)
      go false e ih = rw (passing-yes s x xs (other x (every_first r x xs k) ∙ ap not e), passing-no t x xs e, ih)
