-- Choosing by a test, and choosing from a list by a test.
use Rattle.std.specs.Prelude.{ℕ, ◌%◌, Bool, true, false, List, [], ◌∷◌, eqb}

abbrev pub pick {ℓ} : {A : Type ℓ} → Bool → A → A → A
pick true x y = x
pick false x y = y

-- both tests hold
abbrev pub both : Bool → Bool → Bool
both true b = b
both false b = false

abbrev pub odd : ℕ → Bool
odd p = eqb (p % 2) 1

-- all elements of a list pass a test
unfoldable pub every {ℓ} : {A : Type ℓ} → (A → Bool) → List A → Bool
every test [] = true
every test (x ∷ xs) = both (test x) (every test xs)

-- those elements of a list that pass a test, in their order
unfoldable pub passing {ℓ} : {A : Type ℓ} → (A → Bool) → List A → List A
passing test [] = []
passing test (x ∷ xs) = pick (test x) (x ∷ passing test xs) (passing test xs)
