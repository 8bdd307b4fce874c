-- Lists of lists by the length of each, and lists of numbers compared.
use Rattle.std.specs.Prelude.{◌≡◌, ℕ, Bool, true, false, List, [], ◌∷◌, eqb, length}
use Rattle.base.specs.Choice.{both}

-- each list of the list has this length
abbrev pub EachOf {ℓ} : {A : Type ℓ} → ℕ → List (List A) → Type 0
EachOf w [] = Unit
EachOf w (x ∷ xs) = (length x ≡ w) × EachOf w xs

-- as many elements in both, and the test holds of each two in the same place
unfoldable pub same_by {ℓ} : {A : Type ℓ} → (A → A → Bool) → List A → List A → Bool
same_by test [] [] = true
same_by test [] (y ∷ ys) = false
same_by test (x ∷ xs) [] = false
same_by test (x ∷ xs) (y ∷ ys) = both (test x y) (same_by test xs ys)

abbrev pub same_bytes : List ℕ → List ℕ → Bool
same_bytes xs ys = same_by eqb xs ys

abbrev pub same_labels : List (List ℕ) → List (List ℕ) → Bool
same_labels xs ys = same_by same_bytes xs ys
