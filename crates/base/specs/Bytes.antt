-- Numbers as bytes, and lists laid end to end.
use Rattle.std.specs.Prelude.{ℕ, zero, suc, ◌+◌, ◌/◌, ◌%◌, List, [], ◌∷◌, ◌++◌, length, take, drop, replicate}

-- a number in k bytes, highest first
unfoldable pub big_endian : ℕ → ℕ → List ℕ
big_endian zero x = []
big_endian (suc k) x = big_endian k (x / 256) ++ x % 256 ∷ []

abbrev pub zeros : ℕ → List ℕ
zeros k = replicate k 0

-- lists end to end
unfoldable pub joined {ℓ} : {A : Type ℓ} → List (List A) → List A
joined [] = []
joined (x ∷ xs) = x ++ joined xs

-- a list with a part written over it from a place on
unfoldable pub written : List ℕ → ℕ → List ℕ → List ℕ
written bytes at part = take at bytes ++ part ++ drop (at + length part) bytes
