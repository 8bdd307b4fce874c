-- Document 01, 'Challenges and the file': the leaf that a challenge picks.
use Rattle.std.specs.Prelude.{ℕ, ◌+◌, ◌-◌, ◌*◌, ◌/◌, ◌^◌, List, [], ◌∷◌, ◌++◌, length}
use Rattle.base.specs.Choice.{pick}
use Rattle.base.specs.Bytes.{big_endian}
use Rattle.base.specs.Limits.{max_depth, max_challenges}
use Rattle.base.specs.Row.{first_of, outside, no_edition, is_done}
use Rattle.sha256.specs.Digest.{digest}

-- the nine ASCII bytes `challenge`
abbrev pub challenge_word : List ℕ
challenge_word = 99 ∷ 104 ∷ 97 ∷ 108 ∷ 108 ∷ 101 ∷ 110 ∷ 103 ∷ 101 ∷ []

-- By the edition and the depth: 'the statement, then the nine ASCII bytes `challenge`, then the root, then i in 4 bytes big-endian'
unfoldable pub challenge_input : ℕ → ℕ → List ℕ → List ℕ → ℕ → List ℕ
challenge_input edition n statement root i = statement ++ challenge_word ++ root ++ big_endian 4 i

-- the number that bytes stand for, highest first
unfoldable pub big_endian_value : List ℕ → ℕ
big_endian_value [] = 0
big_endian_value (byte ∷ bytes) = byte * 256 ^ length bytes + big_endian_value bytes

-- 'The first n bits of the result are the leaf's position.'
unfoldable pub challenge_leaf : ℕ → ℕ → List ℕ → List ℕ → ℕ → ℕ
challenge_leaf edition n statement root i = big_endian_value (digest (challenge_input edition n statement root i)) / 2 ^ (256 - n)

-- row 'A challenge': 12 (W-206); 1; 8: i not 1..200
unfoldable pub challenge_row : ℕ → ℕ → ℕ → ℕ
challenge_row edition n i = first_of ((no_edition edition, 12) ∷ (outside 1 max_depth n, 1) ∷ (outside 1 max_challenges i, 8) ∷ [])

-- the leaf answered: 0 where it is refused
unfoldable pub challenged : ℕ → ℕ → List ℕ → List ℕ → ℕ → ℕ
challenged edition n statement root i = pick (is_done (challenge_row edition n i)) (challenge_leaf edition n statement root i) 0
