-- Document 01's row 'One opening checked': 'An opening is right if its leaf label is the hash of its left siblings there, and
-- hashing upward gives the root.'
use Rattle.std.specs.Prelude.{ℕ, ◌*◌, ◌^◌, Bool, not, List, [], ◌∷◌, ltb, leb, length, take, drop}
use Rattle.base.specs.Lists.{same_bytes}
use Rattle.base.specs.Limits.{max_depth}
use Rattle.base.specs.Row.{first_of, outside, no_edition}
use Rattle.tree.specs.Nodes.{node}
use Rattle.tree.specs.Labels.{Rule}
use Rattle.tree.specs.Openings.{Given, computed, input_at, opening_size}
use Rattle.labelling.specs.Rule.{stamp_rule}

-- an opening's bytes as the labels that it gives: place i takes 32 bytes from 32 × i
abbrev pub given_by : List ℕ → Given
given_by bytes i = take 32 (drop (32 * i) bytes)

-- 14: leaf label wrong
abbrev pub leaf_wrong : Rule → ℕ → ℕ → List ℕ → Bool
leaf_wrong r n leaf bytes = not (same_bytes (given_by bytes 0) (r.hash (input_at r n leaf (given_by bytes) (node n leaf))))

-- 15: root wrong
abbrev pub root_wrong : Rule → ℕ → ℕ → List ℕ → List ℕ → Bool
root_wrong r n leaf bytes root = not (same_bytes (computed r n leaf (given_by bytes) n) root)

-- by an edition's rule: 14, 15
unfoldable pub right_row : ℕ → List ℕ → ℕ → ℕ → List ℕ → List ℕ → ℕ
right_row edition statement n leaf root bytes =
    first_of
    ((leaf_wrong (stamp_rule edition n statement) n leaf bytes, 14)
    ∷ (root_wrong (stamp_rule edition n statement) n leaf bytes root, 15)
    ∷ []
    )

-- 12 (W-206); 1; 6; 10: bytes too few; 13: too many; 14; 15
unfoldable pub opening_row : ℕ → List ℕ → ℕ → ℕ → List ℕ → List ℕ → ℕ
opening_row edition statement n leaf root bytes =
    first_of
    ((no_edition edition, 12)
    ∷ (outside 1 max_depth n, 1)
    ∷ (leb (2 ^ n) leaf, 6)
    ∷ (ltb (length bytes) (opening_size n), 10)
    ∷ (ltb (opening_size n) (length bytes), 13)
    ∷ (leaf_wrong (stamp_rule edition n statement) n leaf bytes, 14)
    ∷ (root_wrong (stamp_rule edition n statement) n leaf bytes root, 15)
    ∷ []
    )
