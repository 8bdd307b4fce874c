-- The comparison of openings given as bytes one after the other, with their leaves. They need not be right.
use Rattle.std.specs.Prelude.{ℕ, ◌-◌, ◌*◌, Bool, List, [], ◌∷◌, ◌++◌, ltb, length, take, drop, Option, Some, None}
use Rattle.base.specs.Choice.{pick}
use Rattle.base.specs.Bytes.{zeros}
use Rattle.base.specs.Row.{first_of, no_edition, is_done}
use Rattle.tree.specs.Labels.{Rule}
use Rattle.tree.specs.Openings.{Given, input_at, opening_size}
use Rattle.tree.specs.Disagreement.{way_node, disagree_at}
use Rattle.chain.specs.Leaves.{leaves_checks}
use Rattle.labelling.specs.Rule.{stamp_rule}
use Rattle.opening_check.specs.OpeningCheck.{given_by}
use Rattle.compare.specs.Table.{leaf_of}
use Rattle.compare.specs.declared.Pair.{Pair}
use Rattle.compare.specs.declared.Clash.{Clash}
use Rattle.compare.specs.FirstPair.{first_pair}

-- the labels that opening i gives
abbrev pub given_of : ℕ → List ℕ → ℕ → Given
given_of n openings i = given_by (take (opening_size n) (drop ((i - 1) * opening_size n) openings))

-- openings i and j disagree at their shared inner node of level l
abbrev pub disagreement : Rule → ℕ → List ℕ → List ℕ → ℕ → ℕ → ℕ → Bool
disagreement r n leaves openings i j l =
    disagree_at r n (leaf_of leaves i) (given_of n openings i) (leaf_of leaves j) (given_of n openings j) l

-- by an edition's rule
unfoldable pub first_disagreement : ℕ → List ℕ → ℕ → List ℕ → List ℕ → Option Pair
first_disagreement edition statement n leaves openings = first_pair (disagreement (stamp_rule edition n statement) n leaves openings) n (length leaves)

-- the hash input of opening i at the node of level l on its way
abbrev pub input_of : ℕ → List ℕ → ℕ → List ℕ → List ℕ → ℕ → ℕ → List ℕ
input_of edition statement n leaves openings i l =
    input_at (stamp_rule edition n statement) n (leaf_of leaves i) (given_of n openings i) (way_node n (leaf_of leaves i) l)

-- 'both 105-byte inputs'
abbrev pub first_input : ℕ → List ℕ → ℕ → List ℕ → List ℕ → Option Pair → List ℕ
first_input edition statement n leaves openings None = zeros 105
first_input edition statement n leaves openings (Some pair) = input_of edition statement n leaves openings pair.first pair.level

abbrev pub second_input : ℕ → List ℕ → ℕ → List ℕ → List ℕ → Option Pair → List ℕ
second_input edition statement n leaves openings None = zeros 105
second_input edition statement n leaves openings (Some pair) = input_of edition statement n leaves openings pair.second pair.level

-- the pair with both of them, if there is one
abbrev pub clash_of : ℕ → List ℕ → ℕ → List ℕ → List ℕ → Option Pair → Option Clash
clash_of edition statement n leaves openings None = None
clash_of edition statement n leaves openings (Some pair) =
    Some (record {
      pair = pair;
      first = first_input edition statement n leaves openings (Some pair);
      second = second_input edition statement n leaves openings (Some pair);
    })

-- 10: bytes too few; 13: too many
abbrev pub size_checks : ℕ → List ℕ → ℕ → List (Bool × ℕ)
size_checks n leaves size = (ltb size (length leaves * opening_size n), 10) ∷ (ltb (length leaves * opening_size n) size, 13) ∷ []

-- The comparison's checks, of which document 01 has no row: 12 (W-206); 1; 8: not 1..200 leaves; 6; 10; 13.
unfoldable pub compare_row : ℕ → ℕ → List ℕ → ℕ → ℕ
compare_row edition n leaves size = first_of ((no_edition edition, 12) ∷ leaves_checks 1 n leaves ++ size_checks n leaves size)

-- what is answered: no pair where it is refused
unfoldable pub compared : ℕ → List ℕ → ℕ → List ℕ → List ℕ → Option Pair
compared edition statement n leaves openings =
    pick (is_done (compare_row edition n leaves (length openings))) (first_disagreement edition statement n leaves openings) None
