-- Document 01: the files that are accepted, and the openings that are right.
use Rattle.std.specs.Prelude.{◌≡◌, ℕ, ◌-◌, ◌^◌, ◌≤◌, ◌<◌, List, [], length, get_or}
use Rattle.base.specs.Limits.{IsEdition, IsDepth, IsCount}
use Rattle.base.specs.Lists.{EachOf}
use Rattle.tree.specs.Openings.{Right, opening_size}
use Rattle.labelling.specs.Rule.{stamp_rule}
use Rattle.file_head.specs.Challenge.{challenge_leaf}
use Rattle.file_head.specs.Layout.{file}
use Rattle.opening_check.specs.OpeningCheck.{given_by}

-- an opening's bytes give labels that are right at a leaf, by an edition's rule
abbrev pub OpeningRight : ℕ → List ℕ → ℕ → ℕ → List ℕ → List ℕ → Type 0
OpeningRight edition statement n leaf root bytes = Right (stamp_rule edition n statement) n leaf (given_by bytes) root

-- an opening checked alone is accepted
pub record RightAlone (edition : ℕ) (statement : List ℕ) (n leaf : ℕ) (root bytes : List ℕ) : Type 0 where
  pub exists : IsEdition edition
  pub depth : IsDepth n
  pub position : leaf < 2 ^ n
  pub size : length bytes ≡ opening_size n
  pub right : OpeningRight edition statement n leaf root bytes

-- opening i, from 1
abbrev pub nth : List (List ℕ) → ℕ → List ℕ
nth openings i = get_or openings (i - 1) []

-- A proof of an edition that exists, of depth n with t challenges for a statement: the bytes are the file over a root and t openings, of
-- which each is right at the leaf that its challenge picks.
pub record IsProof (edition : ℕ) (bytes statement : List ℕ) (n t : ℕ) : Type 0 where
  pub exists : IsEdition edition
  pub depth : IsDepth n
  pub count : IsCount t
  pub root : List ℕ
  pub openings : List (List ℕ)
  pub statement_size : length statement ≡ 32
  pub root_size : length root ≡ 32
  pub opening_count : length openings ≡ t
  pub opening_sizes : EachOf (opening_size n) openings
  pub is_file : bytes ≡ file edition statement root n t openings
  pub all_right :
      (i : ℕ) → 1 ≤ i → i ≤ t
      → OpeningRight edition statement n (challenge_leaf edition n statement root i) root (nth openings i)
