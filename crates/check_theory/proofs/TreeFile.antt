-- The file made of the labelling's own openings is a proof, and so is accepted.
use mathlib.Core.Path.{◌≡◌, refl, sym, ap, ◌∙◌}
use Prim.Native.Nat.{ℕ, zero, suc, ◌+◌, ◌-◌, ◌*◌, ◌/◌, ◌^◌, ◌≤◌, ◌<◌}
use native.Mathlib.Nat.{mul_comm}
use native.Mathlib.Numerals.{add-one}
use native.Mathlib.Omega.{arith}
use mathlib.Core.List.{List, [], ◌++◌, map, append-nil}
use mathlib.Core.Logic.{⊎_elim}
use lib.ListN.{length, get_or, length-append, length-map, get_or-append}
use lib.Seq.{get_or_at}
use Rattle.base.specs.Limits.{IsEdition, IsDepth, IsCount}
use Rattle.base.specs.Bytes.{joined}
use Rattle.base.specs.Lists.{EachOf}
use Rattle.base.proofs.BytesLaws.{length-joined, joined-append, joined_at}
use Rattle.tree.specs.Nodes.{root}
use Rattle.tree.specs.Labels.{label}
use Rattle.tree.specs.Openings.{siblings, opening_nodes, opening_size}
use Rattle.tree.specs.TreeOpening.{tree_opening}
use Rattle.tree.proofs.Labelling.{label-length}
use Rattle.tree.proofs.OpeningLaws.{tree-right, tree-sized}
use Rattle.base.proofs.ChoiceLaws.{lt-or-le}
use Rattle.labelling.specs.Rule.{stamp_rule}
use Rattle.file_head.specs.Challenge.{challenge_leaf}
use Rattle.file_head.specs.Layout.{file_size}
use Rattle.opening_check.specs.OpeningCheck.{given_by}
use Rattle.proof_file.specs.FileCheck.{file_check}
use Rattle.check_theory.specs.IsProof.{OpeningRight, nth, IsProof}
use Rattle.check_theory.specs.TreeFile.{root_of, opening_of, challenged_opening, tree_openings, tree_file}
use Rattle.check_theory.proofs.Parts.{each-by}
use Rattle.check_theory.proofs.Reading.{file-size-is}
use Rattle.labelling.proofs.RuleLaws.{stamp-hash}
use Rattle.file_head.proofs.Leaves.{challenge_leaf-small}
use Rattle.check_theory.proofs.GivenLaws.{right-same}
use Rattle.check_theory.proofs.Completeness.{proof-accepted}

-- ---- sizes
length-siblings : (l p : ℕ) → length (siblings l p) ≡ l
unfolding siblings
length-siblings zero p = refl
length-siblings (suc l) p = ap suc (length-siblings l (p / 2))

module _ (edition : ℕ) (statement : List ℕ) (n : ℕ) where
  labels-count : (leaf : ℕ) → length (map (label (stamp_rule edition n statement) n) (opening_nodes n leaf)) ≡ n + 1
  unfolding opening_nodes
  labels-count leaf = rw (length-map, add-one n) (ap suc (length-siblings n leaf))

  labels-size : (leaf : ℕ) → EachOf 32 (map (label (stamp_rule edition n statement) n) (opening_nodes n leaf))
  unfolding tree_opening
  labels-size leaf =
      each-by
      32
      (map (label (stamp_rule edition n statement) n) (opening_nodes n leaf))
      (λ i small. tree-sized (stamp_rule edition n statement) n leaf (stamp-hash edition n statement) i (omega (arith, labels-count leaf)))

  pub opening-size : (leaf : ℕ) → length (opening_of edition statement n leaf) ≡ opening_size n
  opening-size leaf =
      length-joined 32 (map (label (stamp_rule edition n statement) n) (opening_nodes n leaf)) (labels-size leaf)
      ∙ ap (λ (k : ℕ). 32 * k) (labels-count leaf)

  -- ---- one opening
  given-tree : (leaf i : ℕ) → i ≤ n → tree_opening (stamp_rule edition n statement) n leaf i ≡ given_by (opening_of edition statement n leaf) i
  unfolding tree_opening
  given-tree leaf i le =
      sym
      (joined_at
      32
      (map (label (stamp_rule edition n statement) n) (opening_nodes n leaf))
      (labels-size leaf)
      i
      (omega (arith, labels-count leaf)))

  pub opening-right :
      (leaf : ℕ) → leaf < 2 ^ n
      → OpeningRight edition statement n leaf (root_of edition statement n) (opening_of edition statement n leaf)
  opening-right leaf inside =
      right-same
      (stamp_rule edition n statement)
      n
      leaf
      (tree_opening (stamp_rule edition n statement) n leaf)
      (given_by (opening_of edition statement n leaf))
      (given-tree leaf)
      (root_of edition statement n)
      (tree-right (stamp_rule edition n statement) n leaf inside)

  -- ---- all openings
  pub openings-count : (t : ℕ) → length (tree_openings edition statement n t) ≡ t
  unfolding tree_openings
  openings-count zero = refl
  openings-count (suc t) = rw (length-append, openings-count t) (omega arith)

  pub openings-at : (t i : ℕ) → i < t → get_or (tree_openings edition statement n t) i [] ≡ challenged_opening edition statement n (suc i)
  unfolding tree_openings
  openings-at zero i h = absurd (omega arith)
  openings-at (suc t) i h =
      ⊎_elim
      (λ before. get_or-append (tree_openings edition statement n t) _ [] i (omega (arith, openings-count t)) ∙ openings-at t i before)
      (λ last. let same : i ≡ t = omega arith in rw same (get_or_at (tree_openings edition statement n t) _ [] [] t (openings-count t)))
      (lt-or-le i t)

  pub openings-size : (t : ℕ) → EachOf (opening_size n) (tree_openings edition statement n t)
  openings-size t =
      each-by (opening_size n) (tree_openings edition statement n t)
      (λ i small. rw (openings-at t i (omega (arith, openings-count t))) (opening-size _))

  -- one opening more, as a writer lays them
  pub openings-grow :
      (t : ℕ)
      → joined (tree_openings edition statement n (suc t))
      ≡ joined (tree_openings edition statement n t) ++ challenged_opening edition statement n (suc t)
  unfolding tree_openings joined
  openings-grow t = rw (joined-append (tree_openings edition statement n t)) (rw append-nil)

  pub openings-length : (t : ℕ) → length (joined (tree_openings edition statement n t)) ≡ t * opening_size n
  openings-length t =
      length-joined (opening_size n) (tree_openings edition statement n t) (openings-size t)
      ∙ rw (openings-count t) (mul_comm (opening_size n) t)

  right-at :
      (t i : ℕ) → n ≤ 256 → 1 ≤ i → i ≤ t
      → OpeningRight edition statement n (challenge_leaf edition n statement (root_of edition statement n) i) (root_of edition statement n)
      (nth (tree_openings edition statement n t) i)
  right-at t i small positive le =
      let number : suc (i - 1) ≡ i = omega arith in
      let there : nth (tree_openings edition statement n t) i ≡ challenged_opening edition statement n i =
      openings-at t (i - 1) (omega arith) ∙ rw number in
      rw there
      (opening-right (challenge_leaf edition n statement (root_of edition statement n) i)
      (challenge_leaf-small edition n statement (root_of edition statement n) i small))

  -- ---- the file
  root-size : length (root_of edition statement n) ≡ 32
  root-size = label-length (stamp_rule edition n statement) n (stamp-hash edition n statement) root (omega arith)

  pub tree-proof : (t : ℕ) → IsEdition edition → length statement ≡ 32 → IsDepth n → IsCount t
      → IsProof edition (tree_file edition statement n t) statement n t
  unfolding tree_file
  tree-proof t exists size depth count =
      record {
        exists = exists;
        depth = depth;
        count = count;
        root = root_of edition statement n;
        openings = tree_openings edition statement n t;
        statement_size = size;
        root_size = root-size;
        opening_count = openings-count t;
        opening_sizes = openings-size t;
        is_file = refl;
        all_right = λ i positive le. right-at t i (omega arith) positive le;
      }

  pub length-tree_file : (t : ℕ) → edition < 128 → length statement ≡ 32 → length (tree_file edition statement n t) ≡ file_size n t
  unfolding tree_file
  length-tree_file t small size =
      file-size-is edition statement (root_of edition statement n) n t size root-size (tree_openings edition statement n t)
      (openings-count t) (openings-size t) small

  pub tree-accepted : (t : ℕ) → IsEdition edition → length statement ≡ 32 → IsDepth n → IsCount t
      → file_check (tree_file edition statement n t) statement n t ≡ 0
  tree-accepted t exists size depth count =
      proof-accepted edition (tree_file edition statement n t) statement n t (tree-proof t exists size depth count)
