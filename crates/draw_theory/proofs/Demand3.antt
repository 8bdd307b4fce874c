-- Demand 3, sentence by sentence, for every byte string, every wanted statement, depth and count, and every list.
use mathlib.Core.Path.{◌≡◌, ◌∙◌}
use mathlib.Core.Logic.{◌⊎◌, inl, inr, ⊎_map, ◌↔◌}
use Prim.Native.Nat.{ℕ, ◌≤◌, ◌<◌}
use native.Mathlib.Omega.{arith}
use mathlib.Core.List.{List}
use lib.ListN.{length, get_or}
use Rattle.proof_file.specs.FileCheck.{file_check}
use Rattle.check_theory.specs.IsProof.{IsProof}
use Rattle.check_theory.proofs.Completeness.{file-edition}
use Rattle.draw.specs.Drawing.{not_drawn, drawn_chain, drawn_clash, drawing_of, drawn_list, first_drawn, second_drawn, proof_edition}
use Rattle.draw.proofs.AcceptedFile.{is_proof}
use Rattle.draw_theory.specs.Demand3.{IsAccepted, NoneDisagree, SomeDisagree, chain_length, drawn_nodes, Counted, HashChain, EndsAtRoot}
use Rattle.draw_theory.specs.Demand3.{OnTheWays, ListDrawn, IsClash, AsPlanned, ListShort, ListUntouched, NoInputs}
use Rattle.draw_theory.proofs.Openings.{agree-none, disagree-first, first_some}
use Rattle.draw_theory.proofs.Hashes.{ends-at-root, hash-chain}
use Rattle.draw_theory.proofs.Nodes.{leaves-some, nodes-count, on-the-ways, list-drawn}
use Rattle.draw_theory.proofs.Clashes.{first-clash}
use Rattle.draw_theory.proofs.Answers.{none-agree, some_pair, chain-given, given-chain, clash-given, given-clash, refusal-given}
use Rattle.draw_theory.proofs.Answers.{given-refusal, given-short, as-planned}

-- a proof's edition is the one that its head says
pub edition-said : (edition : ℕ) (bytes statement : List ℕ) (n t : ℕ) → IsProof edition bytes statement n t → proof_edition bytes ≡ edition
unfolding proof_edition
edition-said edition bytes statement n t p = file-edition edition bytes statement n t p

module _ (bytes statement : List ℕ) (n t : ℕ) (small : (j : ℕ) → get_or bytes j 0 < 256) where
  -- an accepted file is a proof of the edition that its head says
  pub proof-of : IsAccepted bytes statement n t → IsProof (proof_edition bytes) bytes statement n t
  proof-of = is_proof bytes statement n t small

  length-of : IsAccepted bytes statement n t → length (drawn_nodes bytes statement n t) ≡ chain_length bytes statement n t
  length-of a = nodes-count bytes statement n t (proof-of a)

  -- ---- a chain
  -- 'a chain is drawn exactly when the proof is accepted, no two openings disagree and the list has at least 2k − 1 + c places'
  pub chain-exactly :
      (list : ℕ) →
      ((count : ℕ) × (drawing_of bytes statement n t list ≡ drawn_chain count)) ↔
      (IsAccepted bytes statement n t × NoneDisagree bytes statement n t × (chain_length bytes statement n t ≤ list))
  chain-exactly list = (
    λ drawn.
        let given = chain-given bytes statement n t list drawn.0 drawn.1 in
        (given.0, agree-none bytes statement n t given.1, omega (arith, given.2, length-of given.0)),
    λ given. (
      length (drawn_nodes bytes statement n t),
      given-chain bytes statement n t list given.0 (none-agree bytes statement n t given.1) (omega (arith, given.2, length-of given.0)),
    ),
  )

  -- where one is drawn
  module _ (list : List ℕ) (count : ℕ) (drawn : drawing_of bytes statement n t (length list) ≡ drawn_chain count) where
    accepted : IsAccepted bytes statement n t
    accepted = (chain-given bytes statement n t (length list) count drawn).0

    is-proof : IsProof (proof_edition bytes) bytes statement n t
    is-proof = proof-of accepted

    none : NoneDisagree bytes statement n t
    none = agree-none bytes statement n t (chain-given bytes statement n t (length list) count drawn).1

    -- 'the count answered and the number of nodes written are both 2k − 1 + c (k ≥ 1, so this is no truncated subtraction)'
    pub chain-counted : Counted bytes statement n t count (drawn_nodes bytes statement n t)
    chain-counted =
        record {
          some_leaf = leaves-some bytes statement n t is-proof;
          answered = (chain-given bytes statement n t (length list) count drawn).3 ∙ length-of accepted;
          written = length-of accepted;
        }

    -- 'each node's hash stands whole in the next one's input, after the first 41 bytes'
    pub chain-hashes : HashChain bytes statement n t (drawn_nodes bytes statement n t)
    chain-hashes = hash-chain bytes statement n t is-proof none

    -- 'the last node is the root and its hash is the proof's root'
    pub chain-ends : EndsAtRoot bytes statement n t (drawn_nodes bytes statement n t)
    chain-ends = ends-at-root bytes statement n t is-proof (omega (arith, leaves-some bytes statement n t is-proof, length-of accepted))

    -- 'the nodes are those on the ways, each once, in labelling order'
    pub chain-nodes : OnTheWays bytes statement n t (drawn_nodes bytes statement n t)
    chain-nodes = on-the-ways bytes statement n t is-proof

    -- they are written as document 01 says; 'later places are untouched'
    pub chain-list : ListDrawn (drawn_nodes bytes statement n t) list (drawn_list bytes statement n t list)
    unfolding drawn_list
    chain-list = rw drawn (list-drawn bytes statement n t is-proof list (chain-given bytes statement n t (length list) count drawn).2)

  -- ---- a clash
  -- 'A clash is drawn exactly when the proof is accepted and some two openings disagree'
  pub clash-exactly :
      (list : ℕ) →
      ((i : ℕ) × (j : ℕ) × (l : ℕ) × (drawing_of bytes statement n t list ≡ drawn_clash i j l)) ↔
      (IsAccepted bytes statement n t × SomeDisagree bytes statement n t)
  clash-exactly list = (
    λ drawn.
        let given = clash-given bytes statement n t list drawn.0 drawn.1 drawn.2 drawn.3 in (
          given.0,
          first_some bytes statement n t drawn.0 drawn.1 drawn.2
              (disagree-first bytes statement n t drawn.0 drawn.1 drawn.2 given.1),
        ),
    λ given.
        let found = some_pair bytes statement n t given.1 in (
          found.0,
          found.1,
          found.2,
          given-clash bytes statement n t list found.0 found.1 found.2 given.0 found.3,
        ),
  )

  -- 'the two inputs differ, have the same SHA-256, and are those of the first pair and smallest level'
  pub clash-inputs :
      (list i j l : ℕ) → drawing_of bytes statement n t list ≡ drawn_clash i j l →
      IsClash bytes statement n t i j l (first_drawn bytes statement n t list) (second_drawn bytes statement n t list)
  unfolding first_drawn second_drawn
  clash-inputs list i j l drawn =
      let given = clash-given bytes statement n t list i j l drawn in
      rw drawn (first-clash bytes statement n t (proof-of given.0) i j l (disagree-first bytes statement n t i j l given.1))

  -- ---- planning
  -- 'What is drawn is what is planned from the challenged leaves.'
  pub drawn-planned :
      (list : List ℕ) → IsAccepted bytes statement n t → NoneDisagree bytes statement n t → AsPlanned bytes statement n t list
  drawn-planned list a none = as-planned bytes statement n t (proof-of a) a (none-agree bytes statement n t none) list

  -- ---- document 01's row 'Drawing a chain': 'all file checks; 16, if no pair disagrees'
  refusal-why :
      (list code : ℕ) → drawing_of bytes statement n t list ≡ not_drawn code →
      ((file_check bytes statement n t ≡ code) × (1 ≤ code)) ⊎ ListShort bytes statement n t list code
  refusal-why list code drawn =
      ⊎_map
      (λ file. file)
      (λ short.
      record {
        accepted = short.0;
        agree = agree-none bytes statement n t short.1;
        short = omega (arith, short.2, length-of short.0);
        refusal = short.3;
      })
      (refusal-given bytes statement n t list code drawn)

  refusal-by :
      (list code : ℕ) → ((file_check bytes statement n t ≡ code) × (1 ≤ code)) ⊎ ListShort bytes statement n t list code →
      drawing_of bytes statement n t list ≡ not_drawn code
  refusal-by list code (inl file) = given-refusal bytes statement n t list code file.0 file.1
  refusal-by list code (inr s) =
      rw s.refusal
      (given-short bytes statement n t list s.accepted (none-agree bytes statement n t s.agree)
      (omega (arith, s.short, length-of s.accepted)))

  pub refused-exactly :
      (list code : ℕ) →
      drawing_of bytes statement n t list ≡ not_drawn code ↔
      (((file_check bytes statement n t ≡ code) × (1 ≤ code)) ⊎ ListShort bytes statement n t list code)
  refused-exactly list code = (refusal-why list code, refusal-by list code)

-- ---- 'the list is untouched', for any bytes; the inputs are all zero but for a clash
module _ (bytes statement : List ℕ) (n t : ℕ) where
  pub clash-untouched :
      (list : List ℕ) (i j l : ℕ) → drawing_of bytes statement n t (length list) ≡ drawn_clash i j l
      → ListUntouched bytes statement n t list
  unfolding drawn_list
  clash-untouched list i j l drawn = rw drawn

  pub refused-untouched :
      (list : List ℕ) (code : ℕ) → drawing_of bytes statement n t (length list) ≡ not_drawn code →
      ListUntouched bytes statement n t list × NoInputs bytes statement n t (length list)
  unfolding drawn_list first_drawn second_drawn
  refused-untouched list code drawn = (rw drawn, (rw drawn, rw drawn))

  pub chain-inputs : (list count : ℕ) → drawing_of bytes statement n t list ≡ drawn_chain count → NoInputs bytes statement n t list
  unfolding first_drawn second_drawn
  chain-inputs list count drawn = (rw drawn, rw drawn)
