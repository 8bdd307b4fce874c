-- Demand 3, sentence by sentence, in the words of crate `draw_theory`, specs/Demand3.antt.
use Rattle.std.specs.Prelude.{◌≡◌, ◌⊎◌, ◌↔◌, ℕ, ◌≤◌, ◌<◌, List, length, get_or}
use Rattle.proof_file.specs.FileCheck.{file_check}
use Rattle.draw.specs.Drawing.{not_drawn, drawn_chain, drawn_clash, drawing_of, drawn_list, first_drawn, second_drawn}
use Rattle.draw_theory.specs.Demand3.{IsAccepted, NoneDisagree, SomeDisagree, chain_length, drawn_nodes, Counted, HashChain, EndsAtRoot, OnTheWays}
use Rattle.draw_theory.specs.Demand3.{ListDrawn, IsClash, AsPlanned, ListShort, ListUntouched, NoInputs}

-- 'a chain of hashes'
pub record ChainDrawn (bytes statement : List ℕ) (n t : ℕ) (list : List ℕ) (count : ℕ) : Type 0 where
  pub counted : Counted bytes statement n t count (drawn_nodes bytes statement n t)
  pub hashes : HashChain bytes statement n t (drawn_nodes bytes statement n t)
  pub ends : EndsAtRoot bytes statement n t (drawn_nodes bytes statement n t)
  pub nodes : OnTheWays bytes statement n t (drawn_nodes bytes statement n t)
  pub codes : ListDrawn (drawn_nodes bytes statement n t) list (drawn_list bytes statement n t list)
  pub no_inputs : NoInputs bytes statement n t (length list)

-- of any bytes, wanted statement, depth and count, and of any list
pub record Drawn (bytes statement : List ℕ) (n t : ℕ) (list : List ℕ) : Type 0 where
  -- 'a chain of hashes is drawn exactly when it is accepted, no two openings disagree and the list has at least 2k − 1 + c places'
  pub chain_exactly :
      ((count : ℕ) × (drawing_of bytes statement n t (length list) ≡ drawn_chain count)) ↔
      (IsAccepted bytes statement n t × NoneDisagree bytes statement n t × (chain_length bytes statement n t ≤ length list))
  pub chain : (count : ℕ) → drawing_of bytes statement n t (length list) ≡ drawn_chain count → ChainDrawn bytes statement n t list count
  -- 'where two openings disagree, two different inputs with one SHA-256 result are handed out'
  pub clash_exactly :
      ((i : ℕ) × (j : ℕ) × (l : ℕ) × (drawing_of bytes statement n t (length list) ≡ drawn_clash i j l)) ↔
      (IsAccepted bytes statement n t × SomeDisagree bytes statement n t)
  pub clash :
      (i j l : ℕ) → drawing_of bytes statement n t (length list) ≡ drawn_clash i j l
      → IsClash bytes statement n t i j l (first_drawn bytes statement n t (length list)) (second_drawn bytes statement n t (length list))
      × ListUntouched bytes statement n t list
  -- else nothing is drawn
  pub refused_exactly :
      (code : ℕ)
      → drawing_of bytes statement n t (length list) ≡ not_drawn code ↔
      (((file_check bytes statement n t ≡ code) × (1 ≤ code)) ⊎ ListShort bytes statement n t (length list) code)
  pub refused :
      (code : ℕ) → drawing_of bytes statement n t (length list) ≡ not_drawn code
      → ListUntouched bytes statement n t list × NoInputs bytes statement n t (length list)
  -- 'The same list can be planned from leaf positions alone.'
  pub planned : IsAccepted bytes statement n t → NoneDisagree bytes statement n t → AsPlanned bytes statement n t list

-- ---- the demand: 'Whatever bytes come in as a proof'
pub record Demand3 : Type 0 where
  pub drawn :
      (bytes statement : List ℕ) (n t : ℕ) (list : List ℕ) → ((j : ℕ) → get_or bytes j 0 < 256) → Drawn bytes statement n t list
