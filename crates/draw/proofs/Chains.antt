-- The chain planned from leaves is the chain drawn, or the list is short.
use mathlib.Core.Path.{◌≡◌, refl, sym, ap, ◌∙◌}
use Prim.Native.Nat.{ℕ}
use native.Mathlib.Omega.{arith}
use mathlib.Core.Bool.{Bool, true, false}
use mathlib.Core.List.{List}
use lib.Dec.{ltb}
use lib.ListN.{length}
use Rattle.base.specs.Choice.{pick}
use Rattle.base.specs.declared.refusal.Refusal.{Refusal}
use Rattle.base.specs.Number.{number_of}
use Rattle.base.proofs.Bounds.{number-some}
use Rattle.base.proofs.RowLaws.{not_done}
use Rattle.chain_theory.specs.Ways.{chain, chain_codes}
use Rattle.chain.specs.Leaves.{leaves_row}
use Rattle.chain.specs.PlanRow.{plan_row, planned_count, planned_list}
use Rattle.chain.proofs.Rows.{list-check}
use Rattle.compare.specs.declared.Pair.{Pair}
use Rattle.std.specs.Prelude.{Option, Some, None}
use Rattle.proof_file.specs.FileCheck.{found_in}
use Rattle.draw.specs.Drawing.{DrawingAnswer, not_drawn, drawn_chain, drawn_from, list_after, clash_pair}

-- what is drawn of leaves, and the list afterwards
abbrev pub DrawnFrom : Option Pair → ℕ → List ℕ → List ℕ → DrawingAnswer → List ℕ → Type 0
DrawnFrom pair n leaves list drawing after =
    (drawing ≡ drawn_from pair (length (chain n leaves)) (length list)) × (after ≡ list_after drawing (chain_codes n leaves) list)

module _ (n : ℕ) (leaves list after : List ℕ) (count : ℕ) (done : leaves_row 0 n leaves ≡ 0) (k : count ≡ planned_count n leaves (length list))
    (e : after ≡ planned_list n leaves list) where
  refused-by : (short : Bool) → ltb (length list) (length (chain n leaves)) ≡ short → (r : Refusal) → number_of r ≡ plan_row n leaves (length list)
      → DrawnFrom None n leaves list (not_drawn (found_in 0 (number_of r))) after
  unfolding planned_list
  refused-by true s r o =
      let same : number_of r ≡ 16 = o ∙ list-check n leaves done (length list) ∙ rw s in
      (rw (s, same), e ∙ rw (not_done r (plan_row n leaves (length list)) o))
  refused-by false s r o =
      let same : number_of r ≡ 0 = o ∙ list-check n leaves done (length list) ∙ rw s in
      absurd (omega (arith, number-some r))

  drawn-by : (short : Bool) → ltb (length list) (length (chain n leaves)) ≡ short → plan_row n leaves (length list) ≡ 0
      → DrawnFrom None n leaves list (drawn_chain count) after
  unfolding planned_count planned_list
  drawn-by true s o = let same : ◌≡◌ {A = ℕ} 0 16 = sym o ∙ list-check n leaves done (length list) ∙ rw s in absurd (omega arith)
  drawn-by false s o = (rw s (ap drawn_chain (k ∙ rw o)), e ∙ rw o)

  pub chain-refused : (r : Refusal) → number_of r ≡ plan_row n leaves (length list) → DrawnFrom None n leaves list (not_drawn (found_in 0 (number_of r))) after
  chain-refused r o = refused-by (ltb (length list) (length (chain n leaves))) refl r o

  pub chain-drawn : 0 ≡ plan_row n leaves (length list) → DrawnFrom None n leaves list (drawn_chain count) after
  chain-drawn o = drawn-by (ltb (length list) (length (chain n leaves))) refl (sym o)

-- the pair that a drawing names is the one that it was drawn from
clash-by : (short : Bool) (count : ℕ) → clash_pair (pick short (not_drawn (found_in 0 16)) (drawn_chain count)) ≡ None
clash-by true count = refl
clash-by false count = refl

pub clash-pair : (pair : Option Pair) (count list : ℕ) → clash_pair (drawn_from pair count list) ≡ pair
clash-pair None count list = clash-by (ltb list count) count
clash-pair (Some pair) count list = refl
