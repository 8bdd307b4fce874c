-- What a drawing that gives a chain says of the file, the leaves and the list.
use mathlib.Core.Path.{◌≡◌, refl, sym, ap, ◌∙◌}
use Prim.Native.Nat.{ℕ, zero, suc, ◌≤◌, ◌<◌}
use native.Mathlib.Omega.{arith}
use mathlib.Core.Bool.{Bool, true, false}
use mathlib.Core.List.{List}
use lib.Dec.{ltb}
use lib.ListN.{length, get_or, take, length-map}
use borrow.Author.Tests.{ltb-false}
use Rattle.base.specs.Choice.{pick}
use Rattle.base.specs.Bytes.{written}
use Rattle.base.proofs.WrittenLaws.{written-here}
use Rattle.base.specs.declared.refusal.Rejection.{Rejection}
use Rattle.proof_file.specs.FileCheck.{found_in, file_check}
use Rattle.chain_theory.specs.Ways.{chain, chain_codes, code}
use Rattle.chain.specs.PlanRow.{plan_row}
use Rattle.chain.proofs.Rows.{list-check}
use Rattle.planning.specs.Output.{places}
use Rattle.drawing_text.specs.Text.{ChainIn}
use Rattle.compare.specs.declared.Pair.{Pair}
use Rattle.std.proofs.Common.{Option, Some, None, Result}
use Rattle.draw.specs.declared.Drawing.{Drawing}
use Rattle.draw.specs.Drawing.{DrawingAnswer, drawing_answer, not_drawn, drawn_chain, drawn_clash, drawn_if, drawn_from, leaves_of, pair_of, drawing_of, drawn_list}
use Rattle.draw.proofs.AcceptedFile.{leaves-done}

not-refused : (code c : ℕ) → not_drawn code ≡ drawn_chain c → ⊥
not-refused code c e = let z : ◌≡◌ {A = ℕ} 0 1 = cc in omega arith

not-clash : (i j l c : ℕ) → drawn_clash i j l ≡ drawn_chain c → ⊥
not-clash i j l c e = let z : ◌≡◌ {A = ℕ} 0 1 = cc in omega arith

same_count : (c d : ℕ) → drawn_chain c ≡ drawn_chain d → c ≡ d
same_count c d e = cc

-- all file checks passed
check-passed : (code : ℕ) (d : DrawingAnswer) (c : ℕ) → drawn_if code d ≡ drawn_chain c → (code ≡ 0) × (d ≡ drawn_chain c)
check-passed zero d c e = (refl, e)
check-passed (suc code) d c e = absurd (not-refused (suc code) c e)

-- no pair disagrees, and the list is long enough
pair-passed : (p : Option Pair) (count list c : ℕ) → drawn_from p count list ≡ drawn_chain c → (ltb list count ≡ false) × (count ≡ c)
pair-passed (Some pair) count list c e = absurd (not-clash pair.first pair.second pair.level c e)
pair-passed None count list c e = go (ltb list count) e
  where
    go : (t : Bool) → pick t (not_drawn (found_in 0 16)) (drawn_chain count) ≡ drawn_chain c → (t ≡ false) × (count ≡ c)
    go true e = absurd (not-refused (found_in 0 16) c e)
    go false e = (refl, same_count count c e)

module _ (bytes statement : List ℕ) (n t list c : ℕ) (drawn : drawing_of bytes statement n t list ≡ drawn_chain c) where
  passed : (file_check bytes statement n t ≡ 0)
      × (drawn_from (pair_of bytes statement n t) (length (chain n (leaves_of bytes statement n t))) list ≡ drawn_chain c)
  unfolding drawing_of
  passed =
      check-passed (file_check bytes statement n t)
      (drawn_from (pair_of bytes statement n t) (length (chain n (leaves_of bytes statement n t))) list) c drawn

  pub file-accepted : file_check bytes statement n t ≡ 0
  file-accepted = passed.0

  fitting : (ltb list (length (chain n (leaves_of bytes statement n t))) ≡ false) × (length (chain n (leaves_of bytes statement n t)) ≡ c)
  fitting = pair-passed (pair_of bytes statement n t) (length (chain n (leaves_of bytes statement n t))) list c passed.1

  pub plan-done : ((j : ℕ) → get_or bytes j 0 < 256) → (leaves : List ℕ) → leaves ≡ leaves_of bytes statement n t → plan_row n leaves list ≡ 0
  plan-done small leaves e =
      list-check n leaves (leaves-done bytes statement n t small file-accepted leaves e) list ∙ rw (e, fitting.0)

  codes-length : length (chain_codes n (leaves_of bytes statement n t)) ≡ c
  unfolding chain_codes
  codes-length = length-map (chain n (leaves_of bytes statement n t)) code ∙ fitting.1

-- the codes in the list
module _ (bytes statement : List ℕ) (n t : ℕ) (list after : List ℕ) (c : ℕ)
    (drawn : drawing_of bytes statement n t (length list) ≡ drawn_chain c) (is : after ≡ drawn_list bytes statement n t list) where
  over : after ≡ written list 0 (chain_codes n (leaves_of bytes statement n t))
  unfolding drawn_list
  over = is ∙ rw drawn

  size : length (chain_codes n (leaves_of bytes statement n t)) ≡ c
  size = codes-length bytes statement n t (length list) c drawn

  pub codes-fit : c ≤ length list
  codes-fit =
      omega (
        arith,
        (fitting bytes statement n t (length list) c drawn).1,
        ltb-false (length list) (length (chain n (leaves_of bytes statement n t)))
            (fitting bytes statement n t (length list) c drawn).0,
      )

  pub codes-drawn : take c after ≡ chain_codes n (leaves_of bytes statement n t)
  codes-drawn =
      rw over
      (written-here list (chain_codes n (leaves_of bytes statement n t)) 0 (omega (arith, size, codes-fit)) c size)

-- what drawing into 6,855 places leaves there
pub chain-in : (bytes statement : List ℕ) (n t : ℕ) (drawing : Result Drawing Rejection) (list after : List ℕ) → length list ≡ places
    → drawing_answer drawing ≡ drawing_of bytes statement n t (length list) → after ≡ drawn_list bytes statement n t list → length after ≡ length list
    → ChainIn drawing after bytes statement n t
chain-in bytes statement n t drawing list after l d a k = λ nodes e.
    let is : drawing_of bytes statement n t (length list) ≡ drawn_chain nodes = sym d ∙ ap drawing_answer e in (
      rw (← l) is,
      omega (arith, codes-fit bytes statement n t list after nodes is a),
      codes-drawn bytes statement n t list after nodes is a,
    )
