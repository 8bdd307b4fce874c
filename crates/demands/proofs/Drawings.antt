-- Document 01's row 'Drawing a chain': all file checks; 16, if no pair disagrees.
use mathlib.Core.Path.{◌≡◌, refl}
use mathlib.Core.Logic.{inl, inr, ⊎_elim}
use Prim.Native.Nat.{ℕ, zero, suc, ◌+◌, ◌*◌, ◌≤◌, ◌<◌}
use native.Mathlib.Omega.{arith}
use mathlib.Core.List.{List, [], ◌∷◌}
use lib.Dec.{lit≤}
use lib.ListN.{length, get_or}
use Rattle.proof_file.specs.FileCheck.{file_check}
use Rattle.draw.specs.Drawing.{DrawingAnswer, not_drawn, drawn_chain, drawn_clash, drawing_of}
use Rattle.draw_theory.specs.Demand3.{IsAccepted, NoneDisagree, chain_length, ListShort}
use Rattle.draw_theory.proofs.Openings.{some-none}
use Rattle.draw_theory.proofs.Demand3.{chain-exactly, clash-exactly, refused-exactly, refused-untouched}
use Rattle.demands.specs.Rows.{IsFirst, found_in, file_openings, a_file, drawing_chain}
use Rattle.demands.specs.Demand1.{drawing_number, DrawingChain}
use Rattle.demands.proofs.Decisions.{Positive, stays-first, passes-first}
use Rattle.demands.proofs.Files.{a-file}

-- ---- a file's row
openings-positive : (bytes : List ℕ) (n at i left : ℕ) → Positive (file_openings bytes n at i left)
unfolding file_openings
openings-positive bytes n at i zero = tt
openings-positive bytes n at i (suc left) = (omega arith, (omega arith, openings-positive bytes n at (i + 1) left))

file-positive : (bytes statement : List ℕ) (n t : ℕ) → Positive (a_file bytes statement n t)
unfolding a_file
file-positive bytes statement n t =
    let ten : 1 ≤ 256 * 10 = lit≤ tt in
    let eleven : 1 ≤ 256 * 11 = lit≤ tt in
    (ten, (eleven, (lit≤ tt, (ten, (eleven, (lit≤ tt, (ten, (eleven, (lit≤ tt, (ten, (lit≤ tt, (lit≤ tt, openings-positive bytes _ _ 1 _))))))))))))

-- ---- the answer
module _ (bytes statement : List ℕ) (n t : ℕ) (small : (j : ℕ) → get_or bytes j 0 < 256) (list : List ℕ) where
  abbrev Short : Type 0
  Short = NoneDisagree bytes statement n t × (length list < chain_length bytes statement n t)

  -- a file that is accepted
  behind-file :
      IsAccepted bytes statement n t → (answer : ℕ) → IsFirst (found_in 0 ((Short, 16) ∷ [])) answer
      → IsFirst (drawing_chain bytes statement n t (length list)) answer
  behind-file accepted answer first =
      passes-first (a_file bytes statement n t) (found_in 0 ((Short, 16) ∷ [])) answer (file-positive bytes statement n t)
      (rw accepted at (a-file bytes statement n t)) first

  refused-by-file : (code : ℕ) → file_check bytes statement n t ≡ code → 1 ≤ code → IsFirst (drawing_chain bytes statement n t (length list)) code
  refused-by-file code refused some =
      stays-first (a_file bytes statement n t) (found_in 0 ((Short, 16) ∷ [])) code some (rw refused at (a-file bytes statement n t))

  answer-by :
      (d : DrawingAnswer) → drawing_of bytes statement n t (length list) ≡ d
      → IsFirst (drawing_chain bytes statement n t (length list)) (drawing_number d)
  answer-by (not_drawn code) e =
      ⊎_elim
      (λ file. refused-by-file code file.0 file.1)
      (λ (s : ListShort bytes statement n t (length list) code). behind-file s.accepted code (inl ((s.agree, s.short), s.refusal)))
      ((refused-exactly bytes statement n t small (length list) code).0 e)
  answer-by (drawn_chain count) e =
      let drawn = (chain-exactly bytes statement n t small (length list)).0 (count, e) in
      behind-file drawn.0 0 (inr (λ s. omega (arith, s.1, drawn.2), refl))
  answer-by (drawn_clash i j l) e =
      let drawn = (clash-exactly bytes statement n t small (length list)).0 (i, j, l, e) in
      behind-file drawn.0 0 (inr (λ s. some-none bytes statement n t drawn.1 s.0, refl))

  pub drawing-chain : DrawingChain bytes statement n t list
  drawing-chain =
      record {
        answer = answer-by (drawing_of bytes statement n t (length list)) refl;
        refused = λ code e. refused-untouched bytes statement n t list code e;
      }
