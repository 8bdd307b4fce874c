-- Laws of the check of a file: one for each return.
use mathlib.Core.Path.{◌≡◌, refl, sym}
use mathlib.Core.Bool.{Bool, true, false, not}
use mathlib.Core.List.{List, [], ◌∷◌}
use Prim.Native.Nat.{ℕ, suc, ◌+◌, ◌-◌, ◌≤◌, ◌<◌}
use native.Mathlib.Omega.{arith}
use borrow.Author.Tests.{ltb-false, not-false}
use lib.Dec.{eqb, ltb}
use lib.ListN.{length, take, drop}
use Rattle.base.specs.Choice.{pick, both}
use Rattle.base.specs.Lists.{same_bytes}
use Rattle.base.proofs.ChoiceLaws.{both_first}
use Rattle.base.proofs.ListsLaws.{tells-bytes}
use Rattle.base.specs.declared.refusal.Refusal.{Refusal}
use Rattle.std.specs.Prelude.{Result, Ok, Err}
use Rattle.base.specs.Number.{number_of, outcome_number}
use Rattle.base.specs.Row.{first_of, is_done}
use Rattle.base.proofs.RowLaws.{NoneHolds, none-holds, not_done}
use Rattle.base.proofs.Bounds.{number-some}
use Rattle.tree.specs.Openings.{opening_size}
use Rattle.file_head.specs.Challenge.{challenge_leaf}
use Rattle.file_head.specs.Layout.{opening_from}
use Rattle.file_head.specs.Head.{numbers, not_read, head_of, length_from, statement_at, root_at, opening_at}
use Rattle.opening_check.specs.OpeningCheck.{right_row}
use Rattle.proof_file.specs.FileCheck.{found_in, openings_from, wanted, file_check}
use Rattle.base.proofs.Parts.{part-size}

-- ---- the openings: one refused, one right, none left
module _ (edition : ℕ) (bytes statement root : List ℕ) (n at i t start leaf : ℕ) (outcome : Result Unit Refusal)
    (s : statement ≡ statement_at bytes at) (r : root ≡ root_at bytes at) (l : leaf ≡ challenge_leaf edition n statement root i)
    (from : start ≡ opening_from n (at + 64) i) (more : i ≤ t)
    (o : outcome_number outcome ≡ right_row edition statement n leaf root (take (start + opening_size n - start) (drop start bytes))) where
  outcome-is :
      right_row edition (statement_at bytes at) n (challenge_leaf edition n (statement_at bytes at) (root_at bytes at) i) (root_at bytes at)
      (opening_at bytes n at i) ≡ outcome_number outcome
  outcome-is =
      rw (← s, ← r, ← l, ← from, ← part-size bytes start (opening_size n)) (sym o)

  one_more : t + 1 - i ≡ suc (t - i)
  one_more = omega arith

  pub opening-refused : (refusal : Refusal) → outcome ≡ Err refusal
      → openings_from edition bytes n at i (t + 1 - i) ≡ found_in i (number_of refusal)
  unfolding openings_from
  opening-refused refusal e =
      let no : is_done (number_of refusal) ≡ false = not_done refusal (number_of refusal) refl in
      rw (one_more, outcome-is, e, no)

  pub opening-right : outcome ≡ Ok tt → openings_from edition bytes n at i (t + 1 - i) ≡ openings_from edition bytes n at (i + 1) (t + 1 - (i + 1))
  unfolding openings_from
  opening-right e =
      let rest : t + 1 - (i + 1) ≡ t - i = omega arith in
      rw (one_more, outcome-is, e, rest)

pub none_left : (edition : ℕ) (bytes : List ℕ) (n at i t : ℕ) → t < i → openings_from edition bytes n at i (t + 1 - i) ≡ 0
unfolding openings_from
none_left edition bytes n at i t h = let none : t + 1 - i ≡ 0 = omega arith in rw none

-- ---- 10; 13; 9, then the openings
module _ (statement statement' : List ℕ) (n t n' t' : ℕ) where
  pub wanted-statement : wanted statement n t statement' n' t' ≡ true → statement' ≡ statement
  wanted-statement e =
      sym (tells-bytes.equal statement statement' (both_first (same_bytes statement statement') (both (eqb n n') (eqb t t')) e))

-- a row's answer outside openings
found-row : (a b c : Bool) (openings number : ℕ) → 1 ≤ number → number ≡ first_of ((a, 10) ∷ (b, 13) ∷ (c, 9) ∷ [])
    → found_in 0 number ≡ pick a (found_in 0 10) (pick b (found_in 0 13) (pick c (found_in 0 9) openings))
found-row true b c openings number some e = rw e
found-row false true c openings number some e = rw e
found-row false false true openings number some e = rw e
found-row false false false openings number some e = absurd (omega arith)

-- what the row says of a file where it is passed
pub record Whole (bytes statement : List ℕ) (depth count edition n t at : ℕ) : Type 0 where
  pub length-is : length bytes ≡ length_from n t at
  pub statement-is : statement ≡ statement_at bytes at
  pub answer : openings_from edition bytes n at 1 t ≡ file_check bytes statement depth count

module _ (bytes statement : List ℕ) (depth count edition n t at : ℕ) (h : head_of bytes ≡ numbers edition n t at) where
  pub rest-refused : (r : Refusal) → number_of r ≡ first_of
      ((ltb (length bytes) (length_from n t at), 10)
      ∷ (ltb (length_from n t at) (length bytes), 13)
      ∷ (not (wanted (statement_at bytes at) n t statement depth count), 9)
      ∷ [])
      → found_in 0 (number_of r) ≡ file_check bytes statement depth count
  unfolding file_check
  rest-refused r e = rw h (found-row _ _ _ (openings_from edition bytes n at 1 t) (number_of r) (number-some r) e)

  pub rest-passed : 0 ≡ first_of
      ((ltb (length bytes) (length_from n t at), 10)
      ∷ (ltb (length_from n t at) (length bytes), 13)
      ∷ (not (wanted (statement_at bytes at) n t statement depth count), 9)
      ∷ [])
      → Whole bytes statement depth count edition n t at
  unfolding file_check
  rest-passed e =
      let row : List (Bool × ℕ) =
      (ltb (length bytes) (length_from n t at), 10)
      ∷ (ltb (length_from n t at) (length bytes), 13)
      ∷ (not (wanted (statement_at bytes at) n t statement depth count), 9)
      ∷ [] in
      let none : NoneHolds row = none-holds row refl (sym e) in
      let least = ltb-false (length bytes) (length_from n t at) none.0 in
      let most = ltb-false (length_from n t at) (length bytes) none.1.0 in
      let same : wanted (statement_at bytes at) n t statement depth count ≡ true = not-false _ none.1.1.0 in
      record {
        length-is = omega arith;
        statement-is = wanted-statement (statement_at bytes at) statement n t depth count same;
        answer = rw (h, none.0, none.1.0, same);
      }

-- ---- the head
pub head-refused : (bytes statement : List ℕ) (depth count r : ℕ) → head_of bytes ≡ not_read r
    → found_in 0 r ≡ file_check bytes statement depth count
unfolding file_check
head-refused bytes statement depth count r e = rw e
