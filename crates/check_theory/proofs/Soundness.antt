-- Bytes that are accepted are a proof.
use mathlib.Core.Path.{◌≡◌, refl, sym, ap, ◌∙◌}
use Prim.Native.Nat.{ℕ, ◌+◌, ◌*◌, ◌≤◌, ◌<◌}
use native.Mathlib.Omega.{arith}
use mathlib.Core.Bool.{true, not}
use mathlib.Core.List.{List, ◌++◌, append_assoc}
use lib.Dec.{ltb, eqb}
use lib.ListN.{length, drop, get_or, length-append, length-drop, take-append-drop}
use lib.Seq.{drop-drop, length-take-le}
use borrow.Author.Tests.{ltb-false, eqb-true, not-false}
use Rattle.base.specs.Choice.{both}
use Rattle.base.specs.Limits.{max_edition, max_depth, max_challenges, IsEdition, IsDepth, IsCount}
use Rattle.base.specs.Lists.{EachOf, same_bytes}
use Rattle.base.proofs.ChoiceLaws.{both_first, both-second}
use Rattle.base.proofs.ListsLaws.{tells-bytes}
use Rattle.base.specs.Row.{outside, no_edition}
use Rattle.tree.specs.Labels.{cut}
use Rattle.tree.proofs.Cut.{length_cut, cut-sizes, joined-cut}
use Rattle.groups.specs.Groups.{groups, number_groups}
use Rattle.groups.specs.Reading.{read_at}
use Rattle.groups.proofs.ShortestOnly.{Shortest, only-shortest}
use Rattle.tree.specs.Openings.{opening_size}
use Rattle.file_head.specs.Challenge.{challenge_leaf}
use Rattle.file_head.specs.Layout.{head_numbers, head, file}
use Rattle.file_head.specs.Head.{HeadAnswer, numbers, not_read, head_edition, head_of, length_from, statement_at, root_at, opening_at}
use Rattle.proof_file.specs.FileCheck.{found_in, openings_from, wanted, file_rest, file_check}
use Rattle.file_head.proofs.HeadLaws.{passed, head-number}
use Rattle.check_theory.specs.IsProof.{OpeningRight, nth, IsProof}
use Rattle.check_theory.specs.Heads.{NumbersRead}
use Rattle.base.proofs.ChoiceLaws.{second-picked}
use Rattle.base.proofs.Ranges.{range-of}
use Rattle.check_theory.proofs.RowLaws.{done-right}
use Rattle.check_theory.proofs.Reading.{opening-back}
use Rattle.check_theory.proofs.Openings.{row_of, accepted-rows}

-- ---- the head
numbers_of :
    (edition : ℕ) (bytes : List ℕ) (n t a b c : ℕ) → IsEdition edition → IsDepth n → IsCount t
    → Shortest bytes 0 number_groups edition a → Shortest bytes a number_groups n b → Shortest bytes b number_groups t c →
    NumbersRead edition bytes n t c
unfolding head_numbers
numbers_of edition bytes n t a b c exists depth count s₁ s₂ s₃ =
    record {
      exists = exists;
      depth = depth;
      count = count;
      ends = simp length-append (omega (arith, s₁.ends, s₂.ends, s₃.ends));
      form =
          simp append_assoc
          (s₁.form
          ∙ ap (λ (l : List ℕ). groups number_groups edition ++ l) (s₂.form ∙ ap (λ (l : List ℕ). groups number_groups n ++ l) s₃.form));
    }

same_read :
    (bytes : List ℕ) (edition n t at edition' n' t' at' : ℕ) → edition ≡ edition' → n ≡ n' → t ≡ t' → at ≡ at'
    → NumbersRead edition bytes n t at → NumbersRead edition' bytes n' t' at'
same_read bytes edition n t at edition' n' t' at' o p q r read = rw (o, p, q, r) at read

-- what is read as a head's numbers is their shortest form
pub numbers-read :
    (bytes : List ℕ) (edition n t at : ℕ) → ((j : ℕ) → get_or bytes j 0 < 256) → head_of bytes ≡ numbers edition n t at
    → NumbersRead edition bytes n t at
unfolding head_of
numbers-read bytes edition n t at small e =
    let p₁ = passed (read_at bytes 0 number_groups) no_edition 12 _ edition n t at e in
    let p₂ = passed (read_at bytes p₁.end number_groups) (outside 1 max_depth) 1 _ edition n t at p₁.after in
    let p₃ = passed (read_at bytes p₂.end number_groups) (outside 1 max_challenges) 8 _ edition n t at p₂.after in
    let last = p₃.after in
    same_read bytes p₁.x p₂.x p₃.x p₃.end edition n t at (cc) (cc) (cc) (cc)
    (numbers_of p₁.x bytes p₂.x p₃.x p₁.end p₂.end p₃.end
    (range-of 1 max_edition p₁.x p₁.good)
    (range-of 1 max_depth p₂.x p₂.good)
    (range-of 1 max_challenges p₃.x p₃.good)
    (only-shortest bytes 0 number_groups p₁.x p₁.end small p₁.read)
    (only-shortest bytes p₁.end number_groups p₂.x p₂.end small p₂.read)
    (only-shortest bytes p₂.end number_groups p₃.x p₃.end small p₃.read))

-- ---- the openings
-- bytes of a file's length behind a head's numbers are a file
module _ (edition : ℕ) (bytes : List ℕ) (n t at : ℕ) (read : NumbersRead edition bytes n t at) (size : length bytes ≡ length_from n t at) where
  openings_in : List (List ℕ)
  openings_in = cut (opening_size n) t (drop (at + 64) bytes)

  behind-size : length (drop (at + 64) bytes) ≡ t * opening_size n
  behind-size = rw length-drop (omega arith)

  split-head : drop at bytes ≡ statement_at bytes at ++ (root_at bytes at ++ drop (at + 64) bytes)
  split-head =
      let all : at + 32 + 32 ≡ at + 64 = omega arith in
      let root : drop (at + 32) bytes ≡ root_at bytes at ++ drop (at + 64) bytes =
      sym (take-append-drop 32 (drop (at + 32) bytes)) ∙ ap (λ (l : List ℕ). root_at bytes at ++ l) (drop-drop 32 (at + 32) bytes ∙ rw all) in
      sym (take-append-drop 32 (drop at bytes)) ∙ ap (λ (l : List ℕ). statement_at bytes at ++ l) (drop-drop 32 at bytes ∙ root)

  file-of : bytes ≡ file edition (statement_at bytes at) (root_at bytes at) n t openings_in
  unfolding file head openings_in
  file-of =
      read.form
      ∙ ap (λ (l : List ℕ). head_numbers edition n t ++ l) split-head
      ∙ rw (joined-cut (opening_size n) t (drop (at + 64) bytes) behind-size) (simp append_assoc)

  statement-size : length (statement_at bytes at) ≡ 32
  statement-size = length-take-le 32 (drop at bytes) (rw length-drop (omega arith))

  root-size : length (root_at bytes at) ≡ 32
  root-size = length-take-le 32 (drop (at + 32) bytes) (rw length-drop (omega arith))

  opening-count : length openings_in ≡ t
  unfolding openings_in
  opening-count = length_cut (opening_size n) t (drop (at + 64) bytes)

  opening-sizes : EachOf (opening_size n) openings_in
  unfolding openings_in
  opening-sizes = cut-sizes (opening_size n) t (drop (at + 64) bytes) behind-size

  opening-at : (i : ℕ) → 1 ≤ i → i ≤ t → opening_at bytes n at i ≡ nth openings_in i
  opening-at i positive small =
      let there =
      opening-back edition (statement_at bytes at) (root_at bytes at) n t statement-size root-size openings_in opening-count
      opening-sizes i positive small in
      rw (← file-of, ← read.ends) at there

  right-at :
      (i : ℕ) → 1 ≤ i → i ≤ t → row_of edition bytes n at i ≡ 0
      → OpeningRight edition (statement_at bytes at) n (challenge_leaf edition n (statement_at bytes at) (root_at bytes at) i)
      (root_at bytes at) (nth openings_in i)
  right-at i positive small e =
      rw (← opening-at i positive small)
      (done-right edition (statement_at bytes at) n (challenge_leaf edition n (statement_at bytes at) (root_at bytes at) i) (root_at bytes at)
      (opening_at bytes n at i) e)

  -- and if its openings pass, a proof of the statement in it
  proof-of : openings_from edition bytes n at 1 t ≡ 0 → IsProof edition bytes (statement_at bytes at) n t
  proof-of e =
      record {
        exists = read.exists;
        depth = read.depth;
        count = read.count;
        root = root_at bytes at;
        openings = openings_in;
        statement_size = statement-size;
        root_size = root-size;
        opening_count = opening-count;
        opening_sizes = opening-sizes;
        is_file = file-of;
        all_right = λ i positive small. right-at i positive small (accepted-rows edition bytes n at 1 t e i positive (omega arith));
      }

-- ---- the file
not-accepted : (number : ℕ) → 1 ≤ number → found_in 0 number ≡ 0 → ⊥
not-accepted number some e = omega arith

module _ (bytes statement : List ℕ) (n t : ℕ) (small : (j : ℕ) → get_or bytes j 0 < 256) where
  from-numbers :
      (edition n' t' at : ℕ) → head_of bytes ≡ numbers edition n' t' at → file_rest bytes statement n t (numbers edition n' t' at) ≡ 0
      → IsProof edition bytes statement n t
  from-numbers edition n' t' at h e =
      let p₁ = second-picked (ltb (length bytes) (length_from n' t' at)) (found_in 0 10) _ 0 (not-accepted 10 (omega arith)) e in
      let p₂ = second-picked (ltb (length_from n' t' at) (length bytes)) (found_in 0 13) _ 0 (not-accepted 13 (omega arith)) p₁.1 in
      let p₃ = second-picked (not (wanted (statement_at bytes at) n' t' statement n t)) (found_in 0 9) _ 0 (not-accepted 9 (omega arith)) p₂.1 in
      let enough : length_from n' t' at ≤ length bytes = ltb-false (length bytes) (length_from n' t' at) p₁.0 in
      let no_more : length bytes ≤ length_from n' t' at = ltb-false (length_from n' t' at) (length bytes) p₂.0 in
      let w : wanted (statement_at bytes at) n' t' statement n t ≡ true = not-false (wanted (statement_at bytes at) n' t' statement n t) p₃.0 in
      as_wanted (statement_at bytes at) n' t' w
      (proof-of edition bytes n' t' at (numbers-read bytes edition n' t' at small h) (omega arith) p₃.1)
    where
      as_wanted :
          (s : List ℕ) (n' t' : ℕ) → wanted s n' t' statement n t ≡ true → IsProof edition bytes s n' t'
          → IsProof edition bytes statement n t
      as_wanted s n' t' w p =
          let same : same_bytes s statement ≡ true = both_first (same_bytes s statement) (both (eqb n' n) (eqb t' t)) w in
          let numbers : both (eqb n' n) (eqb t' t) ≡ true = both-second (same_bytes s statement) (both (eqb n' n) (eqb t' t)) w in
          let e₁ : s ≡ statement = tells-bytes.equal s statement same in
          let e₂ : n' ≡ n = eqb-true n' n (both_first (eqb n' n) (eqb t' t) numbers) in
          let e₃ : t' ≡ t = eqb-true t' t (both-second (eqb n' n) (eqb t' t) numbers) in
          rw (e₁, e₂, e₃) at p

  from-head : (h : HeadAnswer) → head_of bytes ≡ h → file_rest bytes statement n t h ≡ 0 → IsProof (head_edition h) bytes statement n t
  from-head (numbers edition n' t' at) h e = from-numbers edition n' t' at h e
  from-head (not_read r) h e = absurd (not-accepted r (head-number bytes r h) e)

  -- 'a file is accepted only if all its openings obey the paper', by the rule of the edition that its head says
  pub accepted-proof : file_check bytes statement n t ≡ 0 → IsProof (head_edition (head_of bytes)) bytes statement n t
  unfolding file_check
  accepted-proof e = from-head (head_of bytes) refl e
