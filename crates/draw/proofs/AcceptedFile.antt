-- A file that is accepted: where its parts lie, its leaves and openings pass the comparison's checks, and what is drawn.
use mathlib.Core.Path.{◌≡◌, refl, sym, ap, ◌∙◌}
use Prim.Native.Nat.{ℕ, ◌+◌, ◌-◌, ◌*◌, ◌≤◌, ◌<◌}
use native.Mathlib.Omega.{arith}
use mathlib.Core.Bool.{true, false}
use mathlib.Core.List.{List}
use lib.ListN.{length, get_or, take, drop, length-drop}
use Rattle.base.specs.Choice.{every}
use Rattle.base.specs.Limits.{max_edition, max_depth, max_challenges, IsDepth, IsCount}
use Rattle.base.specs.declared.refusal.Refusal.{Refusal}
use Rattle.base.specs.declared.refusal.Rejection.{Rejection}
use Rattle.base.specs.Number.{number_of}
use Rattle.std.specs.Prelude.{Option, Some, None, Result, Ok, IfOk}
use Rattle.base.specs.Row.{is_done}
use Rattle.base.proofs.Bounds.{number-some}
use Rattle.base.proofs.Parts.{part-rest}
use Rattle.base.proofs.RowLaws.{some-refused}
use Rattle.tree.specs.Openings.{opening_size}
use Rattle.chain_theory.specs.Ways.{chain, chain_codes}
use Rattle.chain_theory.specs.Planning.{is_leaf}
use Rattle.base.proofs.Ranges.{in-range, within}
use Rattle.file_head.specs.Layout.{head_numbers}
use Rattle.file_head.specs.Head.{numbers, not_read, head_of, head_edition, head_depth, head_count, length_from, root_at}
use Rattle.proof_file.specs.FileCheck.{found_in, file_check}
use Rattle.check_theory.specs.IsProof.{IsProof}
use Rattle.check_theory.proofs.Soundness.{accepted-proof}
use Rattle.check_theory.proofs.Completeness.{file-head, file-size}
use Rattle.chain.specs.Leaves.{leaves_row}
use Rattle.chain.proofs.Rows.{row_done}
use Rattle.compare.specs.declared.Pair.{Pair}
use Rattle.compare.specs.declared.Clash.{Clash}
use Rattle.compare.specs.Comparison.{compare_row, compared, first_input, second_input, clash_of}
use Rattle.draw.specs.declared.Drawing.{Drawing}
use Rattle.draw.specs.declared.Drawing.TheVariants.{Clash as a_clash}
use Rattle.compare.proofs.Checks.{size-right, compared-done}
use Rattle.draw.specs.Drawing.{not_drawn, drawing_answer, drawn_clash, list_after, HasInputs, numbers_end, leaves_of, openings_of, pair_of, drawn_from, drawing_of, drawn_list}
use Rattle.draw.specs.Drawing.{clash_pair, first_drawn, second_drawn, proof_edition}
use Rattle.draw.proofs.LeavesOpened.{length-leaves, leaves-inside}
use Rattle.draw.proofs.Chains.{DrawnFrom, clash-pair}

-- the answer, the inputs of a clash and the list afterwards
abbrev pub Answers : List ℕ → List ℕ → ℕ → ℕ → List ℕ → Result Drawing Rejection → List ℕ → Type 0
Answers bytes statement n t list drawing after =
    (drawing_answer drawing ≡ drawing_of bytes statement n t (length list))
    × (IfOk drawing (HasInputs (first_drawn bytes statement n t (length list)) (second_drawn bytes statement n t (length list)))
    × (after ≡ drawn_list bytes statement n t list))

-- a file that is refused
module _ (bytes statement : List ℕ) (n t : ℕ) (list : List ℕ) (r : Rejection) (e : found_in r.opening (number_of r.refusal) ≡ file_check bytes statement n t) where
  none-drawn : drawing_of bytes statement n t (length list) ≡ not_drawn (found_in r.opening (number_of r.refusal))
  unfolding drawing_of
  none-drawn =
      let no : is_done (found_in r.opening (number_of r.refusal)) ≡ false =
      some-refused (found_in r.opening (number_of r.refusal)) (omega (arith, number-some r.refusal)) in
      rw (← e, no)

  pub answer_refused : not_drawn (found_in r.opening (number_of r.refusal)) ≡ drawing_of bytes statement n t (length list)
  answer_refused = sym none-drawn

  pub list_refused : list ≡ drawn_list bytes statement n t list
  unfolding drawn_list
  list_refused = rw none-drawn

module _ (bytes statement : List ℕ) (n t : ℕ) (small : (j : ℕ) → get_or bytes j 0 < 256) (ok : file_check bytes statement n t ≡ 0) where
  pub is_proof : IsProof (proof_edition bytes) bytes statement n t
  unfolding proof_edition
  is_proof = accepted-proof bytes statement n t small ok

  pub depth-known : IsDepth n
  depth-known = is_proof.depth

  pub count-known : IsCount t
  count-known = is_proof.count

  head-known : head_of bytes ≡ numbers (proof_edition bytes) n t (length (head_numbers (proof_edition bytes) n t))
  head-known = file-head (proof_edition bytes) bytes statement n t is_proof

  end_known : numbers_end (head_of bytes) ≡ length (head_numbers (proof_edition bytes) n t)
  end_known = ap numbers_end head-known

  -- the head is read, and says what was wanted
  pub no_refusal : (r : Refusal) → not_read (number_of r) ≡ head_of bytes → ⊥
  no_refusal r e = let clash : not_read (number_of r) ≡ numbers (proof_edition bytes) n t (length (head_numbers (proof_edition bytes) n t)) = e ∙ head-known in cc

  module _ (e d c at : ℕ) (read : numbers e d c at ≡ head_of bytes) where
    pub edition-read : e ≡ proof_edition bytes
    unfolding proof_edition
    edition-read = ap head_edition read

    depth-read : d ≡ n
    depth-read = ap head_depth (read ∙ head-known)

    count-read : c ≡ t
    count-read = ap head_count (read ∙ head-known)

    end_read : at ≡ numbers_end (head_of bytes)
    end_read = ap numbers_end read

    pub size-read : length bytes ≡ length_from d c at
    size-read =
        file-size (proof_edition bytes) bytes statement n t is_proof
        ∙ (λ k. length_from (sym depth-read k) (sym count-read k) (sym (end_read ∙ end_known) k))

    pub leaves-read : (leaves : List ℕ) → leaves ≡ leaves_of bytes statement d c → leaves ≡ leaves_of bytes statement n t
    leaves-read leaves known = known ∙ (λ k. leaves_of bytes statement (depth-read k) (count-read k))

    pub openings-read : (openings : List ℕ) → openings ≡ take (length bytes - (at + 64)) (drop (at + 64) bytes) → openings ≡ openings_of bytes
    unfolding openings_of
    openings-read openings f = f ∙ part-rest bytes (at + 64) ∙ rw end_read

  size-known : length bytes ≡ length_from n t (numbers_end (head_of bytes))
  size-known = rw end_known (file-size (proof_edition bytes) bytes statement n t is_proof)

  leaves-count : length (leaves_of bytes statement n t) ≡ t
  unfolding leaves_of
  leaves-count = length-leaves (proof_edition bytes) n statement (root_at bytes (numbers_end (head_of bytes))) 1 t

  all-leaves : every (is_leaf n) (leaves_of bytes statement n t) ≡ true
  unfolding leaves_of
  all-leaves = leaves-inside (proof_edition bytes) n statement (root_at bytes (numbers_end (head_of bytes))) depth-known.1 1 t

  -- for comparing and for planning
  leaves-row : (least : ℕ) → least ≤ 1 → leaves_row least n (leaves_of bytes statement n t) ≡ 0
  leaves-row least some =
      sym
      (row_done least n (leaves_of bytes statement n t) (in-range 1 max_depth n depth-known.0 depth-known.1)
      (rw leaves-count (in-range least max_challenges t (omega (arith, count-known.0)) count-known.1)) all-leaves)

  pub leaves-done : (leaves : List ℕ) → leaves ≡ leaves_of bytes statement n t → leaves_row 0 n leaves ≡ 0
  leaves-done leaves e = rw e (leaves-row 0 (omega arith))

  openings-length : length (openings_of bytes) ≡ length (leaves_of bytes statement n t) * opening_size n
  unfolding openings_of
  openings-length =
      let all = size-known in
      rw (leaves-count, length-drop) (omega arith)

  compare-done : compare_row (proof_edition bytes) n (leaves_of bytes statement n t) (length (openings_of bytes)) ≡ 0
  compare-done =
      sym
      (size-right (proof_edition bytes) n (leaves_of bytes statement n t) (length (openings_of bytes))
      (within 1 max_edition (proof_edition bytes) is_proof.exists) (leaves-row 1 (omega arith)) (omega (arith, openings-length))
      (omega (arith, openings-length)))

  pair-known : compared (proof_edition bytes) statement n (leaves_of bytes statement n t) (openings_of bytes) ≡ pair_of bytes statement n t
  unfolding pair_of
  pair-known = compared-done (proof_edition bytes) statement n (leaves_of bytes statement n t) (openings_of bytes) compare-done

  drawing-by :
      (list : ℕ)
      → drawing_of bytes statement n t list
      ≡ drawn_from (pair_of bytes statement n t) (length (chain n (leaves_of bytes statement n t))) list
  unfolding drawing_of
  drawing-by list = rw ok

  clash-by : (list : ℕ) → clash_pair (drawing_of bytes statement n t list) ≡ pair_of bytes statement n t
  clash-by list =
      ap clash_pair (drawing-by list)
      ∙ clash-pair (pair_of bytes statement n t) (length (chain n (leaves_of bytes statement n t))) list

  -- a clash that is drawn, and a chain or a list that is short
  abbrev clash-found : Option Pair → Option Clash
  clash-found o = clash_of (proof_edition bytes) statement n (leaves_of bytes statement n t) (openings_of bytes) o

  clash-answers : (list : List ℕ) (p : Pair) → pair_of bytes statement n t ≡ Some p → (clash : Clash) → Some clash ≡ clash-found (Some p)
      → Answers bytes statement n t list (Ok (a_clash clash)) list
  unfolding first_drawn second_drawn drawn_list
  clash-answers list p e clash f =
      let drawn : drawing_of bytes statement n t (length list) ≡ drawn_clash p.first p.second p.level =
      drawing-by (length list) ∙ ap (λ (o : Option Pair). drawn_from o (length (chain n (leaves_of bytes statement n t))) (length list)) e in
      let same : clash ≡ record {
        pair = p;
        first = first_input (proof_edition bytes) statement n (leaves_of bytes statement n t) (openings_of bytes) (Some p);
        second = second_input (proof_edition bytes) statement n (leaves_of bytes statement n t) (openings_of bytes) (Some p);
      } = cc in
      rw (same, drawn) (refl, ((refl, refl), refl))

  chain-answers : (list after leaves : List ℕ) (drawing : Result Drawing Rejection) → pair_of bytes statement n t ≡ None
      → IfOk drawing (HasInputs (first_drawn bytes statement n t (length list)) (second_drawn bytes statement n t (length list)))
      → leaves ≡ leaves_of bytes statement n t → DrawnFrom None n leaves list (drawing_answer drawing) after
      → Answers bytes statement n t list drawing after
  unfolding drawn_list
  chain-answers list after leaves drawing e i el d =
      let drawn : drawing_answer drawing ≡ drawing_of bytes statement n t (length list) =
      d.0 ∙ (λ k. drawn_from (sym e k) (length (chain n (el k))) (length list)) ∙ sym (drawing-by (length list)) in
      (drawn, (i, d.1 ∙ (λ k. list_after (drawn k) (chain_codes n (el k)) list)))

  -- what the comparison answers
  module _ (edition : ℕ) (leaves openings : List ℕ) (ee : edition ≡ proof_edition bytes) (el : leaves ≡ leaves_of bytes statement n t)
      (eo : openings ≡ openings_of bytes) where
    pub not_refused : (r : Refusal) → number_of r ≡ compare_row edition n leaves (length openings) → ⊥
    not_refused r e =
        let done : compare_row edition n leaves (length openings) ≡ 0 = (λ k. compare_row (ee k) n (el k) (length (eo k))) ∙ compare-done in
        omega (arith, e, done, number-some r)

    known : clash_of edition statement n leaves openings (compared edition statement n leaves openings) ≡ clash-found (pair_of bytes statement n t)
    known = (λ k. clash_of (ee k) statement n (el k) (eo k) (compared (ee k) statement n (el k) (eo k))) ∙ ap clash-found pair-known

    pub clash-drawn : (list : List ℕ) (clash : Clash)
        → Some clash ≡ clash_of edition statement n leaves openings (compared edition statement n leaves openings)
        → Answers bytes statement n t list (Ok (a_clash clash)) list
    clash-drawn list clash e = by (pair_of bytes statement n t) refl (e ∙ known)
      where
        by : (o : Option Pair) → pair_of bytes statement n t ≡ o → Some clash ≡ clash-found o → Answers bytes statement n t list (Ok (a_clash clash)) list
        by None p f = cc
        by (Some pair) p f = clash-answers list pair p clash f

    pub chain_or_short : (list after : List ℕ) (drawing : Result Drawing Rejection)
        → None ≡ clash_of edition statement n leaves openings (compared edition statement n leaves openings)
        → IfOk drawing (HasInputs (first_drawn bytes statement n t (length list)) (second_drawn bytes statement n t (length list)))
        → DrawnFrom None n leaves list (drawing_answer drawing) after
        → Answers bytes statement n t list drawing after
    chain_or_short list after drawing e i d = by (pair_of bytes statement n t) refl (e ∙ known)
      where
        by : (o : Option Pair) → pair_of bytes statement n t ≡ o → None ≡ clash-found o → Answers bytes statement n t list drawing after
        by None p f = chain-answers list after leaves drawing p i el d
        by (Some pair) p f = cc
