-- The three answers of a drawing, each by what gives it, and the planning row of an accepted proof's leaves.
use mathlib.Core.Path.{◌≡◌, refl, ◌∙◌}
use mathlib.Core.Logic.{◌⊎◌, inl, inr, ⊎_elim}
use Prim.Native.Nat.{ℕ, zero, suc, ◌≤◌, ◌<◌}
use native.Mathlib.Omega.{arith}
use mathlib.Core.Bool.{Bool, true, false}
use mathlib.Core.List.{List}
use lib.Dec.{ltb}
use lib.ListN.{length}
use borrow.Author.Tests.{ltb-true, ltb-false, lt-ltb, le-ltb}
use Rattle.base.specs.Choice.{pick}
use Rattle.base.specs.Limits.{max_depth, max_challenges}
use Rattle.base.proofs.RowLaws.{some-refused}
use Rattle.base.proofs.ChoiceLaws.{lt-or-le}
use Rattle.chain.specs.PlanRow.{plan_row, planned_count, planned_list}
use Rattle.proof_file.specs.FileCheck.{found_in, file_check}
use Rattle.check_theory.specs.IsProof.{IsProof}
use Rattle.base.specs.Row.{outside}
use Rattle.base.proofs.Ranges.{in-range, within}
use Rattle.compare.specs.declared.Pair.{Pair}
use Rattle.std.specs.Prelude.{Option, Some, None}
use Rattle.compare.specs.FirstPair.{disagree_at_level}
use Rattle.draw.specs.Drawing.{proof_edition, not_drawn, drawn_chain, drawn_clash, leaves_of, pair_of, drawn_from, drawn_if, drawing_of, drawn_list}
use Rattle.draw_theory.specs.Demand3.{NoneDisagree, SomeDisagree, drawn_nodes, AsPlanned}
use Rattle.draw_theory.proofs.Openings.{leaves-length, agree-none, disagree-first, first_some, some-none, all-inside}

-- ---- from an answer back
module _ (list count : ℕ) where
  chain-from :
      (b : Bool) → ltb list count ≡ b → (x : ℕ) → pick b (not_drawn (found_in 0 16)) (drawn_chain count) ≡ drawn_chain x
      → (count ≤ list) × (x ≡ count)
  chain-from true e x d = absurd (let no : ◌≡◌ {A = ℕ} 0 1 = cc in omega arith)
  chain-from false e x d = (ltb-false list count e, cc)

  short-from :
      (b : Bool) → ltb list count ≡ b → (code : ℕ) → pick b (not_drawn (found_in 0 16)) (drawn_chain count) ≡ not_drawn code →
      (list < count) × (code ≡ found_in 0 16)
  short-from true e code d = (ltb-true list count e, cc)
  short-from false e code d = absurd (let no : ◌≡◌ {A = ℕ} 0 1 = cc in omega arith)

  no-clash : (b : Bool) (i j l : ℕ) → pick b (not_drawn (found_in 0 16)) (drawn_chain count) ≡ drawn_clash i j l → ⊥
  no-clash true i j l d = let no : ◌≡◌ {A = ℕ} 0 1 = cc in omega arith
  no-clash false i j l d = let no : ◌≡◌ {A = ℕ} 0 1 = cc in omega arith

  from-chain : (c : ℕ) (q : Option Pair) (x : ℕ) → drawn_if c (drawn_from q count list) ≡ drawn_chain x → (c ≡ 0) × (q ≡ None) × (count ≤ list) × (x ≡ count)
  from-chain (suc c) q x d = absurd (let no : ◌≡◌ {A = ℕ} 0 1 = cc in omega arith)
  from-chain zero (Some pair) x d = absurd (let no : ◌≡◌ {A = ℕ} 0 1 = cc in omega arith)
  from-chain zero None x d = let found = chain-from (ltb list count) refl x d in (refl, refl, found.0, found.1)

  from-clash : (c : ℕ) (q : Option Pair) (i j l : ℕ) → drawn_if c (drawn_from q count list) ≡ drawn_clash i j l → (c ≡ 0) × (q ≡ disagree_at_level i j l)
  from-clash (suc c) q i j l d = absurd (let no : ◌≡◌ {A = ℕ} 0 1 = cc in omega arith)
  from-clash zero (Some pair) i j l d =
      let first : pair.first ≡ i = cc in
      let second : pair.second ≡ j = cc in
      let level : pair.level ≡ l = cc in
      (refl, λ k. disagree_at_level (first k) (second k) (level k))
  from-clash zero None i j l d = absurd (no-clash (ltb list count) i j l d)

  from-refusal :
      (c : ℕ) (q : Option Pair) (code : ℕ) → drawn_if c (drawn_from q count list) ≡ not_drawn code →
      ((c ≡ code) × (1 ≤ code)) ⊎ ((c ≡ 0) × (q ≡ None) × (list < count) × (code ≡ found_in 0 16))
  from-refusal (suc c) q code d = let same : suc c ≡ code = cc in inl (same, omega arith)
  from-refusal zero (Some pair) code d = absurd (let no : ◌≡◌ {A = ℕ} 0 1 = cc in omega arith)
  from-refusal zero None code d = let found = short-from (ltb list count) refl code d in inr (refl, refl, found.0, found.1)

module _ (bytes statement : List ℕ) (n t : ℕ) where
  -- ---- the pair
  pub none-agree : NoneDisagree bytes statement n t → pair_of bytes statement n t ≡ None
  none-agree none = go (pair_of bytes statement n t) refl
    where
      go : (q : Option Pair) → pair_of bytes statement n t ≡ q → pair_of bytes statement n t ≡ None
      go None e = e
      go (Some pair) e =
          absurd (some-none bytes statement n t (first_some bytes statement n t pair.first pair.second pair.level (disagree-first bytes statement n t pair.first pair.second pair.level e)) none)

  pub some_pair : SomeDisagree bytes statement n t → (i : ℕ) × (j : ℕ) × (l : ℕ) × (pair_of bytes statement n t ≡ disagree_at_level i j l)
  some_pair s = go (pair_of bytes statement n t) refl
    where
      go : (q : Option Pair) → pair_of bytes statement n t ≡ q → (i : ℕ) × (j : ℕ) × (l : ℕ) × (pair_of bytes statement n t ≡ disagree_at_level i j l)
      go None e = absurd (some-none bytes statement n t s (agree-none bytes statement n t e))
      go (Some pair) e = (pair.first, pair.second, pair.level, e)

  -- ---- the answers
  module _ (list : ℕ) where
    pub chain-given :
        (count : ℕ) → drawing_of bytes statement n t list ≡ drawn_chain count →
        (file_check bytes statement n t ≡ 0)
        × (pair_of bytes statement n t ≡ None)
        × (length (drawn_nodes bytes statement n t) ≤ list)
        × (count ≡ length (drawn_nodes bytes statement n t))
    unfolding drawing_of
    chain-given count d =
        from-chain list (length (drawn_nodes bytes statement n t)) (file_check bytes statement n t) (pair_of bytes statement n t)
        count d

    pub given-chain :
        file_check bytes statement n t ≡ 0 → pair_of bytes statement n t ≡ None → length (drawn_nodes bytes statement n t) ≤ list →
        drawing_of bytes statement n t list ≡ drawn_chain (length (drawn_nodes bytes statement n t))
    unfolding drawing_of
    given-chain a b fits = rw (a, b, le-ltb list (length (drawn_nodes bytes statement n t)) fits)

    pub clash-given :
        (i j l : ℕ) → drawing_of bytes statement n t list ≡ drawn_clash i j l →
        (file_check bytes statement n t ≡ 0) × (pair_of bytes statement n t ≡ disagree_at_level i j l)
    unfolding drawing_of
    clash-given i j l d =
        from-clash list (length (drawn_nodes bytes statement n t)) (file_check bytes statement n t) (pair_of bytes statement n t) i j
        l d

    pub given-clash :
        (i j l : ℕ) → file_check bytes statement n t ≡ 0 → pair_of bytes statement n t ≡ disagree_at_level i j l →
        drawing_of bytes statement n t list ≡ drawn_clash i j l
    unfolding drawing_of
    given-clash i j l a b = rw (a, b)

    pub refusal-given :
        (code : ℕ) → drawing_of bytes statement n t list ≡ not_drawn code →
        ((file_check bytes statement n t ≡ code) × (1 ≤ code))
        ⊎ ((file_check bytes statement n t ≡ 0)
        × (pair_of bytes statement n t ≡ None)
        × (list < length (drawn_nodes bytes statement n t))
        × (code ≡ found_in 0 16))
    unfolding drawing_of
    refusal-given code d =
        from-refusal list (length (drawn_nodes bytes statement n t)) (file_check bytes statement n t) (pair_of bytes statement n t)
        code d

    pub given-refusal : (code : ℕ) → file_check bytes statement n t ≡ code → 1 ≤ code → drawing_of bytes statement n t list ≡ not_drawn code
    unfolding drawing_of
    given-refusal code a some = rw (a, some-refused code some)

    pub given-short :
        file_check bytes statement n t ≡ 0 → pair_of bytes statement n t ≡ None → list < length (drawn_nodes bytes statement n t) →
        drawing_of bytes statement n t list ≡ not_drawn (found_in 0 16)
    unfolding drawing_of
    given-short a b short = rw (a, b, lt-ltb list (length (drawn_nodes bytes statement n t)) short)

  -- ---- planning from the leaves
  module _ (p : IsProof (proof_edition bytes) bytes statement n t) where
    few-leaves : outside 0 max_challenges (length (leaves_of bytes statement n t)) ≡ false
    few-leaves = rw (leaves-length bytes statement n t) (in-range 0 max_challenges t (omega arith) p.count.1)

    row_of :
        (list : ℕ) →
        plan_row n (leaves_of bytes statement n t) list ≡
        pick (ltb list (length (drawn_nodes bytes statement n t))) 16 0
    unfolding plan_row
    row_of list = simp (within 1 max_depth n p.depth, few-leaves, all-inside bytes statement n t p)

    module _ (a : file_check bytes statement n t ≡ 0) (b : pair_of bytes statement n t ≡ None) (list : List ℕ) where
      planned-short : length list < length (drawn_nodes bytes statement n t) → AsPlanned bytes statement n t list
      unfolding drawn_list planned_list planned_count
      planned-short short =
          let drawn : drawing_of bytes statement n t (length list) ≡ not_drawn (found_in 0 16) = given-short (length list) a b short in
          let row : plan_row n (leaves_of bytes statement n t) (length list) ≡ 16 =
          row_of (length list) ∙ rw (lt-ltb (length list) (length (drawn_nodes bytes statement n t)) short) in
          record { answer = rw (drawn, row); after = rw (drawn, row) }

      planned-chain : length (drawn_nodes bytes statement n t) ≤ length list → AsPlanned bytes statement n t list
      unfolding drawn_list planned_list planned_count
      planned-chain fits =
          let drawn : drawing_of bytes statement n t (length list) ≡ drawn_chain (length (drawn_nodes bytes statement n t)) =
          given-chain (length list) a b fits in
          let row : plan_row n (leaves_of bytes statement n t) (length list) ≡ 0 =
          row_of (length list) ∙ rw (le-ltb (length list) (length (drawn_nodes bytes statement n t)) fits) in
          record { answer = rw (drawn, row); after = rw (drawn, row) }

      pub as-planned : AsPlanned bytes statement n t list
      as-planned = ⊎_elim planned-short planned-chain (lt-or-le (length list) (length (drawn_nodes bytes statement n t)))
