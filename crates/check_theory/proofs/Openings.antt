-- The check of a file's openings, one after the other: it accepts just when each row is done.
use mathlib.Core.Path.{◌≡◌, refl}
use mathlib.Core.Logic.{⊎_elim}
use Prim.Native.Nat.{ℕ, zero, suc, ◌+◌, ◌≤◌, ◌<◌}
use native.Mathlib.Omega.{arith}
use mathlib.Core.List.{List}
use Rattle.base.proofs.ChoiceLaws.{lt-or-le}
use Rattle.file_head.specs.Challenge.{challenge_leaf}
use Rattle.file_head.specs.Head.{statement_at, root_at, opening_at}
use Rattle.opening_check.specs.OpeningCheck.{right_row}
use Rattle.proof_file.specs.FileCheck.{opened, openings_from}

opened-done : (row i next : ℕ) → opened row i next ≡ 0 → (row ≡ 0) × (next ≡ 0)
opened-done zero i next e = (refl, e)
opened-done (suc row) i next e = absurd (omega arith)

module _ (edition : ℕ) (bytes : List ℕ) (n at : ℕ) where
  -- the row of opening i
  abbrev pub row_of : ℕ → ℕ
  row_of i =
      right_row
      edition
      (statement_at bytes at)
      n
      (challenge_leaf edition n (statement_at bytes at) (root_at bytes at) i)
      (root_at bytes at)
      (opening_at bytes n at i)

  pub accepted-rows : (i left : ℕ) → openings_from edition bytes n at i left ≡ 0 → (k : ℕ) → i ≤ k → k < i + left → row_of k ≡ 0
  unfolding openings_from
  accepted-rows i zero e k low high = absurd (omega arith)
  accepted-rows i (suc left) e k low high =
      let here : (row_of i ≡ 0) × (openings_from edition bytes n at (i + 1) left ≡ 0) =
      opened-done (row_of i) i (openings_from edition bytes n at (i + 1) left) e in
      ⊎_elim
      (λ after. accepted-rows (i + 1) left here.1 k (omega arith) (omega arith))
      (λ first. let same : k ≡ i = omega arith in rw same here.0)
      (lt-or-le i k)

  pub rows-accepted : (i left : ℕ) → ((k : ℕ) → i ≤ k → k < i + left → row_of k ≡ 0) → openings_from edition bytes n at i left ≡ 0
  unfolding openings_from
  rows-accepted i zero rows = refl
  rows-accepted i (suc left) rows =
      rw (rows i (omega arith) (omega arith)) (rows-accepted (i + 1) left (λ k low high. rows k (omega arith) (omega arith)))
