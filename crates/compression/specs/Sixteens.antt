-- Sixteen rounds, and sixteen words of the message schedule, at a time.
use Rattle.std.specs.Prelude.{◌≡◌, ℕ, zero, suc, ◌+◌, List, slice_index}
use Rattle.compression.specs.declared.Words.{Words}
use Rattle.compression.specs.Constants.{constant}
use Rattle.compression.specs.Compression.{scheduled, round}

-- the k rounds from t on, the first innermost: w holds their words
abbrev pub rounds_from : ℕ → List ℕ → ℕ → Words → Words
rounds_from t w zero v = v
rounds_from t w (suc k) v = round (constant (t + k)) (slice_index w k) (rounds_from t w k v)

unfoldable pub sixteen_rounds : ℕ → List ℕ → Words → Words
sixteen_rounds t w v = rounds_from t w 16 v

-- 6.2.2, step 1: x holds the sixteen words of the schedule after the sixteen of w
pub record Follows (w x : List ℕ) : Type 0 where
  pub w0 : slice_index x 0 ≡ scheduled (slice_index w 14) (slice_index w 9) (slice_index w 1) (slice_index w 0)
  pub w1 : slice_index x 1 ≡ scheduled (slice_index w 15) (slice_index w 10) (slice_index w 2) (slice_index w 1)
  pub w2 : slice_index x 2 ≡ scheduled (slice_index x 0) (slice_index w 11) (slice_index w 3) (slice_index w 2)
  pub w3 : slice_index x 3 ≡ scheduled (slice_index x 1) (slice_index w 12) (slice_index w 4) (slice_index w 3)
  pub w4 : slice_index x 4 ≡ scheduled (slice_index x 2) (slice_index w 13) (slice_index w 5) (slice_index w 4)
  pub w5 : slice_index x 5 ≡ scheduled (slice_index x 3) (slice_index w 14) (slice_index w 6) (slice_index w 5)
  pub w6 : slice_index x 6 ≡ scheduled (slice_index x 4) (slice_index w 15) (slice_index w 7) (slice_index w 6)
  pub w7 : slice_index x 7 ≡ scheduled (slice_index x 5) (slice_index x 0) (slice_index w 8) (slice_index w 7)
  pub w8 : slice_index x 8 ≡ scheduled (slice_index x 6) (slice_index x 1) (slice_index w 9) (slice_index w 8)
  pub w9 : slice_index x 9 ≡ scheduled (slice_index x 7) (slice_index x 2) (slice_index w 10) (slice_index w 9)
  pub w10 : slice_index x 10 ≡ scheduled (slice_index x 8) (slice_index x 3) (slice_index w 11) (slice_index w 10)
  pub w11 : slice_index x 11 ≡ scheduled (slice_index x 9) (slice_index x 4) (slice_index w 12) (slice_index w 11)
  pub w12 : slice_index x 12 ≡ scheduled (slice_index x 10) (slice_index x 5) (slice_index w 13) (slice_index w 12)
  pub w13 : slice_index x 13 ≡ scheduled (slice_index x 11) (slice_index x 6) (slice_index w 14) (slice_index w 13)
  pub w14 : slice_index x 14 ≡ scheduled (slice_index x 12) (slice_index x 7) (slice_index w 15) (slice_index w 14)
  pub w15 : slice_index x 15 ≡ scheduled (slice_index x 13) (slice_index x 8) (slice_index x 0) (slice_index w 15)
