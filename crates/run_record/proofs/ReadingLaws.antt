-- Laws of reading a record: what is answered, by the numbers and the length.
use mathlib.Core.Path.{◌≡◌, refl}
use mathlib.Core.List.{List, []}
use Prim.Native.Nat.{ℕ, ◌+◌, ◌-◌, ◌≤◌}
use borrow.Author.Tests.{eqb-true, not-false}
use lib.Dec.{eqb, lit≤}
use lib.ListN.{length, take, drop}
use Rattle.base.specs.Limits.{held_size}
use Rattle.base.specs.Bytes.{zeros, written}
use Rattle.base.proofs.Parts.{part-rest}
use Rattle.base.proofs.RowLaws.{passed}
use Rattle.base.proofs.Zeros.{written-zeros}
use Rattle.run.specs.Steps.{run_of}
use Rattle.run.proofs.RowLaws.{Possible, possible}
use Rattle.run_record.specs.Layout.{no_such_run}
use Rattle.run_record.specs.Reading.{length_from, rest_row, run_from}

-- ---- 4, then 18
module _ (edition n m made at len : ℕ) where
  -- what is known of numbers that pass
  pub record Fits : Type 0 where
    pub possible : Possible edition n m made
    pub size : len ≡ length_from n made at

  pub fits : rest_row edition n m made at len ≡ 0 → Fits
  unfolding rest_row
  fits e =
      let (a, f) = passed (no_such_run edition n m made) 4 _ (lit≤ tt) e in
      let (b, g) = passed _ 18 0 (lit≤ tt) f in
      record {
        possible = possible edition n m made a;
        size = eqb-true len (length_from n made at) (not-false (eqb len (length_from n made at)) b);
      }

-- the labels over an array of zeros
pub places-filled : (bytes statement places : List ℕ) (edition n m made at : ℕ) → length (drop (at + 32) bytes) ≤ held_size
    → statement ≡ take 32 (drop at bytes) → places ≡ written (zeros held_size) 0 (take (length bytes - (at + 32)) (drop (at + 32) bytes))
    → run_of edition statement n m made places ≡ run_from bytes edition n m made at
unfolding run_from
places-filled bytes statement places edition n m made at fits s p =
    let whole : places ≡ written (zeros held_size) 0 (drop (at + 32) bytes) = rw (part-rest bytes (at + 32)) at p in
    rw (s, whole, written-zeros [] (drop (at + 32) bytes) held_size 0 refl fits)
