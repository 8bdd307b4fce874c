-- Laws of laying a number's groups.
use mathlib.Core.Path.{◌≡◌, sym, ap, ◌∙◌}
use mathlib.Core.List.{List, ◌++◌, append_assoc}
use Prim.Native.Nat.{ℕ, suc, ◌+◌, ◌/◌, ◌%◌, ◌≤◌, ◌<◌}
use native.Mathlib.Numerals.{add-one}
use lib.ListN.{length, take, set}
use lib.Seq.{take-suc-set, length-take-le}
use Rattle.groups.specs.Groups.{groups, groups_of}
use Rattle.groups.proofs.Steps.{groups-last, groups-more}

-- laying a number's groups: one more, and the last
module _ (bytes : List ℕ) (i rest value : ℕ) (within : i < length bytes) where
  pub laid_more :
      (left next : ℕ) → left ≡ suc next → 128 ≤ rest → take i bytes ++ groups left rest ≡ groups_of value
      → take (i + 1) (set bytes i (128 + rest % 128)) ++ groups next (rest / 128) ≡ groups_of value
  laid_more left next n h e = rw (add-one i, take-suc-set bytes i (128 + rest % 128) within, append_assoc) (rw (n, groups-more next rest h) at e)

  pub laid-last :
      (left next : ℕ) → left ≡ suc next → rest < 128 → take i bytes ++ groups left rest ≡ groups_of value
      → take (i + 1) (set bytes i rest) ≡ groups_of value
  laid-last left next n h e = rw (add-one i, take-suc-set bytes i rest within) (rw (n, groups-last next rest h) at e)

-- as many bytes as were taken
pub taken-count : (bytes part : List ℕ) (n : ℕ) → n ≤ length bytes → take n bytes ≡ part → n ≡ length part
taken-count bytes part n h e = sym (length-take-le n bytes h) ∙ ap length e
