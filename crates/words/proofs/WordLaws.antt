-- A word joined to a line.
use mathlib.Core.Path.{◌≡◌, ap, sym, ◌∙◌}
use Prim.Native.Nat.{ℕ, ◌+◌, ◌≤◌, ◌<◌}
use native.Mathlib.Omega.{arith}
use mathlib.Core.List.{List, [], ◌∷◌}
use lib.ListN.{length, set, length-append}
use borrow.Author.Tests.{lt-ltb, le-ltb}
use Rattle.base.specs.Bytes.{written}
use Rattle.base.proofs.Copying.{length-written}
use Rattle.base.proofs.WrittenLaws.{written_none}
use Rattle.decimal.specs.Steps.{Wrote}
use Rattle.decimal.proofs.Laying.{then, one_byte}
use Rattle.words.specs.Parting.{ended_word}

module _ (line word : List ℕ) (at : ℕ) where
  pub joins-none : length line ≤ at + length word → Wrote line at (ended_word (length line) at word) line at
  unfolding ended_word
  joins-none h =
      rw (le-ltb (at + length word) (length line) h)
      (record { out = sym (written_none line at); next = omega arith })

  pub joins-one :
      (e f : List ℕ) (m k : ℕ) → at + length word < length line → e ≡ written line at word → m ≡ at + length word → f ≡ set e m 0
      → k ≡ m + 1
      → Wrote line at (ended_word (length line) at word) f k
  unfolding ended_word
  joins-one e f m k h p q r s =
      let room : m < length e = omega (arith, ap length p ∙ length-written line at word (omega arith)) in
      rw (lt-ltb (at + length word) (length line) h, r, s)
      (then (record { out = p; next = q }) (one_byte e m 0 room) (omega (arith, length-append word (0 ∷ []))))
