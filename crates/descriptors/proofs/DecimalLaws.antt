-- The number that a text begins with, a byte at a time.
use mathlib.Core.Path.{◌≡◌}
use mathlib.Core.Bool.{true, false}
use mathlib.Core.List.{List}
use Prim.Native.Nat.{ℕ, ◌+◌, ◌-◌, ◌*◌, ◌<◌, ◌≤◌}
use native.Mathlib.Numerals.{add-one}
use lib.Dec.{ltb}
use lib.ListN.{length, get_or, drop, drop_of_length-le}
use lib.Seq.{drop-cons}
use borrow.Author.Tests.{lt-ltb, le-ltb}
use Rattle.base.specs.Choice.{pick, both}
use Rattle.std.specs.Char.{is_ascii_digit}
use Rattle.descriptors.specs.Decimal.{number_after}

module _ (value i : ℕ) (text : List ℕ) where
  pub at-end : length text ≤ i → number_after value (drop i text) ≡ value
  unfolding number_after
  at-end h = rw (drop_of_length-le text h)

  module _ (h : i < length text) where
    turn : number_after value (drop i text)
        ≡ pick (both (is_ascii_digit (get_or text i 0)) (ltb value 1000000000000000000))
        (number_after (10 * value + (get_or text i 0 - 48)) (drop (i + 1) text))
        value
    unfolding number_after
    turn = rw (add-one i, drop-cons text i 0 h)

    pub digit-on :
        true ≡ is_ascii_digit (get_or text i 0) → value < 1000000000000000000
        → number_after (10 * value + (get_or text i 0 - 48)) (drop (i + 1) text) ≡ number_after value (drop i text)
    digit-on digit room = rw (turn, ← digit, lt-ltb value 1000000000000000000 room)

    pub no-digit : false ≡ is_ascii_digit (get_or text i 0) → number_after value (drop i text) ≡ value
    no-digit other = rw (turn, ← other)

    pub no-room : true ≡ is_ascii_digit (get_or text i 0) → 1000000000000000000 ≤ value → number_after value (drop i text) ≡ value
    no-room digit full = rw (turn, ← digit, le-ltb value 1000000000000000000 full)
