-- A clash as C is told of it: by its pair and its inputs, and all zero where there is none.
use mathlib.Core.Path.{◌≡◌, refl}
use mathlib.Core.Bool.{false}
use mathlib.Core.List.{List}
use Prim.Native.Nat.{ℕ}
use lib.ListN.{length}
use Rattle.std.specs.Prelude.{Option, Some, None, IfNone, IfSome}
use Rattle.base.specs.Bytes.{zeros}
use Rattle.base.specs.Row.{is_done}
use Rattle.compare.specs.declared.Pair.{Pair}
use Rattle.compare.specs.declared.Clash as found
use Rattle.compare.specs.Comparison.{compare_row, compared, clash_of, first_input, second_input}
use Rattle.draw.specs.Drawing.{DrawingAnswer, drawing_of, first_drawn, second_drawn, clash_pair}
use Rattle.capi.specs.declared.chains.Clash.{Clash}
use Rattle.capi.specs.Answers.{first_of, second_of, level_of}

abbrev pub no_clash : Clash
no_clash = record { i = 0; j = 0; level = 0; first = zeros 105; second = zeros 105; zero = zeros 6 }

abbrev pub as_told : found.Clash → Clash
as_told c =
    record { i = c.pair.first; j = c.pair.second; level = c.pair.level; first = c.first; second = c.second; zero = zeros 6 }

-- the fields of what is told
pub record Tells (r : Clash) (pair : Option Pair) (first second : List ℕ) : Type 0 where
  pub i : r.i ≡ first_of pair
  pub j : r.j ≡ second_of pair
  pub level : r.level ≡ level_of pair
  pub first_input : r.first ≡ first
  pub second_input : r.second ≡ second

module _ (edition : ℕ) (statement : List ℕ) (n : ℕ) (leaves openings : List ℕ) where
  pub tells : (pair : Option Pair) (r : Clash) (f : Option found.Clash) → f ≡ clash_of edition statement n leaves openings pair
      → IfNone f (r ≡ no_clash) → IfSome f (λ c. r ≡ as_told c)
      → Tells r pair (first_input edition statement n leaves openings pair) (second_input edition statement n leaves openings pair)
  tells None r f e none some = fields r none-is
    where
      none-is : r ≡ no_clash
      none-is = rw e at none

      fields : (r : Clash) → r ≡ no_clash → Tells r None (zeros 105) (zeros 105)
      fields r e = rw e (record { i = refl; j = refl; level = refl; first_input = refl; second_input = refl })
  tells (Some pair) r f e none some = fields r some-is
    where
      some-is : r ≡ as_told (record {
        pair = pair;
        first = first_input edition statement n leaves openings (Some pair);
        second = second_input edition statement n leaves openings (Some pair);
      })
      some-is = rw e at some

      fields : (r : Clash) → r ≡ as_told (record {
        pair = pair;
        first = first_input edition statement n leaves openings (Some pair);
        second = second_input edition statement n leaves openings (Some pair);
      }) → Tells r (Some pair) (first_input edition statement n leaves openings (Some pair)) (second_input edition statement n leaves openings (Some pair))
      fields r e = rw e (record { i = refl; j = refl; level = refl; first_input = refl; second_input = refl })

  pub none-compared : is_done (compare_row edition n leaves (length openings)) ≡ false
      → None ≡ clash_of edition statement n leaves openings (compared edition statement n leaves openings)
  unfolding compared
  none-compared e = rw e

-- a drawing with no clash has no inputs
module _ (bytes statement : List ℕ) (n t list : ℕ) (d : DrawingAnswer) (is : d ≡ drawing_of bytes statement n t list) (none : clash_pair d ≡ None) where
  pub no-first : zeros 105 ≡ first_drawn bytes statement n t list
  unfolding first_drawn
  no-first = rw (← is, none)

  pub no-second : zeros 105 ≡ second_drawn bytes statement n t list
  unfolding second_drawn
  no-second = rw (← is, none)
