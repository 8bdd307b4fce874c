-- The places of an option and of the operands fit 64 bits.
use Rattle.std.proofs.Common.{◌≡◌, ℕ, ◌-◌, ◌^◌, ◌≤◌, ◌<◌, Bool, true, false, List, Option, Some, None, arith}
use lib.Dec.{leb}
use Rattle.base.specs.Choice.{pick}
use Rattle.base.specs.Lists.{same_bytes}
use Rattle.decimal.specs.Ascii.{ascii}
use Rattle.words.specs.Parting.{word_at}
use Rattle.words.specs.declared.Kind.{Kind}
use Rattle.words.specs.declared.Kind.TheVariants.{Seal, Verify, Chain, Info, Help, Version}
use Rattle.words.specs.declared.Parts.{Parts}
use Rattle.words.specs.Parts.{place_of, option_of, option_size, first_after, parts_with, OptionPlaced, Placed}

size_small : (kind : Option Kind) (option : Option ℕ) → option_size kind option ≤ 3
size_small kind option = grind arith

place_room : (name : List ℕ) (size : ℕ) (line : List ℕ) (all : ℕ) → 2 ≤ size → all < 2 ^ 64 → OptionPlaced (place_of name size line all)
unfolding place_of
place_room name size line all h k = go (leb all size) (same_bytes (word_at 1 line) name) (same_bytes (word_at (all - size) line) name)
  where
    go : (a b c : Bool) → OptionPlaced (pick a None (pick b (Some 1) (pick c (Some (all - size)) None)))
    go true b c = tt
    go false true c = omega arith
    go false false true = omega arith
    go false false false = tt

pub option_room : (kind : Option Kind) (line : List ℕ) (all : ℕ) → all < 2 ^ 64 → OptionPlaced (option_of kind line all)
option_room None line all k = tt
option_room (Some Seal) line all k = place_room (ascii "--every") 2 line all (omega arith) k
option_room (Some Verify) line all k = place_room (ascii "--at-least") 3 line all (omega arith) k
option_room (Some Chain) line all k = tt
option_room (Some Info) line all k = tt
option_room (Some Help) line all k = tt
option_room (Some Version) line all k = tt

first_small : (kind : Option Kind) (option : Option ℕ) → first_after option (option_size kind option) ≤ 4
first_small kind option = grind (arith, size_small)

pub parts_placed : (p : Parts) (kind : Option Kind) (line : List ℕ) (all : ℕ) → p ≡ parts_with kind all (option_of kind line all) → all < 2 ^ 64 → Placed p
unfolding parts_with
parts_placed p kind line all e h = rw e (first_small kind (option_of kind line all), option_room kind line all h)
