-- The first of the numbers that were read.
use mathlib.Core.Path.{◌≡◌, sym, ap, ◌∙◌}
use Prim.Native.Nat.{ℕ}
use native.Mathlib.Omega.{arith}
use mathlib.Core.Bool.{true, false}
use mathlib.Core.List.{List}
use Rattle.std.proofs.Common.{Some, None}
use lib.ListN.{length, get_or, take, length-take}
use lib.Seq.{get_or-take, take_all}
use borrow.Author.Tests.{eq-eqb, ne_eqb}
use Rattle.decimal.specs.Numbers.{max_numbers, numbers}
use Rattle.decimal.specs.Steps.{all_fit}
use Rattle.words.specs.Values.{is_plain, is_number, value_of}

module _ (word list : List ℕ) (count : ℕ) (plain : is_plain word ≡ true) (fit : all_fit false 0 word ≡ true)
    (first : take count list ≡ take max_numbers (numbers word)) (read : count ≡ length (take max_numbers (numbers word))) where
  pub not-one : (count ≡ 1 → ⊥) → None ≡ value_of word
  unfolding value_of is_number
  not-one h = rw (plain, fit, ne_eqb (length (numbers word)) 1 (λ e. h (read ∙ ap length (take_all max_numbers (numbers word) (omega arith)) ∙ e)))

  pub one : count ≡ 1 → Some (get_or list 0 0) ≡ value_of word
  unfolding value_of is_number
  one h =
      let few : length (numbers word) ≡ 1 = omega (arith, length-take max_numbers (numbers word)) in
      rw (plain, fit, eq-eqb (length (numbers word)) 1 few)
      (ap (λ (x : ℕ). Some x) (sym (get_or-take count list 0 0 (omega arith)) ∙ ap (λ (l : List ℕ). get_or l 0 0) first ∙ get_or-take max_numbers (numbers word) 0 0 (omega arith)))
