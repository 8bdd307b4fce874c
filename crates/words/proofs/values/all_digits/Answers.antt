-- `words::values::all_digits` meets its contract.
use Rattle.std.proofs.Common.{◌≡◌, ℕ, Bool, true, false, List, [], ◌∷◌, ◌&&◌, refl, ◌∙◌, rules, tests}
use Rattle.std.specs.Char.{is_ascii_digit}
use Rattle.std.specs.List.{list_all}
use Rattle.std.proofs.lemmas.Iterator.{YieldsList-from_slice}
use Rattle.std.proofs.lemmas.Iterator.Search.{all_from_yields_List}
use Rattle.base.specs.Choice.{every, both}
use Rattle.decimal.specs.Numbers.{is_digit}
use Rattle.words.proofs.values.all_digits.Goals as goal

-- std's digits are the definition's
all-every : (word : List ℕ) → list_all is_ascii_digit word ≡ every is_digit word
unfolding every
all-every [] = refl
all-every (b ∷ word) = joined (is_digit b) (all-every word)
  where
    joined : {p q : Bool} (t : Bool) → p ≡ q → (t && p) ≡ both t q
    joined true e = e
    joined false e = refl

pub returns : goal.returns
returns c =
    all_from_yields_List is_ascii_digit _ _ _ c.all.ensures.ran (YieldsList-from_slice c.args.word.now cc) (λ x b q k. search (rules, tests))
    ∙ all-every c.args.word.now
