-- `words::parting::word` meets its contract.
use Rattle.std.proofs.Common.{◌≡◌, ℕ, List, [], eqb, refl, sym, rules, tests, Option, Some, None}
use Rattle.std.specs.Option.{unwrap_or, option_map}
use Rattle.std.proofs.lemmas.Iterator.Consumers.{nth_from_yields_List}
use Rattle.std.proofs.lemmas.Iterator.Splits.{YieldsList-from_slice_split}
use denote.Ref.{Bor}
use Rattle.words.specs.Parting.{word_at}
use Rattle.words.proofs.parting.word.Goals as goal

-- what the reference shows, by what the option shows
shown :
    (o : Option (Bor (List ℕ))) (r d : Bor (List ℕ)) (w : Option (List ℕ))
    → r ≡ unwrap_or o d → d.now ≡ [] → option_map (λ x. x.now) o ≡ w → r.now ≡ unwrap_or w []
shown None r d w e n p = rw (e, n, sym p)
shown (Some x) r d w e n p = rw (e, sym p)

pub returns : goal.returns
unfolding word_at
returns c =
    shown c.nth.result c.unwrap_or.result _ _ c.unwrap_or.ensures refl
    (nth_from_yields_List c.nth.result c.nth.new.self c.args.i c.nth.ensures.ran
    (YieldsList-from_slice_split _ (λ b. eqb b 0) c.args.line.now c.split.ensures.rest c.split.ensures.done c.split.ensures.closure
    (λ x b q k. search (rules, tests))))
