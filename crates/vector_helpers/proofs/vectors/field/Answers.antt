-- `vector_helpers::vectors::field` meets its contract.
use Rattle.std.proofs.Common.{◌≡◌, Option, Some, None, unwrap_or, [], refl, ap, ◌∙◌, eqb, rules, tests}
use Rattle.std.specs.Option.{option_map}
use Rattle.std.proofs.lemmas.Iterator.Splits.{YieldsList-from_slice_split}
use Rattle.std.proofs.lemmas.Iterator.Consumers.{nth_from_yields_List}
use Rattle.vector_helpers.specs.Text.{field_of}
use Rattle.vector_helpers.proofs.vectors.field.Goals as goal

unwrap_or-map : {A B : Type 0} (v : A → B) (r : Option A) (d : A) → v (unwrap_or r d) ≡ unwrap_or (option_map v r) (v d)
unwrap_or-map v None d = refl
unwrap_or-map v (Some x) d = refl

pub returns : goal.returns
unfolding field_of
returns c =
    let split = c.split.ensures in
    let e = nth_from_yields_List c.nth.result _ c.args.number c.nth.ensures.ran
    (YieldsList-from_slice_split _ (λ b. eqb b 32) c.args.line.now split.rest split.done split.closure
    (λ x b q k. search (rules, tests))) in
    ap (λ x. x.now) c.unwrap_or.ensures ∙ unwrap_or-map (λ x. x.now) c.nth.result _ ∙ ap (λ o. unwrap_or o []) e
