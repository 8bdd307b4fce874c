-- `draw::whole::draw_accepted` meets its contract: an accepted file is a proof, so its leaves and openings pass every check that
-- follows.
use Prim.Native.Nat.{ℕ}
use mathlib.Core.Path.{refl, sym, ◌∙◌}
use native.Mathlib.Omega.{arith}
use Rattle.std.proofs.lemmas.Result.{err_from_is_err_and}
use Rattle.draw.proofs.AcceptedFile.{no_refusal, edition-read, size-read, leaves-read, openings-read, leaves-done, not_refused, clash-drawn, chain_or_short}
use Rattle.draw.proofs.Chains.{chain-refused, chain-drawn}
use Rattle.draw.specs.declared.Drawing.TheVariants.{Chain}
use Rattle.std.specs.Prelude.{Ok, Err}
use Rattle.draw.proofs.whole.draw_accepted.Goals as goal

pub returns-in_err-head : goal.returns-in_err-head
returns-in_err-head c =
    absurd (no_refusal c.args.file.now c.args.statement c.args.depth c.args.count (λ j. (c.type_inv.file j).fits) c.requires c.in_err-head.field-0.0 c.in_err-head.ensures)

pub opened_leaves-leaves-requires-clause-whole : goal.opened_leaves-leaves-requires-clause-whole
opened_leaves-leaves-requires-clause-whole c =
    size-read c.args.file.now c.args.statement c.args.depth c.args.count (λ j. (c.type_inv.file j).fits) c.requires _ _ _ _ c.in_ok-head.ensures

pub slice_bounds-compare-count : goal.slice_bounds-compare-count
slice_bounds-compare-count c =
    omega (arith, size-read c.args.file.now c.args.statement c.args.depth c.args.count (λ j. (c.type_inv.file j).fits) c.requires _ _ _ _ c.in_ok-head.ensures)

pub slice_bounds-compare-start : goal.slice_bounds-compare-start
slice_bounds-compare-start c =
    omega (arith, size-read c.args.file.now c.args.statement c.args.depth c.args.count (λ j. (c.type_inv.file j).fits) c.requires _ _ _ _ c.in_ok-head.ensures)

pub returns-in_err-clash : goal.returns-in_err-clash
returns-in_err-clash c =
    let small = λ (j : ℕ). (c.type_inv.file j).fits in
    let a = c.args in
    let head = c.in_ok-head.ensures in
    absurd
    (not_refused a.file.now a.statement a.depth a.count small c.requires _ _ _
    (edition-read a.file.now a.statement a.depth a.count small c.requires _ _ _ _ head)
    (leaves-read a.file.now a.statement a.depth a.count small c.requires _ _ _ _ head _ c.opened_leaves-leaves.ensures)
    (openings-read a.file.now a.statement a.depth a.count small c.requires _ _ _ _ head _ refl)
    c.in_err-clash.field-0.0 c.in_err-clash.ensures.outcome_value)

pub returns-in-Some : goal.returns-in-Some
returns-in-Some c =
    let small = λ (j : ℕ). (c.type_inv.file j).fits in
    let a = c.args in
    let head = c.in_ok-head.ensures in
    let e =
    clash-drawn a.file.now a.statement a.depth a.count small c.requires _ _ _
    (edition-read a.file.now a.statement a.depth a.count small c.requires _ _ _ _ head)
    (leaves-read a.file.now a.statement a.depth a.count small c.requires _ _ _ _ head _ c.opened_leaves-leaves.ensures)
    (openings-read a.file.now a.statement a.depth a.count small c.requires _ _ _ _ head _ refl)
    a.list.now c.in-Some.clash (sym c.in-Some.is ∙ c.in_ok-clash.ensures.clash_value) in
    record { drawing_value = e.0; inputs_value = e.1.0; list_after = e.1.1 }

pub returns-in_err-plan-in-None : goal.returns-in_err-plan-in-None
returns-in_err-plan-in-None c =
    let small = λ (j : ℕ). (c.type_inv.file j).fits in
    let a = c.args in
    let head = c.in_ok-head.ensures in
    let leaves = leaves-read a.file.now a.statement a.depth a.count small c.requires _ _ _ _ head _ c.opened_leaves-leaves.ensures in
    let p = err_from_is_err_and c.from_residual-in_err-plan-in-None.result c.from_residual-in_err-plan-in-None.ensures.1 in
    let plan = c.in_err-plan-in-None.ensures in
    let e =
    chain_or_short a.file.now a.statement a.depth a.count small c.requires _ _ _
    (edition-read a.file.now a.statement a.depth a.count small c.requires _ _ _ _ head)
    leaves
    (openings-read a.file.now a.statement a.depth a.count small c.requires _ _ _ _ head _ refl)
    a.list.now _ (Err (record { refusal = c.in_err-plan-in-None.field-0.0; opening = 0 })) (sym c.in-None.is ∙ c.in_ok-clash.ensures.clash_value) tt
    (chain-refused a.depth c.opened_leaves-leaves.result.now a.list.now _ _
    (leaves-done a.file.now a.statement a.depth a.count small c.requires _ leaves) plan.count_value plan.list_after _ plan.outcome_value) in
    rw (p.1, p.2) (record { drawing_value = e.0; inputs_value = e.1.0; list_after = e.1.1 })

pub returns-in_ok-plan-in-None : goal.returns-in_ok-plan-in-None
returns-in_ok-plan-in-None c =
    let small = λ (j : ℕ). (c.type_inv.file j).fits in
    let a = c.args in
    let head = c.in_ok-head.ensures in
    let leaves = leaves-read a.file.now a.statement a.depth a.count small c.requires _ _ _ _ head _ c.opened_leaves-leaves.ensures in
    let plan = c.in_ok-plan-in-None.ensures in
    let e =
    chain_or_short a.file.now a.statement a.depth a.count small c.requires _ _ _
    (edition-read a.file.now a.statement a.depth a.count small c.requires _ _ _ _ head)
    leaves
    (openings-read a.file.now a.statement a.depth a.count small c.requires _ _ _ _ head _ refl)
    a.list.now _ (Ok (Chain c.in_ok-plan-in-None.field-0)) (sym c.in-None.is ∙ c.in_ok-clash.ensures.clash_value) tt
    (chain-drawn a.depth c.opened_leaves-leaves.result.now a.list.now _ _
    (leaves-done a.file.now a.statement a.depth a.count small c.requires _ leaves) plan.count_value plan.list_after plan.outcome_value) in
    record { drawing_value = e.0; inputs_value = e.1.0; list_after = e.1.1 }
