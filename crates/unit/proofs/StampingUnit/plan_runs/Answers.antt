-- `unit::StampingUnit::plan_runs` meets its contract, by the two tests of 21.
use mathlib.Core.Path.{◌≡◌, sym, ◌∙◌}
use mathlib.Core.Logic.{⊎_elim}
use native.Mathlib.Omega.{arith}
use Rattle.base.specs.Limits.{max_runs}
use Rattle.base.proofs.Ranges.{range-of}
use Rattle.unit.proofs.RowLaws.{named-runs}
use Rattle.unit.proofs.PlanLaws.{not-counted, not-among}
use Rattle.unit.proofs.StampingUnit.plan_runs.Goals as goal

pub returns-then-beyond-clause-outcome_value : goal.returns-then-beyond-clause-outcome_value
returns-then-beyond-clause-outcome_value c =
    let a = c.args in
    sym (not-counted a.self.now a.name a.end a.store (sym c.beyond.ensures ∙ c.if-beyond.true))

pub returns-then-beyond-2-clause-outcome_value : goal.returns-then-beyond-2-clause-outcome_value
returns-then-beyond-2-clause-outcome_value c =
    let a = c.args in
    sym
    (not-among a.self.now a.name a.end a.store (sym c.beyond.ensures ∙ c.if-beyond.false)
    (sym c.beyond-2.ensures ∙ c.if-beyond-2.true))

-- 21 is not given: 1 to 8 runs, and the named one among them
pub look_over-requires : goal.look_over-requires
look_over-requires c =
    let a = c.args in
    let counted = range-of 1 max_runs a.self.now.count (sym c.beyond.ensures ∙ c.if-beyond.false) in
    let named = range-of 1 a.self.now.count a.name (sym c.beyond-2.ensures ∙ c.if-beyond-2.false) in
    ⊎_elim (λ (e : a.end ≡ a.self.now.count). omega arith) (λ (e : a.end ≡ a.name). omega arith) c.requires

pub returns-clause-outcome_value : goal.returns-clause-outcome_value
returns-clause-outcome_value c =
    let a = c.args in
    let counted = range-of 1 max_runs a.self.now.count (sym c.beyond.ensures ∙ c.if-beyond.false) in
    let named = range-of 1 a.self.now.count a.name (sym c.beyond-2.ensures ∙ c.if-beyond-2.false) in
    c.look_over.ensures.outcome_value ∙ sym (named-runs a.self.now a.name a.end a.store counted named)
