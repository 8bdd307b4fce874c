-- `capi::chains::mastdock_compare` meets its contract: by whether a pair disagrees.
use mathlib.Core.Path.{◌∙◌}
use Rattle.capi.proofs.Numbers.{value_or}
use Rattle.capi.proofs.Clashes.{tells, none-compared}
use Rattle.capi.proofs.chains.mastdock_compare.Goals as goal

pub returns-clause-i_value : goal.returns-clause-i_value
returns-clause-i_value c =
    let a = c.args in
    let e = c.compare-compared.ensures in
    let found =
    c.unwrap_or.ensures
    ∙ value_or _ _ _ _ e.outcome_value e.clash_value
    (none-compared a.edition a.statement.now a.depth a.leaves.now a.openings.now) in
    (tells a.edition a.statement.now a.depth a.leaves.now a.openings.now _ _ _ found c.clash_of.ensures.none c.clash_of.ensures.some).i

pub returns-clause-j_value : goal.returns-clause-j_value
returns-clause-j_value c =
    let a = c.args in
    let e = c.compare-compared.ensures in
    let found =
    c.unwrap_or.ensures
    ∙ value_or _ _ _ _ e.outcome_value e.clash_value
    (none-compared a.edition a.statement.now a.depth a.leaves.now a.openings.now) in
    (tells a.edition a.statement.now a.depth a.leaves.now a.openings.now _ _ _ found c.clash_of.ensures.none c.clash_of.ensures.some).j

pub returns-clause-level_value : goal.returns-clause-level_value
returns-clause-level_value c =
    let a = c.args in
    let e = c.compare-compared.ensures in
    let found =
    c.unwrap_or.ensures
    ∙ value_or _ _ _ _ e.outcome_value e.clash_value
    (none-compared a.edition a.statement.now a.depth a.leaves.now a.openings.now) in
    (tells a.edition a.statement.now a.depth a.leaves.now a.openings.now _ _ _ found c.clash_of.ensures.none c.clash_of.ensures.some).level

pub returns-clause-first_value : goal.returns-clause-first_value
returns-clause-first_value c =
    let a = c.args in
    let e = c.compare-compared.ensures in
    let found =
    c.unwrap_or.ensures
    ∙ value_or _ _ _ _ e.outcome_value e.clash_value
    (none-compared a.edition a.statement.now a.depth a.leaves.now a.openings.now) in
    (tells a.edition a.statement.now a.depth a.leaves.now a.openings.now _ _ _ found c.clash_of.ensures.none c.clash_of.ensures.some).first_input

pub returns-clause-second_value : goal.returns-clause-second_value
returns-clause-second_value c =
    let a = c.args in
    let e = c.compare-compared.ensures in
    let found =
    c.unwrap_or.ensures
    ∙ value_or _ _ _ _ e.outcome_value e.clash_value
    (none-compared a.edition a.statement.now a.depth a.leaves.now a.openings.now) in
    (tells a.edition a.statement.now a.depth a.leaves.now a.openings.now _ _ _ found c.clash_of.ensures.none c.clash_of.ensures.some).second_input
