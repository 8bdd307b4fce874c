-- `compare::compare` meets its contract: what the table shows is what the openings are.
use mathlib.Core.Path.{sym, ◌∙◌}
use Rattle.compare.proofs.Checks.{sized, compared-done}
use Rattle.compare.proofs.Lookup.{clash-none, clash-some}
use borrow.Author.Rules.{rules}
use Rattle.compare.proofs.whole.compare.Goals as goal

pub fill_table-requires : goal.fill_table-requires
fill_table-requires c = (sized _ _ c.args.leaves.now c.args.openings.now (sym c.in_ok-check.ensures), search rules)

pub invariant_of-table : goal.invariant_of-table
invariant_of-table c =
    let z = sized _ _ c.args.leaves.now c.args.openings.now (sym c.in_ok-check.ensures) in
    record { inside = record { most = z.most; few = z.few; wide = search rules } }

pub returns-in_default-clause-clash_value : goal.returns-in_default-clause-clash_value
returns-in_default-clause-clash_value c =
    let t = c.args.tree.now in
    let done = sym c.in_ok-check.ensures in
    let z = sized _ _ c.args.leaves.now c.args.openings.now done in
    rw (compared-done t.edition t.statement t.depth c.args.leaves.now c.args.openings.now done)
    (clash-none t.edition t.statement t.depth c.args.leaves.now c.args.openings.now _ c.fill_table.new.table z (search rules) c.fill_table.ensures
    (sym c.in_default.is ∙ c.first_pair.ensures.value))

pub returns-clause-clash_value : goal.returns-clause-clash_value
returns-clause-clash_value c =
    let t = c.args.tree.now in
    let done = sym c.in_ok-check.ensures in
    let z = sized _ _ c.args.leaves.now c.args.openings.now done in
    rw (compared-done t.edition t.statement t.depth c.args.leaves.now c.args.openings.now done)
    (clash-some t.edition t.statement t.depth c.args.leaves.now c.args.openings.now _ c.fill_table.new.table z (search rules) c.fill_table.ensures
    c.in-Some.pair _ _ c.in-Some.ensures.value c.in-Some.ensures.lies c.input.ensures c.input-2.ensures)
