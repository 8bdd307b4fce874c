-- `compare::table::Table::first_pair` meets its contract.
use mathlib.Core.Path.{sym, ◌∙◌}
use lib.ListN.{length}
use Rattle.compare.specs.Table.{table_disagreement}
use Rattle.compare.proofs.FirstPairLaws.{first_found, firsts-ended, firsts-all, pair-lies}
use native.Mathlib.Omega.{arith}
use Rattle.compare.proofs.table.Table.first_pair.Goals as goal

pub loop-i-init : goal.loop-i-init
loop-i-init c =
    let t = c.args.self.now in
    firsts-all (table_disagreement t.depth t.leaves.now t.cells.now) t.depth (length t.leaves.now)

pub returns-in-Some : goal.returns-in-Some
returns-in-Some c =
    let t = c.args.self.now in
    let e =
    c.loop-i.invariant ∙ first_found (table_disagreement t.depth t.leaves.now t.cells.now) t.depth (length t.leaves.now) c.loop-i.i _
    (omega arith) (sym c.in-Some.ensures) in
    record { value = sym e; lies = rw e at (pair-lies (table_disagreement t.depth t.leaves.now t.cells.now) t.depth (length t.leaves.now)) }

pub loop-i-preserved : goal.loop-i-preserved
loop-i-preserved c =
    let t = c.args.self.now in
    c.loop-i.invariant ∙ first_found (table_disagreement t.depth t.leaves.now t.cells.now) t.depth (length t.leaves.now) c.loop-i.i _
    (omega arith) (sym c.first_second.ensures ∙ c.in_default.is)

pub returns-clause-value : goal.returns-clause-value
returns-clause-value c =
    let t = c.args.self.now in
    sym (c.loop-i.invariant ∙ firsts-ended (table_disagreement t.depth t.leaves.now t.cells.now) t.depth (length t.leaves.now) c.loop-i.i (omega arith))
