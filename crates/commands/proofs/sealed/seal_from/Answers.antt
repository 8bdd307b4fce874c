-- The tests passed are what carrying the seal asks for.
use Rattle.std.proofs.Common.{◌≡◌, sym, ◌∙◌, false, arith}
use Rattle.tree.specs.Walk.{nodes_in}
use Rattle.run.specs.Rows.{impossible}
use Rattle.commands.proofs.SealLaws.{goes_on}
use Rattle.commands.proofs.sealed.seal_from.Goals as goal

pub carry-requires-clause-run_goes_on : goal.carry-requires-clause-run_goes_on
carry-requires-clause-run_goes_on g c =
    let r = c.args.seal.run in
    let can : impossible r.edition r.depth r.memory r.made (nodes_in r.depth) ≡ false = sym c.not_possible.ensures ∙ c.if-not_possible.false in
    goes_on r c.args.store.now _ can c.store_size-kept.ensures (omega arith)
