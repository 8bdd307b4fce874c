-- `vector_helpers::stamping::Stamping::run_whole` meets its contract.
use Rattle.vector_helpers.proofs.WholeLaws.{run-whole}
use Rattle.vector_helpers.proofs.stamping.Stamping.run_whole.Goals as goal

pub returns : goal.returns
returns c =
    let a = c.args.self in
    run-whole a.edition a.statement a.depth a.memory c.args.store.now _ _ c.run.ensures c.advance.ensures.store_after
