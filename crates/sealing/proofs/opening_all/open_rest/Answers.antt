use Rattle.std.proofs.Common.{◌≡◌, arith, rules, length}
use Rattle.sealing.proofs.FileLaws.{laid_more, laid-whole}
use Rattle.sealing.proofs.opening_all.open_rest.Goals as goal

pub loop-seal-preserved : goal.loop-seal-preserved
loop-seal-preserved g c =
    let l = c.loop-seal in
    let seal = c.args.seal.now in
    let run = seal.run in
    let size : length run.statement ≡ 32 = search rules in
    let opened = rw (l.invariant.0, l.invariant.1) at c.open_next.ensures in (
      l.invariant.0,
      l.invariant.1,
      omega (arith, c.loop-seal-test.true, l.invariant.1),
      search rules,
      laid_more run.edition run.statement c.args.root run.depth run.memory seal.count seal.done c.args.store.now c.args.file.now
          size c.requires.writable.exists c.requires.writable.file_fits l.seal.done (omega (arith, c.loop-seal-test.true, l.invariant.1)) _ _ l.invariant.4 opened,
    )

pub returns : goal.returns
returns g c =
    let l = c.loop-seal in
    let seal = c.args.seal.now in
    let run = seal.run in
    laid-whole run.edition run.statement c.args.root run.depth run.memory seal.count seal.done c.args.store.now c.args.file.now
    l.seal.done _ (omega (arith, l.invariant.1, l.invariant.2, c.loop-seal-test.false)) l.invariant.4
