-- `sealing::seal_on` meets its contract: a finished run, its head, then the openings over its store.
use Rattle.std.proofs.Common.{◌≡◌, arith, rules, length}
use Rattle.sealing.proofs.EndLaws.{end-made, end-writable, sealed}
use Rattle.sealing.proofs.seal_on.Goals as goal

pub save_after_labels-requires : goal.save_after_labels-requires
save_after_labels-requires g c =
    let e = c.label_on.ensures in
    let w = end-writable c.args.seal.run c.args.store.now c.requires.run_goes_on _ _ e.run_after e.store_after c.args.seal.count _ c.requires.count.0 c.requires.room in
    record {
      made = end-made c.args.seal.run c.args.store.now c.requires.run_goes_on _ _ e.run_after e.store_after;
      depth = w.depth.1;
      count = w.count.1;
      few = c.requires.count.1;
    }

pub open_rest-requires-clause-writable : goal.open_rest-requires-clause-writable
open_rest-requires-clause-writable g c =
    let e = c.label_on.ensures in
    end-writable c.args.seal.run c.args.store.now c.requires.run_goes_on _ _ e.run_after e.store_after c.args.seal.count _ c.requires.count.0 (omega (arith, c.requires.room))

pub open_rest-requires-clause-finished : goal.open_rest-requires-clause-finished
open_rest-requires-clause-finished g c =
    let e = c.label_on.ensures in
    let w = end-writable c.args.seal.run c.args.store.now c.requires.run_goes_on _ _ e.run_after e.store_after c.args.seal.count _ c.requires.count.0 c.requires.room in
    record {
      made = end-made c.args.seal.run c.args.store.now c.requires.run_goes_on _ _ e.run_after e.store_after;
      depth = w.depth.1;
      count = w.count.1;
      few = c.requires.count.1;
    }

pub returns : goal.returns
returns g c =
    let e = c.label_on.ensures in
    let seal = c.args.seal in
    let size : length seal.run.statement ≡ 32 = search rules in
    sealed seal.run c.args.store.now c.requires.run_goes_on _ _ e.run_after e.store_after size
    seal.count seal.done c.requires.count.0 c.args.file.now _ _ _ c.requires.room c.label_at-root.ensures
    c.write_head.ensures.out_after c.open_rest.ensures
