-- `run::Run::label_one` meets its contract.
use native.Mathlib.Omega.{arith}
use borrow.Author.Rules.{rules}
use Rattle.tree.proofs.InputLengths.{ones-zero}
use Rattle.run.proofs.StepLaws.{small-nodes, from-root, next-in-tree, one-step, one-cost}
use Rattle.run.proofs.Run.label_one.Goals as goal

pub label_next-made-requires : goal.label_next-made-requires
label_next-made-requires c =
    let n = c.args.self.now.depth in
    record {
      depth_bound = (omega arith, c.requires.0, omega arith, rw (from-root n) c.requires.1);
      front_len = (omega (arith, ones-zero), search rules);
    }

pub keep-requires : goal.keep-requires
keep-requires c =
    let r = c.args.self.now in
    let w = c.label_next-made in
    let t = next-in-tree r.depth r.made w.result.node.level w.result.node.position c.requires.1
    (rw (from-root r.depth) at w.ensures.node_value) in
    (omega (arith, t.0, c.requires.0), t.1, c.requires.2)

pub overflow_add-self : goal.overflow_add-self
overflow_add-self c = omega (arith, c.requires, small-nodes c.args.self.now.depth c.requires.0)

pub returns : goal.returns
returns c =
    let r = c.args.self.now in
    let w = c.label_next-made in
    let e = w.ensures in
    let (run, store) =
    one-step r c.args.store.now _ w.result.node.level w.result.node.position w.result.label _ _ w.result.blocks (from-root r.depth)
    e.node_value e.label_value e.held_after c.keep.ensures in
    record {
      run_after = run;
      store_after = store;
      value = (
        one-cost r c.args.store.now _ w.result.node.level w.result.node.position w.result.label w.new.held c.keep.new.store
            w.result.blocks (from-root r.depth) e.node_value e.blocks_value.0,
        e.blocks_value.1,
      );
    }
