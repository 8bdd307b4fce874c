use mathlib.Core.Path.{◌≡◌, refl, sym, ap}
use native.Mathlib.Omega.{arith}
use borrow.Author.Rules.{rules}
use lib.ListN.{length-take, length-drop}
use Rattle.machine.proofs.StepLaws.{no_step, cost-none, cost-more}
use Rattle.unit.specs.Runs.{run_at}
use Rattle.unit.specs.Plans.{lane_at}
use Rattle.unit.specs.Turns.{Carried, carried, unit_machine, turns, turn_blocks}
use Rattle.unit.proofs.RowLaws.{sound}
use Rattle.unit.proofs.PlanLaws.{all_small}
use Rattle.unit.proofs.LabelLaws.{labelled}
use Rattle.unit.proofs.LoopFacts.{begins, turn-of}
use Rattle.unit.proofs.StampingUnit.label_turns.Goals as goal

pub loop-init : goal.loop-init
loop-init c =
    (no_step unit_machine _, c.requires.store_value.1, refl, sym (cost-none unit_machine turn_blocks _), omega arith)

pub next_run-i-requires : goal.next_run-i-requires
next_run-i-requires c =
    let l = c.loop in
    begins (carried c.args.self.now c.args.store.now) l.counter l.self.count l.self.last l.self.runs l.store l.lanes c.requires.store_value.0
    l.invariant.0 (omega (arith, c.loop-test.true, c.requires.labels_bound)) l.invariant.1

-- of the run whose turn it is
pub overflow_sub-at : goal.overflow_sub-at
overflow_sub-at c =
    let l = c.loop in
    let t =
    turn-of (carried c.args.self.now c.args.store.now) l.counter l.self.count l.self.last l.self.runs l.store l.lanes c.requires.store_value.0
    l.invariant.0 (omega (arith, c.loop-test.true, c.requires.labels_bound)) l.invariant.1 c.next_run-i.result c.next_run-i.ensures in
    t.place.0

pub offset_bounds-lanes-at : goal.offset_bounds-lanes-at
offset_bounds-lanes-at c =
    let l = c.loop in
    let t =
    turn-of (carried c.args.self.now c.args.store.now) l.counter l.self.count l.self.last l.self.runs l.store l.lanes c.requires.store_value.0
    l.invariant.0 (omega (arith, c.loop-test.true, c.requires.labels_bound)) l.invariant.1 c.next_run-i.result c.next_run-i.ensures in
    omega (arith, t.place)

pub bounds-lanes-at : goal.bounds-lanes-at
bounds-lanes-at c =
    let l = c.loop in
    let t =
    turn-of (carried c.args.self.now c.args.store.now) l.counter l.self.count l.self.last l.self.runs l.store l.lanes c.requires.store_value.0
    l.invariant.0 (omega (arith, c.loop-test.true, c.requires.labels_bound)) l.invariant.1 c.next_run-i.result c.next_run-i.ensures in
    omega (arith, t.place)

pub offset_bounds-self-at : goal.offset_bounds-self-at
offset_bounds-self-at c =
    let l = c.loop in
    let t =
    turn-of (carried c.args.self.now c.args.store.now) l.counter l.self.count l.self.last l.self.runs l.store l.lanes c.requires.store_value.0
    l.invariant.0 (omega (arith, c.loop-test.true, c.requires.labels_bound)) l.invariant.1 c.next_run-i.result c.next_run-i.ensures in
    omega (arith, t.place)

pub bounds-self-at : goal.bounds-self-at
bounds-self-at c =
    let l = c.loop in
    let t =
    turn-of (carried c.args.self.now c.args.store.now) l.counter l.self.count l.self.last l.self.runs l.store l.lanes c.requires.store_value.0
    l.invariant.0 (omega (arith, c.loop-test.true, c.requires.labels_bound)) l.invariant.1 c.next_run-i.result c.next_run-i.ensures in
    omega (arith, t.place)

pub offset_bounds-lanes-at-in-loop : goal.offset_bounds-lanes-at-in-loop
offset_bounds-lanes-at-in-loop c =
    let l = c.loop in
    let t =
    turn-of (carried c.args.self.now c.args.store.now) l.counter l.self.count l.self.last l.self.runs l.store l.lanes c.requires.store_value.0
    l.invariant.0 (omega (arith, c.loop-test.true, c.requires.labels_bound)) l.invariant.1 c.next_run-i.result c.next_run-i.ensures in
    omega (arith, t.place)

pub bounds-lanes-at-in-loop : goal.bounds-lanes-at-in-loop
bounds-lanes-at-in-loop c =
    let l = c.loop in
    let t =
    turn-of (carried c.args.self.now c.args.store.now) l.counter l.self.count l.self.last l.self.runs l.store l.lanes c.requires.store_value.0
    l.invariant.0 (omega (arith, c.loop-test.true, c.requires.labels_bound)) l.invariant.1 c.next_run-i.result c.next_run-i.ensures in
    omega (arith, t.place)

pub store_size-requires : goal.store_size-requires
store_size-requires c =
    let l = c.loop in
    let t =
    turn-of (carried c.args.self.now c.args.store.now) l.counter l.self.count l.self.last l.self.runs l.store l.lanes c.requires.store_value.0
    l.invariant.0 (omega (arith, c.loop-test.true, c.requires.labels_bound)) l.invariant.1 c.next_run-i.result c.next_run-i.ensures in
    t.possible.1

pub overflow_add-end : goal.overflow_add-end
overflow_add-end c =
    let l = c.loop in
    let t =
    turn-of (carried c.args.self.now c.args.store.now) l.counter l.self.count l.self.last l.self.runs l.store l.lanes c.requires.store_value.0
    l.invariant.0 (omega (arith, c.loop-test.true, c.requires.labels_bound)) l.invariant.1 c.next_run-i.result c.next_run-i.ensures in
    omega (arith, t.fits, c.store_size.ensures)

pub slice_bounds-label_one-end : goal.slice_bounds-label_one-end
slice_bounds-label_one-end c =
    let l = c.loop in
    let t =
    turn-of (carried c.args.self.now c.args.store.now) l.counter l.self.count l.self.last l.self.runs l.store l.lanes c.requires.store_value.0
    l.invariant.0 (omega (arith, c.loop-test.true, c.requires.labels_bound)) l.invariant.1 c.next_run-i.result c.next_run-i.ensures in
    omega (arith, t.fits, c.store_size.ensures)

pub label_one-blocks-requires : goal.label_one-blocks-requires
label_one-blocks-requires c =
    let l = c.loop in
    let t =
    turn-of (carried c.args.self.now c.args.store.now) l.counter l.self.count l.self.last l.self.runs l.store l.lanes c.requires.store_value.0
    l.invariant.0 (omega (arith, c.loop-test.true, c.requires.labels_bound)) l.invariant.1 c.next_run-i.result c.next_run-i.ensures in
    (t.possible.0, t.possible.2, simp (length-take, length-drop) (omega (arith, t.fits, c.store_size.ensures)))

pub overflow_add-blocks : goal.overflow_add-blocks
overflow_add-blocks c =
    let s = carried c.args.self.now c.args.store.now in
    omega (
      arith,
      c.loop.invariant.4,
      c.loop-test.true,
      c.requires.labels_bound,
      all_small s (sound s c.requires.store_value.0),
      c.label_one-blocks.ensures.value.1,
    )

pub overflow_sub-lanes : goal.overflow_sub-lanes
overflow_sub-lanes c =
    let l = c.loop in
    let t =
    turn-of (carried c.args.self.now c.args.store.now) l.counter l.self.count l.self.last l.self.runs l.store l.lanes c.requires.store_value.0
    l.invariant.0 (omega (arith, c.loop-test.true, c.requires.labels_bound)) l.invariant.1 c.next_run-i.result c.next_run-i.ensures in
    t.remains

pub loop-preserved : goal.loop-preserved
loop-preserved c =
    let l = c.loop in
    let t =
    turn-of (carried c.args.self.now c.args.store.now) l.counter l.self.count l.self.last l.self.runs l.store l.lanes c.requires.store_value.0
    l.invariant.0 (omega (arith, c.loop-test.true, c.requires.labels_bound)) l.invariant.1 c.next_run-i.result c.next_run-i.ensures in
    let e = c.label_one-blocks.ensures in
    let (run, (part, value)) =
    labelled (run_at l.self.runs c.next_run-i.result) l.store (lane_at l.lanes c.next_run-i.result).from c.store_size.result c.store_size.ensures t.fits
    _ _ _ (search rules) e.run_after e.store_after e.value in
    let (so_far, plan) = t.after _ _ run part in (
      so_far,
      plan,
      omega (arith, c.label_one-blocks.auto, l.invariant.2),
      cost-more unit_machine turn_blocks l.counter (carried c.args.self.now c.args.store.now) _ _ _ l.invariant.0 l.invariant.3 (t.costs _ value.0),
      omega (arith, l.invariant.4, e.value.1),
    )

pub returns : goal.returns
returns c =
    let l = c.loop in
    let a = c.args in
    let e : l.counter ≡ a.labels = omega (arith, c.loop-test.false) in
    let f : turns a.labels (carried a.self.now a.store.now) ≡ carried l.self l.store = rw e at l.invariant.0 in
    record {
      unit_after = ap (λ (t : Carried). t.unit) (sym f);
      store_after = ap (λ (t : Carried). t.store) (sym f);
      blocks_value = (rw e at l.invariant.3, rw e at l.invariant.4);
    }
