use mathlib.Core.Path.{◌≡◌, refl}
use Prim.Native.Nat.{◌+◌, ◌-◌, ◌*◌, ◌/◌, ◌^◌}
use native.Mathlib.Omega.{arith}
use borrow.Author.Rules.{rules}
use lib.Count.{ones}
use Rattle.tree.specs.Nodes.{node}
use Rattle.tree.proofs.Slots.{slot-inside}
use Rattle.opening_places.proofs.AboveLaws.{above-none, above-level, above-few, above-taken}
use Rattle.opening_places.proofs.PlaceLaws.{way-inside}
use Rattle.opening_places.proofs.above.labels_above.Goals as goal

pub overflow_cast-len : goal.overflow_cast-len
overflow_cast-len c =
    omega (
      arith,
      above-few c.args.depth c.args.leaf c.args.memory _ c.requires.possible.above
          c.requires.possible.inside refl,
    )

pub overflow_mul-len : goal.overflow_mul-len
overflow_mul-len c =
    omega (
      arith,
      above-few c.args.depth c.args.leaf c.args.memory _ c.requires.possible.above
          c.requires.possible.inside refl,
    )

pub loop-level-init : goal.loop-level-init
loop-level-init c = (
  omega arith,
  above-none c.args.depth c.args.leaf c.args.store.now c.requires.possible.inside,
  search rules,
)

pub add_left-filled-requires : goal.add_left-filled-requires
add_left-filled-requires c =
    let a = c.args in
    let l = c.loop-level.level in
    let p = way-inside a.depth a.leaf l (omega arith) c.requires.possible.inside in
    let i = slot-inside a.memory (node l (a.leaf / 2 ^ (a.depth - l))) (omega arith, p) in
    record {
      level_le_max_depth = (
        omega arith,
        p,
        omega (
          arith,
          c.requires.possible.kept,
          above-few a.depth a.leaf (l - 1) c.loop-level.filled (omega arith) c.requires.possible.inside c.loop-level.invariant.1.counted,
        ),
      );
      position_in_bounds = omega arith;
    }

pub loop-level-preserved : goal.loop-level-preserved
loop-level-preserved c =
    let a = c.args in
    let l = c.loop-level in
    let e : l.level + 1 - 1 ≡ l.level = omega arith in
    let p = way-inside a.depth a.leaf l.level (omega arith) c.requires.possible.inside in
    let i = slot-inside a.memory (node l.level (a.leaf / 2 ^ (a.depth - l.level))) (omega arith, p) in
    let few = above-few a.depth a.leaf (l.level - 1) l.filled (omega arith) c.requires.possible.inside l.invariant.1.counted in (
      omega arith,
      rw e
          (above-level a.depth a.leaf l.level a.store.now l.filled _ l.bytes _ (omega arith) (omega arith) (omega (arith, c.requires.possible.kept))
          (omega arith) l.invariant.1 c.add_left-filled.ensures.bytes_after c.add_left-filled.ensures.value),
      search rules,
    )

pub returns : goal.returns
returns c =
    let a = c.args in
    let l = c.loop-level in
    let e : l.level - 1 ≡ a.memory = omega arith in
    let so = rw e at l.invariant.1 in
    let f : l.filled ≡ 32 * ones (a.leaf / 2 ^ (a.depth - a.memory)) = so.counted in
    let t = above-taken a.depth a.leaf a.store.now a.memory l.filled l.bytes so in
    record {
      len_value = refl;
      bytes_value = rw f at t.0;
      bytes_value_2 = rw f at t.1;
    }

pub returns-2 : goal.returns-2
returns-2 c =
    let a = c.args in
    let l = c.loop-level in
    let e : l.level ≡ a.memory = omega arith in
    let p = way-inside a.depth a.leaf l.level (omega arith) c.requires.possible.inside in
    let i = slot-inside a.memory (node l.level (a.leaf / 2 ^ (a.depth - l.level))) (omega arith, p) in
    let few = above-few a.depth a.leaf (l.level - 1) l.filled (omega arith) c.requires.possible.inside l.invariant.1.counted in
    let so =
    rw e at
    (above-level a.depth a.leaf l.level a.store.now l.filled _ l.bytes _ (omega arith) (omega arith) (omega (arith, c.requires.possible.kept))
    (omega arith) l.invariant.1 c.add_left-filled.ensures.bytes_after c.add_left-filled.ensures.value) in
    let f : c.add_left-filled.result ≡ 32 * ones (a.leaf / 2 ^ (a.depth - a.memory)) = so.counted in
    let t = above-taken a.depth a.leaf a.store.now a.memory c.add_left-filled.result c.add_left-filled.new.bytes so in
    record {
      len_value = refl;
      bytes_value = rw f at t.0;
      bytes_value_2 = rw f at t.1;
    }
