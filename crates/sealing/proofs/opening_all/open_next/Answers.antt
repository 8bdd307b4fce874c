-- `sealing::opening_all::open_next` meets its contract: the opening fills its part.
use Rattle.std.proofs.Common.{◌≡◌, ℕ, ◌+◌, ◌-◌, ◌*◌, ◌≤◌, arith}
use Rattle.tree.specs.Openings.{opening_size}
use Rattle.file_head.specs.Layout.{head_size, opening_from, file_size}
use Rattle.file_head.proofs.Leaves.{challenge_leaf-small}
use Rattle.writing.proofs.PartLaws.{part-from}
use Rattle.sealing.proofs.FileLaws.{part-inside, part-openable, part-opened}
use Rattle.sealing.proofs.opening_all.open_next.Goals as goal

-- where the part after the first `done` begins
begins : (n t done size : ℕ) → done + 1 ≤ t → size ≡ file_size n t
    → ((t - done) * opening_size n ≤ size) × (size - (t - done) * opening_size n ≡ opening_from n (head_size n t) (done + 1))
begins n t done size few e =
    let left : t + 1 - (done + 1) ≡ t - done = omega arith in
    rw left at (part-from n t (done + 1) (omega arith) few size e)

pub overflow_sub-from-2 : goal.overflow_sub-from-2
overflow_sub-from-2 g c =
    let seal = c.args.seal.now in
    (begins seal.run.depth seal.count seal.done _ c.requires.number.1 c.file_size.ensures).0

pub slice_bounds-open_leaf-end : goal.slice_bounds-open_leaf-end
slice_bounds-open_leaf-end g c =
    let seal = c.args.seal.now in
    let run = seal.run in
    part-inside run.edition run.depth run.memory seal.count (seal.done + 1) c.args.store.now c.args.file.now c.requires _
    (begins run.depth seal.count seal.done _ c.requires.number.1 c.file_size.ensures).1

pub open_leaf-requires : goal.open_leaf-requires
open_leaf-requires g c =
    let seal = c.args.seal.now in
    let run = seal.run in
    part-openable run.edition run.depth run.memory seal.count (seal.done + 1) c.args.store.now c.args.file.now c.requires _
    (begins run.depth seal.count seal.done _ c.requires.number.1 c.file_size.ensures).1 _
    (rw c.challenge_leaf-leaf.ensures (challenge_leaf-small run.edition run.depth _ _ _ (omega (arith, c.requires.depth.1))))

pub returns : goal.returns
returns g c =
    let seal = c.args.seal.now in
    let run = seal.run in
    λ holds.
    part-opened run.edition run.depth run.memory seal.count (seal.done + 1) c.args.store.now c.args.file.now c.requires _
    (begins run.depth seal.count seal.done _ c.requires.number.1 c.file_size.ensures).1 run.statement c.args.root _
    c.challenge_leaf-leaf.ensures _ (c.open_leaf.ensures holds)
