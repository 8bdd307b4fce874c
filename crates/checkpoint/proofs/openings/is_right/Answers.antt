-- `checkpoint::openings::is_right` meets its contract.
use Rattle.std.proofs.Common.{arith, ap, ◌∙◌, ◌*◌, ◌-◌}
use lib.ListN.{length}
use Rattle.base.proofs.Parts.{part-size, part_length}
use Rattle.tree.specs.Openings.{opening_size}
use Rattle.file_head.proofs.Leaves.{challenge_leaf-small}
use Rattle.checkpoint.proofs.openings.is_right.Goals as goal

pub right-requires : goal.right-requires
right-requires c =
    let a = c.args in
    let tree = a.tree.now in
    let start = (a.i - 1) * opening_size tree.depth in (
      c.requires.0,
      c.requires.1,
      rw c.challenge_leaf-leaf.ensures (challenge_leaf-small tree.edition tree.depth _ _ _ (omega (arith, c.requires.1))),
      ap length (part-size a.bytes.now start (opening_size tree.depth))
          ∙ part_length a.bytes.now start (opening_size tree.depth) (omega arith),
    )
