use mathlib.Core.Path.{◌≡◌, sym, ap, ◌∙◌}
use Prim.Native.Nat.{◌+◌, ◌-◌, ◌≤◌}
use native.Mathlib.Omega.{arith}
use lib.ListN.{length}
use Rattle.base.proofs.Parts.{part-size, part_length}
use Rattle.tree.specs.Openings.{opening_size}
use Rattle.file_head.proofs.Leaves.{challenge_leaf-small}
use Rattle.proof_file.specs.FileCheck.{openings_from}
use Rattle.proof_file.proofs.FileLaws.{opening-refused, opening-right, none_left}
use Rattle.file_head.proofs.HeadLaws.{opening-inside}
use Rattle.proof_file.proofs.file.check_openings.Goals as goal
use Rattle.proof_file.proofs.file.check_openings.Goals.{In_default}

-- the opening lies within the bytes
pub right-requires : goal.right-requires
right-requires c =
    let h = c.args.head.now in
    let bytes = c.args.bytes.now in
    let start = c.opening_start-start.result in
    let inside : start + opening_size h.depth ≤ length bytes =
    omega (arith, c.opening_start-start.ensures, opening-inside h.depth h.count c.loop-i.i (omega arith) (omega arith)) in (
      omega arith,
      omega arith,
      rw c.challenge_leaf-leaf.ensures (challenge_leaf-small h.edition h.depth _ _ _ (omega arith)),
      rw c.opening_size.ensures
          (ap length (part-size bytes start (opening_size h.depth)) ∙ part_length bytes start (opening_size h.depth) inside),
    )

pub returns-in-Err : goal.returns-in-Err
returns-in-Err c =
    let h = c.args.head.now in
    sym (c.loop-i.invariant ∙ opening-refused h.edition c.args.bytes.now c.args.statement c.label_at-root.result h.depth h.end c.loop-i.i
    h.count c.opening_start-start.result c.challenge_leaf-leaf.result _ c.requires.bytes_len.1 c.label_at-root.ensures
    c.challenge_leaf-leaf.ensures c.opening_start-start.ensures (omega arith) (rw c.opening_size.ensures at c.right.ensures) _ c.in-Err.is)

-- one opening more is right
one-right : (c : In_default)
    → openings_from c.args.head.now.edition c.args.bytes.now c.args.head.now.depth c.args.head.now.end 1 c.args.head.now.count
    ≡ openings_from c.args.head.now.edition c.args.bytes.now c.args.head.now.depth c.args.head.now.end (c.loop-i.i + 1)
    (c.args.head.now.count + 1 - (c.loop-i.i + 1))
one-right c =
    let h = c.args.head.now in
    c.loop-i.invariant ∙ opening-right h.edition c.args.bytes.now c.args.statement c.label_at-root.result h.depth h.end c.loop-i.i
    h.count c.opening_start-start.result c.challenge_leaf-leaf.result _ c.requires.bytes_len.1 c.label_at-root.ensures
    c.challenge_leaf-leaf.ensures c.opening_start-start.ensures (omega arith) (rw c.opening_size.ensures at c.right.ensures) c.in_default.is

pub loop-i-preserved : goal.loop-i-preserved
loop-i-preserved c = one-right (goal.at.loop-i-preserved c).In_default

pub returns-in_default : goal.returns-in_default
returns-in_default c =
    let h = c.args.head.now in
    sym (one-right (goal.at.returns-in_default c).In_default
    ∙ none_left h.edition c.args.bytes.now h.depth h.end (c.loop-i.i + 1) h.count (omega arith))
