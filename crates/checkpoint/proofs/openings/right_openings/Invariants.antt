-- `checkpoint::openings::right_openings` meets its contract. The invariant: those taken and those still to be taken are the answer.
use Rattle.std.proofs.Common.{◌≡◌, ◌+◌, ◌-◌}
use Rattle.checkpoint.specs.Openings.{right_after, openings_taken}
use Rattle.checkpoint.proofs.openings.right_openings.Given as goal

abbrev pub invariant-loop-done : goal.invariant-loop-done
invariant-loop-done l =
    openings_taken l.tree.edition l.tree.statement l.root l.tree.depth l.count l.bytes
    ≡ l.done + right_after l.tree.edition l.tree.statement l.root l.tree.depth l.bytes l.done (l.count - l.done)
