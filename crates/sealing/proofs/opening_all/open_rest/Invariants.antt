-- `sealing::opening_all::open_rest` meets its contract: the invariant: the file has its head and the openings that are finished.
use Rattle.std.proofs.Common.{◌≡◌, ◌-◌, ◌≤◌, length}
use Rattle.sealing.proofs.FileLaws.{LaidTo}
use Rattle.sealing.proofs.opening_all.open_rest.Given as goal

abbrev pub invariant-loop-seal : goal.invariant-loop-seal
invariant-loop-seal g l =
    (l.seal.run ≡ l.fn.seal.run) × (l.seal.count ≡ l.fn.seal.count) × (l.seal.done ≤ l.fn.seal.count) × (length l.file ≡ length l.fn.file)
    × LaidTo l.fn.seal.run.edition l.fn.seal.run.statement l.root l.fn.seal.run.depth l.fn.seal.run.memory l.fn.seal.count l.fn.seal.done l.store
    l.fn.file l.seal.done l.file

abbrev pub decreases-loop-seal : goal.decreases-loop-seal
decreases-loop-seal g l = l.seal.count - l.seal.done
