-- A run that is not refused has the bounds that its counts ask for.
use Rattle.std.proofs.Common.{arith}
use Rattle.run.proofs.RowLaws.{may-go-on}
use Rattle.commands.proofs.SealLaws.{goes-within}
use Rattle.commands.proofs.sealed.carry_in.Goals as goal

pub file_size-size-requires : goal.file_size-size-requires
file_size-size-requires g c = ((goes-within c.args.seal.run _ c.requires.run_goes_on).0.1, c.requires.count.0.1)

pub all_labels-requires : goal.all_labels-requires
all_labels-requires g c =
    let l = goes-within c.args.seal.run _ c.requires.run_goes_on in (l.0.1, omega (arith, l.1), c.requires.count.0.1)

pub all_labels-requires-2 : goal.all_labels-requires-2
all_labels-requires-2 g c =
    let l = goes-within c.args.seal.run _ c.requires.run_goes_on in (l.0.1, omega (arith, l.1), omega (arith, c.requires.count.0.1, c.requires.count.1))

pub nodes-requires : goal.nodes-requires
nodes-requires g c = (goes-within c.args.seal.run _ c.requires.run_goes_on).0.1

pub overflow_sub-labels : goal.overflow_sub-labels
overflow_sub-labels g c = omega (arith, (may-go-on c.args.seal.run _ c.requires.run_goes_on).possible.made-few, c.nodes.ensures)

pub facts_of-facts-requires : goal.facts_of-facts-requires
facts_of-facts-requires g c = let l = goes-within c.args.seal.run _ c.requires.run_goes_on in (l.0, l.1, c.requires.count.0.1)
