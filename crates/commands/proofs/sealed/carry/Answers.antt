-- A run that is not refused has the bounds that its counts ask for.
use Rattle.commands.proofs.SealLaws.{goes-within}
use Rattle.commands.proofs.sealed.carry.Goals as goal

pub file_size-size-requires : goal.file_size-size-requires
file_size-size-requires g c = ((goes-within c.args.seal.run _ c.requires.run_goes_on).0.1, c.requires.count.0.1)
