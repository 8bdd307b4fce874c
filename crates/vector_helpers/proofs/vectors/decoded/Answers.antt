-- `vector_helpers::vectors::decoded` meets its contract: the bytes spelled are all of the room.
use Rattle.std.proofs.Common.{arith}
use Rattle.std.proofs.lemmas.Grind.{common_steps}
use Rattle.base.proofs.Parts.{whole-written}
use Rattle.vector_helpers.proofs.TextLaws.{length-spelled}
use Rattle.vector_helpers.proofs.vectors.decoded.Goals as goal

pub returns : goal.returns
returns c = grind (arith, common_steps, whole-written, length-spelled)
