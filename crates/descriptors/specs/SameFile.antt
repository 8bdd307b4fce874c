-- When two answers of the system are of one file.
use Rattle.std.specs.Prelude.{Bool, false, eqb}
use Rattle.std.specs.declared.result.Result.{Result}
use Rattle.std.specs.declared.result.Result.TheVariants.{Ok, Err}
use Rattle.base.specs.Choice.{both}
use Rattle.descriptors.specs.declared.same_file.FileId.{FileId}

abbrev pub equal_ids : FileId → FileId → Bool
equal_ids a b = both (eqb a.device b.device) (eqb a.number b.number)

-- both calls succeeded, and told of one device and of one number
abbrev pub same_file : {E : Type 0} → Result FileId E → Result FileId E → Bool
same_file (Ok a) (Ok b) = equal_ids a b
same_file (Ok a) (Err e) = false
same_file (Err e) b = false
