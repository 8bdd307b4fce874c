-- `files::Name::beside` meets its contract.
use native.Mathlib.Omega.{arith}
use Rattle.files.proofs.NameLaws.{beside-none, beside-laid}
use Rattle.files.specs.Names.{path_of}
use Rattle.files.proofs.Name.beside.Goals as goal

pub returns-then-saturating_add-gt-MAX_PATH : goal.returns-then-saturating_add-gt-MAX_PATH
unfolding path_of
returns-then-saturating_add-gt-MAX_PATH c =
    beside-none _ _ (omega (arith, c.saturating_add.ensures, c.if-saturating_add-gt-MAX_PATH.true))

pub returns : goal.returns
unfolding path_of
returns c =
    beside-laid _ _ _ _ _ (omega (arith, c.saturating_add.ensures, c.if-saturating_add-gt-MAX_PATH.false)) c.put.ensures c.put-2.ensures
