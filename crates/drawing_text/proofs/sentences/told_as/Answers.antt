-- `drawing_text::sentences::told_as` meets its contract.
use native.Mathlib.Omega.{arith}
use Rattle.drawing_text.proofs.TellingLaws.{told-known, told-other}
use Rattle.drawing_text.proofs.sentences.told_as.Goals as goal

pub returns-in-1 : goal.returns-in-1
returns-in-1 c = let told = told-known _ 1 c.in-1.is in record { words = told.0; differs = told.1 }

pub returns-in-8 : goal.returns-in-8
returns-in-8 c = let told = told-known _ 8 c.in-8.is in record { words = told.0; differs = told.1 }

pub returns-in-9 : goal.returns-in-9
returns-in-9 c = let told = told-known _ 9 c.in-9.is in record { words = told.0; differs = told.1 }

pub returns-in-10 : goal.returns-in-10
returns-in-10 c = let told = told-known _ 10 c.in-10.is in record { words = told.0; differs = told.1 }

pub returns-in-11 : goal.returns-in-11
returns-in-11 c = let told = told-known _ 11 c.in-11.is in record { words = told.0; differs = told.1 }

pub returns-in-12 : goal.returns-in-12
returns-in-12 c = let told = told-known _ 12 c.in-12.is in record { words = told.0; differs = told.1 }

pub returns-in-13 : goal.returns-in-13
returns-in-13 c = let told = told-known _ 13 c.in-13.is in record { words = told.0; differs = told.1 }

pub returns-in-14 : goal.returns-in-14
returns-in-14 c = let told = told-known _ 14 c.in-14.is in record { words = told.0; differs = told.1 }

pub returns-in-15 : goal.returns-in-15
returns-in-15 c = let told = told-known _ 15 c.in-15.is in record { words = told.0; differs = told.1 }

pub returns-in_default : goal.returns-in_default
returns-in_default c =
    let told =
    told-other c.args.number (omega arith) (omega arith) (omega arith) (omega arith) (omega arith) (omega arith) (omega arith) (omega arith)
    (omega arith) in
    record { words = told.0; differs = told.1 }
