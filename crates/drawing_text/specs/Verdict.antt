-- What is told of a proof, in bytes.
use Rattle.std.specs.Prelude.{ℕ, List, [], ◌++◌, Result, Ok, Err, eqb}
use Rattle.base.specs.Choice.{pick}
use Rattle.base.specs.Number.{number_of}
use Rattle.decimal.specs.Ascii.{ascii}
use Rattle.lines.specs.Texts.{fact_text, bytes_text, accepted_text, rejected_text, clash_text}
use Rattle.base.specs.declared.refusal.Rejection.{Rejection}
use Rattle.compare.specs.declared.Clash.{Clash}
use Rattle.draw.specs.declared.Drawing.{Drawing}
use Rattle.draw.specs.declared.Drawing.TheVariants.{Chain}
use Rattle.draw.specs.declared.Drawing.TheVariants as answers
use Rattle.drawing_text.specs.declared.Found.{Found}
use Rattle.drawing_text.specs.Plain.{plain_text}
use Rattle.drawing_text.specs.Differ.{differ_text}

-- why a file of so many bytes is refused: for 9 what differs from the depth and count wanted, else in plain words
unfoldable pub why_text : ℕ → ℕ → Found → ℕ → ℕ → List ℕ
why_text number size found n t = pick (eqb number 9) (differ_text found n t) (plain_text number size)

-- a refusal: why, then `refused`, its number and the opening's
unfoldable pub refusal_text : ℕ → ℕ → ℕ → Found → ℕ → ℕ → List ℕ
refusal_text number opening size found n t = why_text number size found n t ++ rejected_text number opening

-- a clash: the pair and the level, and both inputs in hexadecimal
unfoldable pub clash_lines : Clash → List ℕ
clash_lines clash =
    clash_text clash.pair.first clash.pair.second clash.pair.level
    ++ bytes_text (ascii "first ") clash.first
    ++ bytes_text (ascii "second ") clash.second

-- the edition by which a file was accepted; nothing of one that is refused
abbrev pub edition_text : Result Drawing Rejection → ℕ → List ℕ
edition_text (Err why) edition = []
edition_text (Ok drawing) edition = fact_text (ascii "edition ") edition

-- depth and count wanted; nothing for depth 0, which stands for a head that cannot be read
unfoldable pub wanted_text : ℕ → ℕ → List ℕ
wanted_text n t = pick (eqb n 0) [] (fact_text (ascii "depth ") n ++ fact_text (ascii "challenges ") t)

-- an accepted file whose openings clash
unfoldable pub no_chain_text : ℕ → ℕ → List ℕ
no_chain_text n t =
    ascii "two openings clash, so there is no chain; 'mastdock chain' shows both inputs\n" ++ accepted_text n t 0

abbrev pub judged_text : Result Drawing Rejection → ℕ → ℕ → Found → ℕ → List ℕ
judged_text (Err why) n t found size = refusal_text (number_of why.refusal) why.opening size found n t
judged_text (Ok (Chain nodes)) n t found size = accepted_text n t nodes
judged_text (Ok (answers.Clash clash)) n t found size = no_chain_text n t

-- all that `verify` prints of a drawing, by the depth and count wanted, what the file's head says and the file's size
unfoldable pub verdict_text : Result Drawing Rejection → ℕ → ℕ → Found → ℕ → List ℕ
verdict_text drawing n t found size = edition_text drawing found.edition ++ wanted_text n t ++ judged_text drawing n t found size
