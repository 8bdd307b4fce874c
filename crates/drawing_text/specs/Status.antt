-- The exit status: 0 where a file is accepted, drawn or told, 1 where it is refused.
use Rattle.std.specs.Prelude.{ℕ, List, Result, Ok, Err}
use Rattle.base.specs.Choice.{pick}
use Rattle.base.specs.Row.{is_done}
use Rattle.base.specs.declared.refusal.Rejection.{Rejection}
use Rattle.draw.specs.declared.Drawing.{Drawing}
use Rattle.draw.specs.declared.Drawing.TheVariants.{Chain, Clash}
use Rattle.drawing_text.specs.Info.{shape_refusal}

-- of `verify`: a file whose openings clash is accepted
abbrev pub verdict_status : Result Drawing Rejection → ℕ
verdict_status (Ok drawing) = 0
verdict_status (Err why) = 1

-- of `chain`
abbrev pub chain_status : Result Drawing Rejection → ℕ
chain_status (Ok (Chain nodes)) = 0
chain_status (Ok (Clash clash)) = 1
chain_status (Err why) = 1

-- of `info`: 1 just where `info_text` ends with a refusal
unfoldable pub info_status : List ℕ → ℕ
info_status bytes = pick (is_done (shape_refusal bytes)) 0 1
