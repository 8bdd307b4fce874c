-- What `chain` prints of a drawing, in bytes.
use Rattle.std.specs.Prelude.{◌≡◌, ℕ, ◌≤◌, List, Result, Ok, Err, length, take}
use Rattle.base.specs.Number.{number_of}
use Rattle.chain_theory.specs.Ways.{chain_codes}
use Rattle.planning.specs.Output.{places}
use Rattle.base.specs.declared.refusal.Rejection.{Rejection}
use Rattle.draw.specs.declared.Drawing.{Drawing}
use Rattle.draw.specs.declared.Drawing.TheVariants.{Chain, Clash}
use Rattle.draw.specs.Drawing.{drawn_chain, leaves_of, drawing_of}
use Rattle.drawing_text.specs.declared.Found.{Found}
use Rattle.drawing_text.specs.Verdict.{refusal_text, clash_lines}

-- a refusal, as `verify` tells it; the plan's text; or a clash, with both inputs
abbrev pub chain_text : Result Drawing Rejection → ℕ → ℕ → Found → ℕ → List ℕ → List ℕ
chain_text (Err why) n t found size plan = refusal_text (number_of why.refusal) why.opening size found n t
chain_text (Ok (Chain nodes)) n t found size plan = plan
chain_text (Ok (Clash clash)) n t found size plan = clash_lines clash

-- a chain that was drawn of a file stands in the list's first places
abbrev pub ChainIn : Result Drawing Rejection → List ℕ → List ℕ → List ℕ → ℕ → ℕ → Type 0
ChainIn drawing list bytes statement n t =
    (nodes : ℕ) → drawing ≡ Ok (Chain nodes)
    → (drawing_of bytes statement n t places ≡ drawn_chain nodes)
    × (nodes ≤ length list)
    × (take nodes list ≡ chain_codes n (leaves_of bytes statement n t))
