-- `lines::texts::fact_bytes` meets its contract.
use native.Mathlib.Omega.{arith}
use Rattle.lines.proofs.LineLaws.{first, more, more-hex}
use Rattle.lines.specs.Texts.{bytes_text}
use Rattle.lines.proofs.texts.fact_bytes.Goals as goal

pub returns-clause-value : goal.returns-clause-value
unfolding bytes_text
returns-clause-value c =
    let named = first _ _ _ 1000 c.new.ensures.value c.add.ensures.value c.requires.0 (omega arith) in
    (more _ 1 (more-hex _ 1000 named c.add_hex.ensures.value c.requires.1 (omega arith)) c.add-2.ensures.value (omega arith) (omega arith)).out
