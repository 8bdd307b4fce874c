-- `Line::as_bytes` meets its contract, whatever the length is.
use borrow.Author.Rules.{rules}
use native.Mathlib.Omega.{arith}
use Rattle.lines.proofs.LineLaws.{held}
use Rattle.lines.specs.Line.{line_of}
use Rattle.lines.proofs.Line.as_bytes.Goals as goal

pub returns-clause-value : goal.returns-clause-value
unfolding line_of
returns-clause-value c = held c.args.self.now.text c.args.self.now.length _ (search rules) (omega (arith, c.min-end.ensures))
