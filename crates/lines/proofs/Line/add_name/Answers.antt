-- Byte by byte.
use mathlib.Core.Path.{sym, ◌∙◌}
use Rattle.lines.specs.Line.{line_of}
use Rattle.lines.proofs.LineLaws.{name-turn, name-end}
use Rattle.lines.proofs.Line.add_name.Goals as goal

pub loop-byte-preserved : goal.loop-byte-preserved
loop-byte-preserved c =
    let l = c.loop-byte in record {
      same =
          rw c.push_byte.ensures.value (sym (name-turn (line_of l.line) c.args.name.now l.byte-index c.loop-byte-test.true) ∙ l.invariant.same);
      in_room = λ h. c.push_byte.ensures.in_room (l.invariant.in_room h);
    }

pub returns-clause-value : goal.returns-clause-value
returns-clause-value c =
    let l = c.loop-byte in sym (name-end (line_of l.line) c.args.name.now l.byte-index c.loop-byte-test.false) ∙ l.invariant.same
