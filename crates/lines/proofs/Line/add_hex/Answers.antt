-- Byte by byte.
use mathlib.Core.Path.{sym, ◌∙◌}
use Rattle.lines.specs.Line.{line_of}
use Rattle.lines.proofs.LineLaws.{hex-turn, hex-end}
use Rattle.lines.proofs.Line.add_hex.Goals as goal

pub loop-byte-preserved : goal.loop-byte-preserved
loop-byte-preserved c =
    let l = c.loop-byte in record {
      same =
          rw (c.push.ensures.value, c.hex_byte.ensures)
          (sym (hex-turn (line_of l.line) c.args.bytes.now l.byte-index c.loop-byte-test.true) ∙ l.invariant.same);
      in_room = λ h. c.push.ensures.in_room (l.invariant.in_room h);
    }

pub returns-clause-value : goal.returns-clause-value
returns-clause-value c =
    let l = c.loop-byte in sym (hex-end (line_of l.line) c.args.bytes.now l.byte-index c.loop-byte-test.false) ∙ l.invariant.same
