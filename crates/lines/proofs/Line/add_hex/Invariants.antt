-- The invariant: what is left to show gives the same line, and a line in its room stays there.
use mathlib.Core.Path.{◌≡◌}
use lib.ListN.{drop}
use Rattle.lines.specs.Line.{IsInRoom, line_of, added_hex}
use Rattle.lines.proofs.Line.add_hex.Given as goal

abbrev pub invariant-loop-byte : goal.invariant-loop-byte
invariant-loop-byte l = record {
  same : added_hex (line_of l.line) (drop l.byte-index l.bytes) ≡ added_hex (line_of l.initial.line) l.bytes;
  in_room : IsInRoom l.initial.line → IsInRoom l.line;
}
