-- A byte of a name, where there is room for it.
use mathlib.Core.Path.{◌≡◌, sym, ◌∙◌}
use mathlib.Core.List.{[], ◌∷◌}
use lib.ListN.{length, length-take}
use Prim.Native.Nat.{◌≤◌, ◌<◌}
use borrow.Author.Tests.{ne_eqb}
use borrow.Author.Rules.{rules}
use native.Mathlib.Omega.{arith}
use Rattle.lines.proofs.LineLaws.{byte_full, byte_added}
use Rattle.lines.specs.declared.Line.{Line}
use Rattle.lines.specs.Line.{line_of, hex_byte, shown_byte}
use Rattle.lines.proofs.Line.push_byte.Goals as goal

-- how much the line holds
beyond : (line : Line) → length line.text ≡ 8192 → 8000 < line.length → 8000 < length (line_of line)
unfolding line_of
beyond line size h = omega (arith, length-take line.length line.text, size, h)

within : (line : Line) → line.length ≤ 8000 → length (line_of line) ≤ 8000
unfolding line_of
within line h = omega (arith, length-take line.length line.text, h)

pub returns-then-self-gt-NAME_ROOM-clause-value : goal.returns-then-self-gt-NAME_ROOM-clause-value
returns-then-self-gt-NAME_ROOM-clause-value c =
    byte_full _ c.args.byte (beyond c.args.self.now (search rules) c.if-self-gt-NAME_ROOM.true)

pub returns-then-is_control-clause-value : goal.returns-then-is_control-clause-value
unfolding shown_byte
returns-then-is_control-clause-value c =
    let shown : 92 ∷ 120 ∷ hex_byte c.args.byte ≡ shown_byte c.args.byte = rw (sym c.is_control.ensures ∙ c.if-is_control.true) in
    c.push.ensures.value
    ∙ byte_added _ _ c.args.byte (within c.args.self.now c.if-self-gt-NAME_ROOM.false) (c.escape.ensures ∙ shown)

pub returns-then-byte-eq92-clause-value : goal.returns-then-byte-eq92-clause-value
unfolding shown_byte
returns-then-byte-eq92-clause-value c =
    let shown : 92 ∷ 92 ∷ [] ≡ shown_byte c.args.byte = rw c.if-byte-eq92.true in
    c.push-then-byte-eq92.ensures.value
    ∙ byte_added _ _ c.args.byte (within c.args.self.now c.if-self-gt-NAME_ROOM.false) shown

pub returns-else-byte-eq92-clause-value : goal.returns-else-byte-eq92-clause-value
unfolding shown_byte
returns-else-byte-eq92-clause-value c =
    let shown : c.args.byte ∷ [] ≡ shown_byte c.args.byte =
    rw (sym c.is_control.ensures ∙ c.if-is_control.false, ne_eqb _ 92 c.if-byte-eq92.false) in
    c.push-else-byte-eq92.ensures.value
    ∙ byte_added _ _ c.args.byte (within c.args.self.now c.if-self-gt-NAME_ROOM.false) shown
