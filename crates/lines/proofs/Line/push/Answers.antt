-- A part is laid behind the line where it fits.
use mathlib.Core.Path.{◌≡◌}
use lib.ListN.{length}
use Rattle.lines.proofs.LineLaws.{laid, laid_none, laid-full}
use Rattle.lines.specs.Line.{line_of}
use borrow.Author.Rules.{rules}
use Rattle.lines.proofs.Line.push.Goals as goal

pub returns-then-at-gt-ROOM-clause-value : goal.returns-then-at-gt-ROOM-clause-value
unfolding line_of
returns-then-at-gt-ROOM-clause-value c =
    let line = c.args.self.now in
    let size : length line.text ≡ 8192 = search rules in
    laid_none line.text c.args.part.now line.length size c.if-at-gt-ROOM.true

pub returns-then-at-part-clause-value : goal.returns-then-at-part-clause-value
unfolding line_of
returns-then-at-part-clause-value c =
    let line = c.args.self.now in
    let size : length line.text ≡ 8192 = search rules in
    laid-full line.text c.args.part.now line.length size c.if-at-gt-ROOM.false c.if-at-part.true

pub returns-clause-value : goal.returns-clause-value
unfolding line_of
returns-clause-value c =
    let line = c.args.self.now in
    let size : length line.text ≡ 8192 = search rules in
    laid line.text c.args.part.now _ line.length size c.if-at-gt-ROOM.false c.if-at-part.false c.put.ensures
